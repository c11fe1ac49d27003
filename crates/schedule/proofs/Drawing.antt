-- What a draw makes of the list of what a net allows, and what the code of a net makes of its rows and their sizes: they list what the net
-- allows, so the total is the number of the allowed steps and a pick the draw's. Assumes nothing.
use Rattle.std.proofs.Common.{◌≡◌, ℕ, ◌<◌, ◌≤◌, true, List, length, sym, ap, ◌∙◌, arith, Option, Some, None}
use Rattle.bitset.specs.Internal.Selected.{set_of}
use Rattle.refusal.specs.declared.Refusal.TheVariants.{NothingAllowed}
use Rattle.schedule.specs.declared.Step.{Step}
use Rattle.schedule.specs.declared.rows.Sizes.{Sizes}
use Rattle.schedule.specs.Rules.{Rules, allowed}
use Rattle.schedule.specs.Listing.{step, listed}
use Rattle.schedule.specs.Outcome.{step_made, step_refused}
use Rattle.schedule.specs.Draws.{picked, draw_on}
use Rattle.schedule.specs.Rows.{row_at, total_of, picked_by_size, picked_beside}
use Rattle.schedule.specs.Internal.Rows.{Filled}
use Rattle.schedule.proofs.RowLists.{rows_list, rows_list_beside}
use Rattle.schedule.proofs.Sized.{total-listed, picked_by_size_lem}
use Rattle.schedule.proofs.Beside.{picked_beside_lem}
use Rattle.schedule.proofs.Outcomes.{draw_nothing, draw_picked}
use Rattle.schedule.proofs.Answers.{picked-allowed}

-- what is picked of the list
module _ {Net : Type 0} (R : Rules Net) (net : Net) (d : ℕ) {p : Option Step} (e : p ≡ picked (listed R net) d) where
  pub drawn_allowed : {s : Step} → p ≡ Some s → allowed R net s ≡ true
  drawn_allowed {s} q = picked-allowed R net s d (sym e ∙ q)

  module _ (f : R.well_formed net ≡ true) where
    pub drawn_nothing : p ≡ None → draw_on R net d ≡ step_refused NothingAllowed net
    drawn_nothing q = draw_nothing R net d f (sym e ∙ q)

    pub drawn_accepted : {s : Step} → p ≡ Some s → draw_on R net d ≡ step_made s (R.apply net s)
    drawn_accepted {s} q = draw_picked R net d f s (sym e ∙ q)

-- by rows
module _ {Net : Type 0} (R : Rules Net) (net : Net) {rows : List ℕ} {z : Sizes} (F : Filled R net rows z) where
  low : R.stations net ≤ 255
  low = omega (arith, F.few)

  -- in a net of four kinds or fewer
  module _ (kinds : R.kinds net ≤ 4) where
    -- how many steps are allowed
    pub total-is : total_of z ≡ length (listed R net)
    total-is =
        ap total_of F.sizes
        ∙ total-listed rows (R.stations net) low
        ∙ ap (λ (l : List Step). length l) (rows_list R net rows F.are F.few kinds)

    pub of_list : (d : ℕ) {p : Option Step} → p ≡ picked_by_size rows z (R.stations net) d → p ≡ picked (listed R net) d
    of_list d e =
        e
        ∙ picked_by_size_lem rows (R.stations net) low F.sizes d
        ∙ ap (λ (l : List Step). picked l d) (rows_list R net rows F.are F.few kinds)

  -- in a net of five, with the rows of the fifth beside
  pub of_list_beside : R.kinds net ≡ 5 → (more : List ℕ)
      → ((s : ℕ) → s < R.stations net → row_at more 5 s ≡ set_of (R.stations net) (λ r. allowed R net (step 5 s r)))
      → (d : ℕ) {p : Option Step} → p ≡ picked_beside rows z more (R.stations net) d → p ≡ picked (listed R net) d
  of_list_beside kinds more fifth d e =
      e
      ∙ picked_beside_lem rows (R.stations net) more low F.sizes d
      ∙ ap (λ (l : List Step). picked l d) (rows_list_beside R net rows F.are F.few more fifth kinds)
