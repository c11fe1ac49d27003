-- The loop of a run over well-formed nets: the run is one from the net reached, after the steps made, by the draws that are left. A step
-- leads on, or out of the form, where the run stops. Assumes nothing.
use Rattle.std.proofs.Common.{◌≡◌, ℕ, ◌+◌, ◌<◌, ◌≤◌, true, false, eqb, List, length, get_or, drop, sym, ap, ◌∙◌, eq-eqb, Option, Some, None}
use Rattle.refusal.specs.declared.Refusal.{Refusal}
use Rattle.refusal.specs.declared.Refusal.TheVariants.{OutOfForm, NothingAllowed}
use Rattle.refusal.specs.Refusal.{number_of}
use Rattle.schedule.specs.declared.Step.{Step}
use Rattle.schedule.specs.declared.Ran.{Ran}
use Rattle.schedule.specs.Rules.{Rules}
use Rattle.schedule.specs.Listing.{listed}
use Rattle.schedule.specs.Outcome.{StepOutcome, step_made, step_refused, run_outcome_of}
use Rattle.schedule.specs.Draws.{picked, draw_on, stopped, run_on}
use Rattle.schedule.proofs.Picks.{none-picked}
use Rattle.schedule.proofs.Outcomes.{run_from, run_from-start, run_used_up, run_refused, run_on_lem, run_unformed, stopped_formed, stopped_unformed}
use Rattle.schedule.proofs.Drawing.{drawn_nothing, drawn_accepted}

-- what a run comes to, by what it gives
pub outcome_of : {Net : Type 0} {r s : Ran} → r ≡ s → (net : Net) → run_outcome_of r net ≡ run_outcome_of s net
outcome_of e net = ap (λ (x : Ran). run_outcome_of x net) e

module _ {Net : Type 0} (R : Rules Net) where
  pub record Running (first : Net) (draws : List ℕ) (here : Net) (made : ℕ) : Type 0 where
    pub formed : R.well_formed here ≡ true
    pub left : run_on R first draws ≡ run_from R here made (drop made draws)

  pub run_starts : (net : Net) (draws : List ℕ) → R.well_formed net ≡ true → Running net draws net 0
  run_starts net draws f = record { formed = f; left = run_from-start R net draws }

  run_barred : (net : Net) (draws : List ℕ) → R.well_formed net ≡ false → run_on R net draws ≡ stopped R net 0
  run_barred net draws f = run_from-start R net draws ∙ run_unformed R net 0 0 draws f

  module _ {first : Net} {draws : List ℕ} {here : Net} {made : ℕ} (r : Running first draws here made) where
    ends_used_up : length draws ≤ made → run_on R first draws ≡ stopped R here made
    ends_used_up h = r.left ∙ run_used_up R here made made draws h

    module _ (h : made < length draws) where
      ends_refused : (why : Refusal) → draw_on R here (get_or draws made 0) ≡ step_refused why here → run_on R first draws ≡ stopped R here made
      ends_refused why z = r.left ∙ run_refused R here made made draws h (ap (λ (o : StepOutcome Net). o.made) z)

      module _ {s : Step} {next : Net} (a : draw_on R here (get_or draws made 0) ≡ step_made s next) where
        further : run_on R first draws ≡ run_from R next (made + 1) (drop (made + 1) draws)
        further =
            r.left
            ∙ run_on_lem R here made made draws s h (ap (λ (o : StepOutcome Net). o.made) a)
            ∙ ap (λ (o : StepOutcome Net). run_from R o.net (made + 1) (drop (made + 1) draws)) a

        goes_on : R.well_formed next ≡ true → Running first draws next (made + 1)
        goes_on f = record { formed = f; left = further }

        ends_unformed : R.well_formed next ≡ false → run_on R first draws ≡ stopped R next (made + 1)
        ends_unformed f = further ∙ run_unformed R next (made + 1) (made + 1) draws f

  -- the same ends, with what a run gives there
  pub barred_with : (net : Net) (draws : List ℕ) → R.well_formed net ≡ false
      → run_on R net draws ≡ record { number = number_of OutOfForm; steps = 0; rest = false; net = net }
  barred_with net draws f = run_barred net draws f ∙ stopped_unformed R net 0 f

  -- by what is listed in the net reached
  module _ {first : Net} {draws : List ℕ} {here : Net} {made : ℕ} (r : Running first draws here made) where
    pub used_up_with : length draws ≤ made → {c : ℕ} → c ≡ length (listed R here)
        → run_on R first draws ≡ record { number = 0; steps = made; rest = eqb c 0; net = here }
    used_up_with h e = rw e (ends_used_up r h ∙ stopped_formed R here made r.formed)

    module _ (h : made < length draws) {p : Option Step} (e : p ≡ picked (listed R here) (get_or draws made 0)) where
      pub at-rest_with : p ≡ None → run_on R first draws ≡ record { number = 0; steps = made; rest = true; net = here }
      at-rest_with q =
          ends_refused r h NothingAllowed (drawn_nothing R here _ e r.formed q)
          ∙ stopped_formed R here made r.formed
          ∙ rw (eq-eqb (length (listed R here)) 0 (none-picked (listed R here) (get_or draws made 0) (sym e ∙ q)))

      -- the step drawn, and the net after it
      module _ {s : Step} (q : p ≡ Some s) {next : Net} (u : next ≡ R.apply here s) where
        accepts : draw_on R here (get_or draws made 0) ≡ step_made s next
        accepts = drawn_accepted R here _ e r.formed q ∙ ap (step_made s) (sym u)

        pub goes_on_with : R.well_formed next ≡ true → Running first draws next (made + 1)
        goes_on_with f = goes_on r h accepts f

        pub unformed_with : R.well_formed next ≡ false
            → run_on R first draws ≡ record { number = number_of OutOfForm; steps = made + 1; rest = false; net = next }
        unformed_with f = ends_unformed r h accepts f ∙ stopped_unformed R next (made + 1) f
