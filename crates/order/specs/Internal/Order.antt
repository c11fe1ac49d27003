-- Demand 3 for a kind of net (document 01, "Lists of calls"): what holds of its fresh net after any list of steps, draws and runs,
-- refused ones included.
use Rattle.std.specs.Prelude.{◌≡◌, Bool, true, List, map, ℕ, ◌+◌, ◌*◌, min, length}
use Rattle.finite.specs.Internal.Monoid.{CommMonoid}
use Rattle.finite.specs.Links.{links}
use Rattle.wave.specs.Internal.Claim.{AtRest, WaveClaim}
use Rattle.schedule.specs.Rules.{Rules, allowed}
use Rattle.schedule.specs.Draws.{run_on}
use Rattle.schedule.specs.Calls.{Call, calls_made, calls_net}
use Rattle.schedule.specs.Internal.Labels.{label_of}

-- The kind of net is R, the fresh net that of a map of k stations with these links and counts, and `held` what the root holds.
pub record OrderFree {Net A : Type 0} (R : Rules Net) (k : ℕ) (adj : ℕ → ℕ → Bool) (M : CommMonoid A) (counts : ℕ → A) (fresh : Net) (held : Net → A) : Type 0 where
  -- "a single claim about a whole list, and not one for each call"; "The number reported is the desk's sum in the net that the list leaves"
  pub demand : (calls : List Call)
      → WaveClaim k adj M counts (map (label_of R) (calls_made R fresh calls))
      (AtRest (λ net s. allowed R net s ≡ true) (calls_net R fresh calls))
      (held (calls_net R fresh calls))
  -- "From a fresh net that number is the smaller of the draw count and 2 × m + 1" (Stations that meet)
  pub run_formula : (draws : List ℕ) → (run_on R fresh draws).steps ≡ min (length draws) (2 * links k adj + 1)
  -- every net that calls lead to is in form, so number 11 never comes
  pub formed : (calls : List Call) → R.well_formed (calls_net R fresh calls) ≡ true
