-- Totals carried back to the heads (document 02, request 8), for a kind of net that has a kind of step `tell`: what holds of its fresh net
-- after any list of steps, draws and runs, refused ones included.
use Rattle.std.specs.Prelude.{◌≡◌, Bool, true, false, not, List, [], ◌++◌, map, ◌↔◌, ℕ, ◌+◌, ◌*◌, ◌<◌, ◌≤◌, min, length, eqb}
use Rattle.finite.specs.Internal.Monoid.{CommMonoid, sum_to}
use Rattle.finite.specs.Links.{links}
use Rattle.wave.specs.Internal.Wave.{report}
use Rattle.wave.specs.Internal.Claim.{times, AtRest, WaveClaim}
use Rattle.schedule.specs.declared.Step.{Step}
use Rattle.schedule.specs.Rules.{Rules, allowed}
use Rattle.schedule.specs.Listing.{select}
use Rattle.schedule.specs.Draws.{run_on}
use Rattle.schedule.specs.Calls.{Call, calls_made, calls_net}
use Rattle.schedule.specs.Internal.Labels.{label_of}

-- "kind 5 `tell`"
abbrev pub is_tell : ℕ → Step → Bool
is_tell tell s = eqb s.kind tell

-- "the steps made .. are those of kinds 1 to 4", in their order
abbrev pub wave_steps : ℕ → List Step → List Step
wave_steps tell made = select (λ s. not (is_tell tell s)) made

-- the tells, in their order
abbrev pub tells_of : ℕ → List Step → List Step
tells_of tell made = select (is_tell tell) made

-- On k stations with these links: what holds of the steps made, and of the net that they leave. There `held` is what the desk holds,
-- `knows` says which stations know the total, and `known` what they know.
pub record Back {Net A : Type 0} (R : Rules Net) (tell k : ℕ) (adj : ℕ → ℕ → Bool) (M : CommMonoid A) (counts : ℕ → A)
    (held : Net → A) (knows : Net → ℕ → Bool) (known : Net → ℕ → A) (made : List Step) (end : Net) : Type 0 where
  -- "in demand 3 the steps made, the steps allowed, the report as the last of them and the messages each way are those of kinds 1 to 4"
  pub demand : WaveClaim k adj M counts (map (label_of R) (wave_steps tell made))
      (AtRest (λ net s. (is_tell tell s ≡ false) × (allowed R net s ≡ true)) end) (held end)
  -- "only tells follow the report", and without a report there are none
  pub tells_last : made ≡ wave_steps tell made ++ tells_of tell made
  pub tells-after : times report (map (label_of R) (wave_steps tell made)) ≡ 0 → tells_of tell made ≡ []
  -- never more than 2m + k steps, and "a full run has 2 × m + k steps on m links, whichever order is taken"
  pub at_most : length made ≤ 2 * links k adj + k
  pub rest-full : AtRest (λ net s. allowed R net s ≡ true) end ↔ (length made ≡ 2 * links k adj + k)
  -- "and ends with every station knowing"
  pub full-known : (length made ≡ 2 * links k adj + k) ↔ ((i : ℕ) → i < k → knows end i ≡ true)
  -- "the reported total": before the end too, whoever knows one knows that of all counts
  pub total-known : (i : ℕ) → i < k → knows end i ≡ true → known end i ≡ sum_to M k counts

-- so it is after every list of calls
pub record CarriedBack {Net A : Type 0} (R : Rules Net) (tell k : ℕ) (adj : ℕ → ℕ → Bool) (M : CommMonoid A) (counts : ℕ → A)
    (fresh : Net) (held : Net → A) (knows : Net → ℕ → Bool) (known : Net → ℕ → A) : Type 0 where
  pub back : (calls : List Call) → Back R tell k adj M counts held knows known (calls_made R fresh calls) (calls_net R fresh calls)
  -- "For such nets the run's formula has 2 × m + k in place of 2 × m + 1"
  pub run_formula : (draws : List ℕ) → (run_on R fresh draws).steps ≡ min (length draws) (2 * links k adj + k)
  -- every net that calls lead to is in form, so number 11 never comes
  pub formed : (calls : List Call) → R.well_formed (calls_net R fresh calls) ≡ true
