-- Totals carried back to the heads (document 02, request 8): what else is claimed of nets of stations that meet that are opened so. The theorem is
-- `carried` (proofs/Carrying).
use Rattle.std.specs.Prelude.{◌≡◌, true, List, [], ◌++◌, ◌↔◌, ℕ, ◌+◌, ◌*◌, ◌≤◌, ◌<◌, length}
use Rattle.aggregate.specs.Aggregate.{cell}
use Rattle.linemap.specs.declared.Map.{Map}
use Rattle.linemap.specs.Maps.{link_count, totals}
use Rattle.schedule.specs.declared.Step.{Step}
use Rattle.schedule.specs.Listing.{select}
use Rattle.schedule.specs.Draws.{step_on}
use Rattle.schedule.specs.Calls.{Call}
use Rattle.rendezvous.specs.Telling.{is_tell, knows, known}
use Rattle.rendezvous.specs.Rules.{rules}
use Rattle.demand.specs.Kinds.{carrying, made, left, steps, reports}
use Rattle.demand.specs.Demand.{OnEveryMap, OnEveryWay}
use Rattle.demand.specs.Further.{Final, FreshRun}

-- "a full run has 2 × m + k steps on m links"
abbrev pub full : Map → ℕ
full m = 2 * link_count m + m.k

-- the tells among the steps made
abbrev pub tells : ℕ → Map → List Call → List Step
tells way m calls = select is_tell (made (carrying way) m calls)

-- what holds of one way and on one map after one list of calls
pub record CarriedOn (way : ℕ) (m : Map) (calls : List Call) : Type 0 where
  -- "only tells follow the report", and none goes before it
  pub tells_follow : made (carrying way) m calls ≡ steps (carrying way) m calls ++ tells way m calls
  pub no_tell_before : reports (carrying way) m calls ≡ 0 → tells way m calls ≡ []
  -- "a full run has 2 × m + k steps .., whichever order is taken": at rest is where so many were made, and never more are
  pub at_most : length (made (carrying way) m calls) ≤ full m
  pub rest-full : ((s : Step) → (step_on rules (left (carrying way) m calls) s).number ≡ 0 → ⊥) ↔ (length (made (carrying way) m calls) ≡ full m)
  -- "and ends with every station knowing the reported total"
  pub full-known : (length (made (carrying way) m calls) ≡ full m) ↔ ((i : ℕ) → i < m.k → knows (left (carrying way) m calls) i ≡ true)
  -- before the end, too, whoever knows a total knows that of all counts, class by class
  pub total-known : (i : ℕ) → i < m.k → knows (left (carrying way) m calls) i ≡ true
      → (j : ℕ) → j < m.classes → cell (known (left (carrying way) m calls) i) j ≡ totals way m j
  -- and a full net stays as it is
  pub final : length (made (carrying way) m calls) ≡ full m → Final rules (left (carrying way) m calls)

-- all of it, of every way, on every accepted map, after every list of calls
pub record Carried : Type 0 where
  pub back : OnEveryWay (λ way. OnEveryMap (CarriedOn way))
  -- "For such nets the run's formula has 2 × m + k in place of 2 × m + 1"
  pub run_formula : OnEveryWay (λ way. OnEveryMap (λ m draws. FreshRun (carrying way) (full m) m draws))
