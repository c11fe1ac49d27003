-- Demand 3, clause by clause, in its own words: "On every accepted map with m links, from the fresh net of either kind, this holds after every
-- list of steps, draws and runs, whoever chooses them and in whatever order, refused ones included". The theorem is `demand` (proofs/Demand).
use Rattle.std.specs.Prelude.{◌≡◌, true, false, List, ◌↔◌, ℕ, ◌+◌, ◌-◌, ◌*◌, ◌≤◌, ◌<◌, length, get_or}
use Rattle.aggregate.specs.Ways.{is_way}
use Rattle.aggregate.specs.Aggregate.{cell}
use Rattle.aggregate.specs.Reported.{Reported}
use Rattle.topology.specs.Answer.{accepted}
use Rattle.topology.specs.Acceptance.{linked}
use Rattle.linemap.specs.declared.Map.{Map}
use Rattle.linemap.specs.Maps.{acceptance, link_count, count_at, totals}
use Rattle.linemap.specs.RoundTrip.{Fits}
use Rattle.schedule.specs.declared.Step.{Step}
use Rattle.schedule.specs.Listing.{step}
use Rattle.schedule.specs.Draws.{step_on}
use Rattle.schedule.specs.Calls.{Call}
use Rattle.demand.specs.Kinds.{Kind, meeting, carrying, mailing, desk_report, desk_held, left, steps, reports, messages}

-- what holds on one map after one list of calls
pub record Holds (K : Kind) (m : Map) (calls : List Call) : Type 0 where
  -- "The desk has reported at most once,"
  pub reported_once : reports K m calls ≤ 1
  -- "and no link has carried more than one message in either direction."
  pub carried_once : (i j : ℕ) → messages K m calls i j ≤ 1
  -- a message is "carried by the link of its two stations" (Lists of calls): no other pair has carried one
  pub by-links : (i j : ℕ) → linked m.k m.neighbours i j ≡ false → messages K m calls i j ≡ 0
  -- "The report has been made exactly when no step is allowed any more,": every single step that is counted is refused
  pub report-rest : (reports K m calls ≡ 1) ↔ ((s : Step) → K.counts s ≡ true → (step_on K.rules (left K m calls) s).number ≡ 0 → ⊥)
  -- "and exactly when 2 × m + 1 steps have been made."
  pub report-full : (reports K m calls ≡ 1) ↔ (length (steps K m calls) ≡ 2 * link_count m + 1)
  -- "Then the report was the last of them,": "Every order must now end in that desk's report" (document 02, request 5)
  pub report_last : reports K m calls ≡ 1 → get_or (steps K m calls) (length (steps K m calls) - 1) (step 0 0 0) ≡ desk_report K m
  -- "the number reported is the sum of all the map's counts,": "the sum over heads with a reading, together with how many had none, in every
  -- order of steps" (document 02, request 1), "so that each class reports its own total" (request 2); "The report equals the joining of all the map's
  -- readings" (request 10)
  pub number-reported : reports K m calls ≡ 1 → (j : ℕ) → j < m.classes → cell (desk_held K m (left K m calls)) j ≡ totals K.way m j
  -- which is, in plain words, the sum, the greatest or the least of them, or their number, with how many are missing
  pub in_words : reports K m calls ≡ 1 → (j : ℕ) → j < m.classes
      → Reported K.way m.k (λ i. count_at m i j) (cell (desk_held K m (left K m calls)) j)
  -- "and each link has carried exactly one message each way."
  pub each_way : reports K m calls ≡ 1 → (i j : ℕ) → linked m.k m.neighbours i j ≡ true
      → (messages K m calls i j ≡ 1) × (messages K m calls j i ≡ 1)

-- "On every accepted map": of counts and sets that fit their fields, as in every map that code holds, and as every map that is read has (`Read`)
abbrev pub OnEveryMap : {A : Type 0} → (Map → A → Type 0) → Type 0
OnEveryMap {A = A} Claim = (m : Map) → Fits m → acceptance m ≡ accepted → (a : A) → Claim m a

-- "for all ways" (document 02, request 10)
abbrev pub OnEveryWay : (ℕ → Type 0) → Type 0
OnEveryWay Claim = (way : ℕ) → is_way way ≡ true → Claim way

-- "from the fresh net of either kind, this holds after every list of steps, draws and runs". "So nobody can stop the desk short of its report,
-- make it report twice, or make it report another number."
pub record Demand : Type 0 where
  pub stations_that_meet : OnEveryWay (λ way. OnEveryMap (Holds (meeting way)))
  pub carrying-back : OnEveryWay (λ way. OnEveryMap (Holds (carrying way)))
  pub stations_with_mail : OnEveryWay (λ way. OnEveryMap (Holds (mailing way)))
