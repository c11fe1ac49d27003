-- What else is claimed of calls and of lists of calls, in either kind of net. The theorem is `further` (proofs/Further).
use Rattle.std.specs.Prelude.{◌≡◌, true, cond, ◌↔◌, ℕ, ◌+◌, ◌*◌, ◌%◌, ◌^◌, ◌≤◌, ◌<◌, min, eqb, length, get_or}
use mathlib.Core.List.{List, [], map, Memᴰ}
use Rattle.refusal.specs.declared.Refusal.TheVariants.{OutOfRange, NotAllowed, NothingAllowed}
use Rattle.stations.specs.Stations.{unfinished}
use Rattle.topology.specs.Answer.{accepted}
use Rattle.linemap.specs.declared.Map.{Map}
use Rattle.linemap.specs.Maps.{acceptance, link_count, totals}
use Rattle.linemap.specs.RoundTrip.{Fits}
use Rattle.linemap.specs.Reading.{reading}
use Rattle.schedule.specs.declared.Step.{Step}
use Rattle.schedule.specs.Rules.{Rules, in_range}
use Rattle.schedule.specs.Listing.{select, step, candidates}
use Rattle.schedule.specs.Outcome.{step_refused}
use Rattle.schedule.specs.Draws.{step_on, draw_on, run_on}
use Rattle.schedule.specs.Calls.{Call, draw, run, call_made, call_net, calls_made, calls_net}
use Rattle.demand.specs.Kinds.{Kind, meeting, carrying, mailing, left, reports}
use Rattle.demand.specs.Demand.{OnEveryMap, OnEveryWay}

module _ {Net : Type 0} (R : Rules Net) where
  -- "the c allowed steps", as those that a single step would accept, "listed by kind, then sender, then receiver, rising"
  abbrev pub acceptable : Net → List Step
  acceptable net = select (λ s. eqb (step_on R net s).number 0) (candidates (R.kinds net) (R.stations net))

  -- in a net in form
  pub record DrawsPick (net : Net) : Type 0 where
    -- "A draw d .. picks entry d mod c, counted from 0, of the c allowed steps", and is then that single step
    pub draws : (d : ℕ) → let c = length (acceptable net) in
        draw_on R net d ≡ cond (eqb c 0) (step_refused NothingAllowed net) (step_on R net (get_or (acceptable net) (d % c) (step 0 0 0)))
    -- every step that is accepted is among them
    pub all_listed : (s : Step) → (step_on R net s).number ≡ 0 → Memᴰ s (acceptable net)

  -- a run says "whether it is at rest": whether no single step is accepted in the net that it reached
  abbrev pub RestIsRest : Net → List ℕ → Type 0
  RestIsRest net draws =
      (run_on R net draws).number ≡ 0
      → ((run_on R net draws).rest ≡ true) ↔ ((s : Step) → (step_on R (run_on R net draws).net s).number ≡ 0 → ⊥)

  -- "for each run, the entries its draws picked, as many as the number it gives" (Lists of calls): a run is its draws, made one by one
  pub record RunIsDraws (net : Net) (draws : List ℕ) : Type 0 where
    pub made_as : call_made R net (run draws) ≡ calls_made R net (map draw draws)
    pub left_as : call_net R net (run draws) ≡ calls_net R net (map draw draws)
    pub counted : (run_on R net draws).steps ≡ length (call_made R net (run draws))

  -- nothing moves any more: every step and draw is refused, a run makes no step, and the net stays, whatever calls follow
  pub record Final (net : Net) : Type 0 where
    pub no_step : (s : Step) → step_on R net s ≡ step_refused (cond (in_range R net s) NotAllowed OutOfRange) net
    pub no_draw : (d : ℕ) → draw_on R net d ≡ step_refused NothingAllowed net
    pub no_run : (draws : List ℕ) → run_on R net draws ≡ record { number = 0; steps = 0; rest = true; net = net }
    pub no_call : (calls : List Call) → (calls_made R net calls ≡ []) × (calls_net R net calls ≡ net)

-- a run of the fresh net, where a full run has so many steps
pub record FreshRun (K : Kind) (full : ℕ) (m : Map) (draws : List ℕ) : Type 0 where
  -- "From a fresh net that number is the smaller of the draw count and 2 × m + 1" (Stations that meet)
  pub steps : (run_on K.rules (K.fresh m) draws).steps ≡ min (length draws) full
  -- so it is at rest where there were enough draws
  pub rest : ((run_on K.rules (K.fresh m) draws).rest ≡ true) ↔ (full ≤ length draws)

-- what is claimed of every kind of net
pub record OfKind (K : Kind) : Type 0 where
  pub draws_pick : (net : K.Net) → K.rules.well_formed net ≡ true → DrawsPick K.rules net
  pub rest-is-rest : (net : K.Net) (draws : List ℕ) → RestIsRest K.rules net draws
  pub run_is_draws : (net : K.Net) (draws : List ℕ) → RunIsDraws K.rules net draws
  -- every net that calls lead to is in form, so number 11 never comes
  pub formed : OnEveryMap (λ m calls. K.rules.well_formed (left K m calls) ≡ true)

-- what is claimed besides where no step follows the report; `Carried` has what takes its place where totals are carried back
pub record EndsInReport (K : Kind) : Type 0 where
  -- after the report nothing moves
  pub final : OnEveryMap (λ m calls. reports K m calls ≡ 1 → Final K.rules (left K m calls))
  pub fresh_run : OnEveryMap (λ m draws. FreshRun K (2 * link_count m + 1) m draws)

-- "Before the report the sums of stations not finished add up to the map's total" (Stations that meet), class by class, joined the way
abbrev pub Conserved : Kind → Type 0
Conserved K =
    OnEveryMap (λ m calls.
    reports K m calls ≡ 0 → (j : ℕ) → j < m.classes → unfinished K.way m.k (K.station (left K m calls)) j ≡ totals K.way m j)

-- a map that was read fits its fields and is accepted, so all of this holds of it
abbrev pub Read : Type 0
Read =
    (s : List ℕ) → ((i : ℕ) → get_or s i 0 < 2 ^ 8) → (reading s).numbers ≡ accepted
    → Fits (reading s).map × (acceptance (reading s).map ≡ accepted)

-- all of it
pub record Further : Type 0 where
  pub stations_that_meet : OnEveryWay (λ way. OfKind (meeting way) × EndsInReport (meeting way))
  pub carrying-back : OnEveryWay (λ way. OfKind (carrying way))
  pub stations_with_mail : OnEveryWay (λ way. OfKind (mailing way) × EndsInReport (mailing way))
  -- with mail, sums are on their way too
  pub conserved : OnEveryWay (λ way. Conserved (meeting way) × Conserved (carrying way))
  pub read : Read
