-- Steps far apart, computed: steps that are, at the ends of a line; and what the conditions are for, by steps with a common station, by a step that
-- leaves the form, and by a step that gives leave. Assumes nothing.
use mathlib.Core.Path.{◌≡◌, refl}
use mathlib.Core.Bool.{Bool, true, false}
use mathlib.Core.List.{List, [], ◌∷◌, ◌++◌, flat_map}
use Prim.Native.Nat.{ℕ}
use native.Mathlib.Omega.{arith}
use lib.ListN.{replicate}
use Rattle.finite.specs.Below.{all_below, each, tabulate}
use Rattle.finite.proofs.Cases.{by-sum}
use Rattle.bitset.specs.Set.{member, members_below, size, without, within}
use Rattle.aggregate.specs.Ways.{sum_joined, empty_sum}
use Rattle.aggregate.specs.Aggregate.{valid, nothing, sum_bounded, cell_bounded, bounded, cell_gathered, gathered, cell_joined, joined, clipped}
use Rattle.refusal.specs.declared.Refusal.TheVariants.{OutOfForm}
use Rattle.station.specs.declared.Station.{Station}
use Rattle.station.specs.Form as form
use Rattle.schedule.specs.declared.Step.{Step}
use Rattle.schedule.specs.Rules.{in_range, allowed}
use Rattle.schedule.specs.Listing.{step, numbers_from, range, select, candidates, listed}
use Rattle.schedule.specs.Outcome.{step_refused}
use Rattle.schedule.specs.Draws.{step_on, picked, draw_on, run_net}
use Rattle.stations.specs.Stations.{blank, are_well_formed, reading_at, fresh_station, fresh_stations}
use Rattle.rendezvous.specs.Net.{Net, told_well, carrying_well, well_formed, fresh_net}
use Rattle.rendezvous.specs.Figure.{wake, report, may_step, assigned}
use Rattle.rendezvous.specs.Telling.{tell, may_tell, told_by}
use Rattle.rendezvous.specs.Rules.{rules}
use Rattle.rendezvous.specs.FarApart.{Apart, after, BothAllowed, FarApart, CommonStation}

pub common_station : CommonStation (step wake 0 2) (step wake 1 2)
unfolding flat_map step_on well_formed are_well_formed form.well_formed all_below allowed in_range may_step assigned fresh_net fresh_stations fresh_station reading_at
    tabulate each member members_below size without within valid bounded cell_bounded sum_bounded gathered cell_gathered empty_sum nothing
common_station =
    record {
      both_allowed = (refl, refl);
      form_kept = record { formed = refl; formed_s = refl; formed_t = refl };
      s-first = refl;
      t-first = refl;
      parents_differ = (refl, refl);
    }

-- two pairs of stations, none in both
apart : (s t : Step) → (s.sender ≡ t.sender → ⊥) → (s.sender ≡ t.receiver → ⊥)
    → (s.receiver ≡ t.sender → ⊥) → (s.receiver ≡ t.receiver → ⊥) → Apart s t
apart s t a b c d x n m =
    by-sum n (λ p. by-sum m (λ q. a (omega arith)) (λ q. b (omega arith))) (λ p. by-sum m (λ q. c (omega arith)) (λ q. d (omega arith)))

wakes_apart : Apart (step wake 1 3) (step wake 2 4)
wakes_apart = apart (step wake 1 3) (step wake 2 4) (λ e. omega arith) (λ e. omega arith) (λ e. omega arith) (λ e. omega arith)

tells_apart : Apart (step tell 0 2) (step tell 1 3)
tells_apart = apart (step tell 0 2) (step tell 1 3) (λ e. omega arith) (λ e. omega arith) (λ e. omega arith) (λ e. omega arith)

-- a line of five stations, the desk in its middle, opened either way
abbrev line : Bool → Net
line back =
    let counts = flat_map (λ (n : ℕ). n ∷ replicate 7 0) (1 ∷ 2 ∷ 3 ∷ 4 ∷ 5 ∷ []) in
    fresh_net back (record { k = 5; classes = 1; desk = 0; way = 0 }) counts (6 ∷ 9 ∷ 17 ∷ 2 ∷ 4 ∷ [])

-- after the desk's two wakes its neighbours may wake the ends
ends_woken : (back : Bool) → FarApart (after (after (line back) (step wake 0 1)) (step wake 0 2)) (step wake 1 3) (step wake 2 4)
unfolding flat_map step_on well_formed carrying_well told_well are_well_formed form.well_formed all_below allowed in_range may_step assigned fresh_net fresh_stations fresh_station
    reading_at tabulate each member members_below size without within valid bounded cell_bounded sum_bounded gathered cell_gathered empty_sum nothing
ends_woken true = record { both_allowed = (refl, refl); apart = wakes_apart; form_kept = record { formed = refl; formed_s = refl; formed_t = refl } }
ends_woken false = record { both_allowed = (refl, refl); apart = wakes_apart; form_kept = record { formed = refl; formed_s = refl; formed_t = refl } }

-- after the report and the first tell the desk and its told neighbour may tell
ends_told : FarApart (run_net rules (line true) (replicate 10 0)) (step tell 0 2) (step tell 1 3)
unfolding flat_map step_on draw_on picked run_net listed select candidates range numbers_from well_formed carrying_well told_well are_well_formed form.well_formed all_below
    allowed in_range may_step may_tell assigned told_by fresh_net fresh_stations fresh_station reading_at tabulate each member members_below size without within valid
    bounded cell_bounded sum_bounded gathered cell_gathered empty_sum joined cell_joined sum_joined clipped nothing
ends_told = record { both_allowed = (refl, refl); apart = tells_apart; form_kept = record { formed = refl; formed_s = refl; formed_t = refl } }

-- nets that were handed over: a desk and three other stations, which hold nothing and have no starts to send
abbrev other : ℕ → ℕ → ℕ → Station
other parent waits state = record { held = nothing; unstarted = 0; parent = parent; waits = waits; state = state }

abbrev handed : List Station → Net
handed l =
    record { config = record { k = 4; classes = 1; desk = 0; way = 0 }; stations = l ++ replicate 60 blank; carrying = 1; kept = replicate 64 nothing }

-- "each alone leaves the net in form": after a tell to a station that still waits, a tell far apart gets 11
abbrev waiting : Net
waiting = handed (other 0 0 2 ∷ other 0 1 2 ∷ other 3 0 2 ∷ other 0 0 3 ∷ [])

form_needed : BothAllowed waiting (step tell 0 1) (step tell 3 2)
    × (well_formed waiting ≡ true)
    × (step_on rules (after waiting (step tell 0 1)) (step tell 3 2) ≡ step_refused OutOfForm (after waiting (step tell 0 1)))
unfolding step_on well_formed carrying_well told_well are_well_formed form.well_formed all_below allowed in_range may_tell told_by tabulate each member members_below size within
    valid bounded cell_bounded sum_bounded clipped nothing
form_needed = ((refl, refl), refl, refl)

-- "neither takes away the other's leave": a report gives leave for a tell far apart
abbrev unreported : Net
unreported = handed (other 0 0 1 ∷ other 0 0 2 ∷ other 3 0 2 ∷ other 0 0 3 ∷ [])

leave-given : (well_formed unreported ≡ true)
    × (allowed rules unreported (step tell 3 2) ≡ false)
    × (allowed rules (after unreported (step report 0 0)) (step tell 3 2) ≡ true)
unfolding step_on well_formed carrying_well told_well are_well_formed form.well_formed all_below allowed in_range may_step assigned may_tell tabulate each member members_below size within
    valid bounded cell_bounded sum_bounded nothing
leave-given = (refl, refl, refl)
