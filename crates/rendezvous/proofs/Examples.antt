-- The triangle of document 01 (counts 5, 7, 11; sets 6, 5, 3), which antt computes: its first steps, the wake of station 1, and a report that
-- comes too early; the same with the desk elsewhere; and a full run that carries the total back. Assumes nothing.
use mathlib.Core.Path.{◌≡◌, refl}
use mathlib.Core.Bool.{true, false}
use Prim.Native.Nat.{ℕ}
use mathlib.Core.List.{[], ◌∷◌, ◌++◌, flat_map}
use lib.ListN.{replicate}
use Rattle.finite.specs.Below.{all_below, each, tabulate}
use Rattle.bitset.specs.Set.{member, members_below, size, without, within}
use Rattle.aggregate.specs.Ways.{sum_joined, empty_sum}
use Rattle.aggregate.specs.Aggregate.{valid, cell, nothing, sum_bounded, cell_bounded, bounded, cell_gathered, gathered, cell_joined, joined, clipped}
use Rattle.aggregate.proofs.Examples.{only}
use Rattle.refusal.specs.declared.Refusal.TheVariants.{OutOfForm, OutOfRange, NotAllowed}
use Rattle.station.specs.Events as events
use Rattle.station.specs.Form as form
use Rattle.schedule.specs.Rules.{in_range, allowed}
use Rattle.schedule.specs.Listing.{range, select, candidates, listed, step}
use Rattle.schedule.specs.Listing as listing
use Rattle.schedule.specs.Outcome.{step_made, step_refused}
use Rattle.schedule.specs.Draws.{picked, step_on, draw_on, run_made, run_net}
use Rattle.stations.specs.Stations.{blank, are_well_formed, reading_at, fresh_station, fresh_stations}
use Rattle.rendezvous.specs.Net.{Net, told_well, carrying_well, well_formed, fresh_net}
use Rattle.rendezvous.specs.Figure.{wake, pass, answer, report, may_step, assigned}
use Rattle.rendezvous.specs.Telling.{tell, known, may_tell, told_by}
use Rattle.rendezvous.specs.Rules.{rules}

abbrev at : ℕ → Net
at desk = fresh_net false (record { k = 3; classes = 1; desk = desk; way = 0 }) ((5 ∷ replicate 7 0) ++ (7 ∷ replicate 7 0) ++ (11 ∷ [])) (6 ∷ 5 ∷ 3 ∷ [])

abbrev triangle : Net
triangle = at 0

first-steps : listed rules triangle ≡ step wake 0 1 ∷ step wake 0 2 ∷ []
unfolding listed select candidates range listing.numbers_from flat_map allowed in_range may_step fresh_net fresh_stations fresh_station reading_at tabulate each member members_below size gathered cell_gathered empty_sum
first-steps = refl

-- station 1 has the root for its parent, has to start station 2, and waits for it
abbrev woken : Net
woken =
    record {
      config = record { k = 3; classes = 1; desk = 0; way = 0 };
      stations =
          (record { held = only 5; unstarted = 4; parent = 0; waits = 2; state = 1 }
          ∷ record { held = only 7; unstarted = 4; parent = 0; waits = 1; state = 1 }
          ∷ record { held = only 11; unstarted = 3; parent = 0; waits = 2; state = 0 }
          ∷ [])
          ++ replicate 61 blank;
      carrying = 0;
      kept = replicate 64 nothing;
    }

first-wake : step_on rules triangle (step wake 0 1) ≡ step_made (step wake 0 1) woken
unfolding step_on well_formed are_well_formed form.well_formed all_below in_range may_step assigned fresh_net fresh_stations fresh_station reading_at tabulate each member members_below size without within valid bounded cell_bounded sum_bounded gathered cell_gathered empty_sum nothing
first-wake = refl

too_early : step_on rules triangle (step report 0 0) ≡ step_refused NotAllowed triangle
unfolding step_on well_formed are_well_formed form.well_formed all_below in_range may_step fresh_net fresh_stations fresh_station reading_at tabulate each member members_below size within valid bounded cell_bounded sum_bounded gathered cell_gathered empty_sum
too_early = refl

-- with the desk at 2 (document 02, request 5) the wave starts there, and a report is at 2 and 2
elsewhere : (listed rules (at 2) ≡ step wake 2 0 ∷ step wake 2 1 ∷ [])
    × (step_on rules (at 2) (step report 0 0) ≡ step_refused OutOfRange (at 2))
    × (step_on rules (at 2) (step report 2 2) ≡ step_refused NotAllowed (at 2))
unfolding listed select candidates range listing.numbers_from flat_map allowed step_on well_formed are_well_formed form.well_formed all_below in_range may_step fresh_net fresh_stations fresh_station reading_at tabulate each member members_below size within valid bounded cell_bounded sum_bounded gathered cell_gathered empty_sum
elsewhere = (refl, refl, refl)

-- "one not below k is out of form"
no_desk : step_on rules (at 3) (step wake 0 1) ≡ step_refused OutOfForm (at 3)
unfolding step_on well_formed are_well_formed fresh_net valid
no_desk = refl

-- with totals carried back (document 02, request 8) a full run has 2 × 3 + 3 steps, however many draws there are: the seven of the wave, then two
-- tells, after which all know 23
abbrev back : Net
back = fresh_net true (record { k = 3; classes = 1; desk = 0; way = 0 }) ((5 ∷ replicate 7 0) ++ (7 ∷ replicate 7 0) ++ (11 ∷ [])) (6 ∷ 5 ∷ 3 ∷ [])

nine_steps : (run_made rules back (replicate 10 0)
    ≡ step wake 0 1 ∷ step wake 0 2 ∷ step pass 1 2 ∷ step pass 2 1 ∷ step answer 1 0 ∷ step answer 2 0 ∷ step report 0 0 ∷ step tell 0 1 ∷ step tell 0 2 ∷ [])
    × (tabulate 3 (λ i. cell (known (run_net rules back (replicate 10 0)) i) 0) ≡ replicate 3 (record { sum = 23; missing = 0 }))
unfolding run_made run_net draw_on picked listed select candidates range listing.numbers_from flat_map allowed in_range may_step may_tell assigned told_by well_formed carrying_well told_well are_well_formed form.well_formed all_below fresh_net fresh_stations fresh_station reading_at tabulate each member members_below size without within valid bounded cell_bounded sum_bounded gathered cell_gathered empty_sum joined cell_joined sum_joined clipped nothing events.may_send_start events.started_by events.ready events.may_report events.may_answer
nine_steps = (refl, refl)
