-- Two stations with two classes, and the triangle of document 01 (counts 5, 7, 11; sets 6, 5, 3), which antt computes. Assumes nothing.
use mathlib.Core.Path.{◌≡◌, refl}
use mathlib.Core.Bool.{true}
use Prim.Native.Nat.{ℕ}
use mathlib.Core.List.{[], ◌∷◌, ◌++◌, flat_map}
use lib.ListN.{replicate}
use Rattle.finite.specs.Below.{all_below, each, tabulate}
use Rattle.finite.specs.Numbers.{number, bytes}
use Rattle.bitset.specs.Set.{member, members_below, size, without, within, union, minus, put, bit_if}
use Rattle.aggregate.specs.Ways.{sum_joined, empty_sum}
use Rattle.aggregate.specs.Aggregate.{valid, nothing, sum_bounded, cell_bounded, bounded, cell_gathered, gathered, cell_joined, joined, clipped}
use Rattle.aggregate.specs.Aggregate.{missing_word, from_words}
use Rattle.aggregate.proofs.Examples.{only}
use Rattle.station.specs.Form as form
use Rattle.schedule.specs.Rules.{in_range, allowed}
use Rattle.schedule.specs.Listing.{range, select, candidates, listed, quiescent, is_empty, step}
use Rattle.schedule.specs.Listing as listing
use Rattle.schedule.specs.Outcome.{RunOutcome}
use Rattle.schedule.specs.Draws.{step_on, picked, draw_on, run_made, run_net, stopped, run_on}
use Rattle.stations.specs.Stations.{are_well_formed, reading_at, fresh_station, fresh_stations}
use Rattle.mail.specs.declared.Message.TheVariants.{Start, Answer}
use Rattle.mail.specs.declared.Mailbox.TheVariants.{Empty, Full}
use Rattle.mailbox.specs.Net.{Net, station, are_bounded, well_formed, fresh_net}
use Rattle.mail.specs.Mail.{box_at, brought_at, starts_posted, with_box, with_message, with_answer, with_sums, with_waiting}
use Rattle.mailbox.specs.Delivery.{boxes_after, boxes_settled, delivered, reported}
use Rattle.mailbox.specs.Rules.{delivery, report, may_step, net_after, rules}

abbrev pair : Net
pair = fresh_net (record { k = 2; classes = 2; desk = 0; way = 0 }) ((3 ∷ 8 ∷ replicate 6 0) ++ (4 ∷ 4294967295 ∷ [])) (2 ∷ 1 ∷ [])

abbrev at : ℕ → Net
at desk = fresh_net (record { k = 3; classes = 1; desk = desk; way = 0 }) ((5 ∷ replicate 7 0) ++ (7 ∷ replicate 7 0) ++ (11 ∷ [])) (6 ∷ 5 ∷ 3 ∷ [])

abbrev triangle : Net
triangle = at 0

first-steps : listed rules triangle ≡ step delivery 0 1 ∷ step delivery 0 2 ∷ []
unfolding listed select candidates range listing.numbers_from flat_map allowed in_range may_step fresh_net fresh_stations fresh_station reading_at tabulate each box_at with_box with_message with_answer with_waiting put bit_if starts_posted union minus member members_below size gathered cell_gathered empty_sum
first-steps = refl

too_early : (step_on rules triangle (step report 0 0)).number ≡ 13
unfolding step_on well_formed are_well_formed are_bounded form.well_formed all_below in_range may_step fresh_net fresh_stations fresh_station reading_at tabulate each box_at with_box with_message with_answer with_waiting put bit_if starts_posted union minus member members_below size within valid cell_bounded sum_bounded bounded cell_gathered empty_sum gathered nothing
too_early = refl

-- station 1 wakes: its set stays, it waits for station 2, and posts a start to it and none to its parent
abbrev woken : Net
woken = (step_on rules triangle (step delivery 0 1)).net

wake-posts : (station woken 1 ≡ record { held = only 7; unstarted = 5; parent = 0; waits = 1; state = 1 })
    × (box_at woken.boxes 0 1 ≡ Empty) × (box_at woken.boxes 1 2 ≡ Full Start) × (box_at woken.boxes 1 0 ≡ Empty)
unfolding step_on well_formed are_well_formed are_bounded form.well_formed all_below in_range may_step net_after delivered boxes_settled boxes_after fresh_net fresh_stations fresh_station reading_at tabulate each box_at with_box with_message with_answer with_waiting put bit_if starts_posted union minus member members_below size without within valid cell_bounded sum_bounded bounded cell_gathered empty_sum gathered nothing
wake-posts = (refl, refl, refl, refl)

-- a station with no other neighbour answers as it wakes: with its sum of each class, and the reading that is missing in the second
abbrev answered : Net
answered = (step_on rules pair (step delivery 0 1)).net

answers-at_once : (box_at answered.boxes 1 0 ≡ Full Answer)
    × (brought_at answered.config answered.boxes 1 0 ≡ record { sums = 4 ∷ replicate 7 0; missing = 0 ∷ 1 ∷ replicate 6 0 })
unfolding step_on well_formed are_well_formed are_bounded form.well_formed all_below in_range may_step net_after delivered boxes_settled boxes_after fresh_net fresh_stations fresh_station reading_at tabulate each box_at brought_at from_words bytes missing_word number with_box with_message with_answer with_sums with_waiting put bit_if starts_posted union minus member members_below size without within valid cell_bounded sum_bounded bounded cell_gathered empty_sum gathered clipped nothing
answers-at_once = (refl, refl)

-- eight draws: 23 after seven steps, and nothing is left to draw
abbrev whole_run : RunOutcome Net
whole_run = run_on rules triangle (0 ∷ 0 ∷ 0 ∷ 0 ∷ 0 ∷ 0 ∷ 0 ∷ 0 ∷ [])

total : (whole_run.steps ≡ 7) × (whole_run.rest ≡ true) × ((station whole_run.net 0).held ≡ only 23) × ((draw_on rules whole_run.net 0).number ≡ 14)
unfolding run_on run_made run_net stopped draw_on picked listed quiescent is_empty select candidates range listing.numbers_from flat_map allowed well_formed are_well_formed are_bounded form.well_formed all_below in_range may_step net_after delivered reported boxes_settled boxes_after fresh_net fresh_stations fresh_station reading_at tabulate each box_at brought_at from_words bytes missing_word number with_box with_message with_answer with_sums with_waiting put bit_if starts_posted union minus member members_below size without within valid cell_bounded sum_bounded bounded cell_gathered empty_sum gathered clipped nothing cell_joined sum_joined joined
total = (refl, refl, refl, refl)

-- with the desk at 1 (document 02, request 5): the first starts are its own, and its total is the same
abbrev elsewhere : RunOutcome Net
elsewhere = run_on rules (at 1) (0 ∷ 0 ∷ 0 ∷ 0 ∷ 0 ∷ 0 ∷ 0 ∷ [])

total-elsewhere : (listed rules (at 1) ≡ step delivery 1 0 ∷ step delivery 1 2 ∷ []) × (elsewhere.steps ≡ 7) × (elsewhere.rest ≡ true)
    × ((station elsewhere.net 1).held ≡ only 23) × ((station elsewhere.net 0).parent ≡ 1)
unfolding run_on run_made run_net stopped draw_on picked listed quiescent is_empty select candidates range listing.numbers_from flat_map allowed well_formed are_well_formed are_bounded form.well_formed all_below in_range may_step net_after delivered reported boxes_settled boxes_after fresh_net fresh_stations fresh_station reading_at tabulate each box_at brought_at from_words bytes missing_word number with_box with_message with_answer with_sums with_waiting put bit_if starts_posted union minus member members_below size without within valid cell_bounded sum_bounded bounded cell_gathered empty_sum gathered clipped nothing cell_joined sum_joined joined
total-elsewhere = (refl, refl, refl, refl, refl)
