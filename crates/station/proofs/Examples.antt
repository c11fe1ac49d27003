-- Worked examples at station 1 of document 01's triangle (counts 5, 7, 11; sets 6, 5, 3), which antt computes. Assumes nothing.
use mathlib.Core.Path.{◌≡◌, refl}
use mathlib.Core.Bool.{false}
use Prim.Native.Nat.{ℕ, ◌-◌, ◌^◌}
use Rattle.finite.specs.Below.{all_below, each, tabulate}
use Rattle.aggregate.specs.declared.Aggregate.{Aggregate}
use Rattle.aggregate.specs.Ways.{none, sum_joined}
use Rattle.aggregate.specs.Aggregate.{valid, sum_bounded, cell_bounded, bounded, cell_joined, joined}
use Rattle.aggregate.proofs.Examples.{only}
use Rattle.refusal.specs.declared.Refusal.TheVariants.{NotAllowed}
use Rattle.bitset.specs.Set.{member, members_below, size, without, within}
use Rattle.station.specs.declared.Process.{Process}
use Rattle.station.specs.Events.{start_taken, started_by, ready, may_answer}
use Rattle.station.specs.Form.{well_formed, well_formed_process}
use Rattle.station.specs.Process.{after, done, event_refused, decide, take_start, take_answer, send_answer}

-- asleep, as the fresh net has it
abbrev sleeping : Process
sleeping = record { own = 1; classes = 1; desk = 0; way = 0; station = record { held = only 7; unstarted = 5; parent = 0; waits = 2; state = 0 } }

-- woken by the root: it still has to start station 2, and waits for its message; its counts are joined some way
abbrev waits : ℕ → Process
waits way = record { own = 1; classes = 1; desk = 0; way = way; station = record { held = only 7; unstarted = 4; parent = 0; waits = 1; state = 1 } }

abbrev waiting : Process
waiting = waits 0

wakes : take_start 0 sleeping ≡ done waiting
unfolding take_start decide well_formed_process well_formed started_by member members_below size without within bounded cell_bounded sum_bounded all_below tabulate each valid
wakes = refl

-- no answer while a start is unsent
not_yet : send_answer waiting ≡ event_refused NotAllowed waiting
unfolding send_answer decide well_formed_process well_formed may_answer ready member within bounded cell_bounded sum_bounded all_below tabulate each valid
not_yet = refl

-- a start from itself is accepted, and leaves the form
own_start : ((take_start 1 sleeping).number ≡ 0) × (well_formed_process (take_start 1 sleeping).process ≡ false)
unfolding take_start decide well_formed_process well_formed started_by member members_below size without within bounded cell_bounded sum_bounded all_below tabulate each valid
own_start = (refl, refl)

-- so is an answer that makes the sum 2^62
abbrev large : Aggregate
large = only (2 ^ 62 - 7)

large-answer : ((take_answer large waiting).number ≡ 0) × (well_formed_process (take_answer large waiting).process ≡ false)
unfolding take_answer decide well_formed_process well_formed member within bounded cell_bounded sum_bounded joined cell_joined sum_joined all_below tabulate each valid
large-answer = (refl, refl)

-- "such a `none` handed over gets 12" (document 02, request 10); under 2 it is taken, and a way above 3 is out of form
none-answer : ((take_answer (only none) waiting).number ≡ 12) × ((take_answer (only none) (waits 3)).number ≡ 12)
    × (take_answer (only none) (waits 2) ≡ done (after (waits 2) (start_taken (waits 2).station))) × ((take_answer (only 0) (waits 4)).number ≡ 11)
unfolding take_answer decide well_formed_process well_formed member within bounded cell_bounded sum_bounded joined cell_joined sum_joined all_below tabulate each valid
none-answer = (refl, refl, refl, refl)
