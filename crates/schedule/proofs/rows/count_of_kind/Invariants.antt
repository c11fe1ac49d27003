-- `schedule::rows::count_of_kind` meets its contract. Invariant: the members of the rows passed are counted, at most 64 a row. Assumes nothing.
use Rattle.std.proofs.Common.{◌≡◌, ◌*◌, ◌≤◌}
use Rattle.schedule.specs.Rows.{row_at}
use Rattle.schedule.proofs.Counting.{sum}
use Rattle.schedule.proofs.rows.count_of_kind.Given as goal

abbrev pub invariant-loop-sender : goal.invariant-loop-sender
invariant-loop-sender l = (l.count ≡ sum (row_at l.rows) l.kind l.sender) × (l.count ≤ 64 * l.sender)
