-- `schedule::rows::find_of_kind` meets its contract: at each place of the scan the entry looked for is entry `left` of the steps still to be
-- scanned, and a row that is passed whole has as many steps as its set has members. Assumes nothing.
use Rattle.std.proofs.Common.{ℕ, ◌-◌, List, Result}
use Rattle.schedule.specs.declared.Step.{Step}
use Rattle.schedule.specs.Listing.{select}
use Rattle.schedule.specs.Rows.{steps_of_kind, entry, in_rows}
use Rattle.schedule.proofs.Scan.{AtSender, AtReceiver}
use Rattle.schedule.proofs.rows.find_of_kind.Given as goal

-- the entry looked for
abbrev sought : List ℕ → ℕ → ℕ → ℕ → Result Step ℕ
sought rows kind k index = entry (select (in_rows rows) (steps_of_kind 64 k kind 0)) index

abbrev pub invariant-loop-receiver : goal.invariant-loop-receiver
invariant-loop-receiver l = AtReceiver (in_rows l.rows) (sought l.rows l.kind l.k l.index) 64 l.k l.kind l.sender l.receiver l.left

abbrev pub decreases-loop-receiver : goal.decreases-loop-receiver
decreases-loop-receiver l = 64 - l.receiver

abbrev pub invariant-scan : goal.invariant-scan
invariant-scan l = AtSender (in_rows l.rows) (sought l.rows l.kind l.k l.index) 64 l.k l.kind l.sender l.left

abbrev pub decreases-scan : goal.decreases-scan
decreases-scan l = l.k - l.sender
