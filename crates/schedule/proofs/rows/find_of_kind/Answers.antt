-- `schedule::rows::find_of_kind` meets its contract: at each place of the scan the entry looked for is entry `left` of the steps still to be
-- scanned, and a row that is passed whole has as many steps as its set has members. Assumes nothing.
use Rattle.std.proofs.Common.{◌+◌, ◌-◌, ◌*◌, sym, refl, ap, ◌∙◌, arith}
use Rattle.bitset.specs.Set.{member, size}
use Rattle.bitset.proofs.Selected.{none_of_eight}
use Rattle.schedule.specs.Rows.{in_rows}
use Rattle.schedule.proofs.Scan.{senders_end, row-start, row_passed, row-end, met, passed, skipped, all_past}
use Rattle.schedule.proofs.RowLists.{row_length_lem}
use Rattle.schedule.proofs.rows.find_of_kind.Goals as goal
use Rattle.schedule.proofs.rows.find_of_kind.Goals.{then-members-left, else-members-left, then-contains+else-left-eq0, else-contains, else-scan-test}
use Rattle.schedule.proofs.rows.find_of_kind.Goals.{then-scan-test+then-loop-receiver-test+else-set-receiver-eq0+then-contains+then-left-eq0}

pub scan-init : goal.scan-init
scan-init c = record { same = refl }

pub loop-receiver-init : goal.loop-receiver-init
loop-receiver-init c =
    let start = row-start c.scan-test.true c.scan.invariant in
    let a = c.args in
    let sender = c.scan.sender in
    let count =
    c.row_size-members.ensures
    ∙ ap size c.row_at-set.ensures
    ∙ row_length_lem a.rows.now a.kind sender (c.type_inv.rows (4 * sender + a.kind - 1)).fits in
    elim c.if-members-left.branch [
      | then-members-left w ↦ rw (w.left-is, w.receiver-is) (row_passed _ count w.if-members-left.true start)
      | else-members-left w ↦ rw (w.left-is, w.receiver-is) start
    ]

pub loop-receiver-preserved-then-set-receiver-eq0 : goal.loop-receiver-preserved-then-set-receiver-eq0
unfolding in_rows
loop-receiver-preserved-then-set-receiver-eq0 c =
    let l = c.loop-receiver in
    let row = c.row_at-set in
    all_past l.receiver 8
    (λ i h. ap (member (l.receiver + i)) (sym row.ensures) ∙ none_of_eight l.receiver _ c.if-set-receiver-eq0.true i h)
    l.invariant

pub loop-receiver-preserved : goal.loop-receiver-preserved
unfolding in_rows
loop-receiver-preserved c =
    let here = c.loop-receiver.invariant in
    let test = ap (member c.loop-receiver.receiver) (sym c.row_at-set.ensures) ∙ sym c.contains.ensures in
    elim c.if-contains.branch [
      | then-contains+else-left-eq0 w ↦ rw w.left-is (passed c.loop-receiver-test.true (test ∙ w.if-contains.true) w.if-left-eq0.false here)
      | else-contains w ↦ rw w.left-is (skipped c.loop-receiver-test.true (test ∙ w.if-contains.false) here)
    ]

pub scan-preserved : goal.scan-preserved
scan-preserved c = row-end c.loop-receiver-test.false c.loop-receiver.invariant

pub returns-then-sender-k : goal.returns-then-sender-k
unfolding in_rows
returns-then-sender-k c =
    elim c.scan-test.branch [
      | else-scan-test w ↦ absurd (omega arith)
      | then-scan-test+then-loop-receiver-test+else-set-receiver-eq0+then-contains+then-left-eq0 w ↦
          rw w.receiver-is
          (met w.loop-receiver-test.true
          (ap (member w.loop-receiver.receiver) (sym w.row_at-set.ensures) ∙ sym w.contains.ensures ∙ w.if-contains.true)
          w.if-left-eq0.true w.loop-receiver.invariant)
    ]

pub returns : goal.returns
returns c =
    elim c.scan-test.branch [
      | else-scan-test w ↦ rw w.left-is (senders_end w.scan-test.false c.scan.invariant)
      | then-scan-test+then-loop-receiver-test+else-set-receiver-eq0+then-contains+then-left-eq0 w ↦ absurd (omega arith)
    ]
