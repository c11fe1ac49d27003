-- `schedule::rows::count_of_kind` meets its contract: row by row, as many steps as the row has members. Assumes nothing.
use Rattle.std.proofs.Common.{◌≡◌, ◌+◌, ◌-◌, ◌*◌, refl, sym, ap, ◌∙◌, arith}
use Rattle.finite.specs.Sum.{fold_to}
use Rattle.schedule.specs.Rows.{row_at}
use Rattle.schedule.proofs.Counting.{sum, sum_more, rows-sum}
use Rattle.schedule.proofs.rows.count_of_kind.Goals as goal

pub loop-sender-init : goal.loop-sender-init
unfolding fold_to
loop-sender-init c = (refl, omega arith)

pub loop-sender-preserved : goal.loop-sender-preserved
loop-sender-preserved c =
    rw c.row_size-count.ensures (sum_more (row_at c.args.rows.now) {kind = c.args.kind} {n = c.loop-sender.sender} c.row_at.type_inv c.row_at.ensures c.loop-sender.invariant)

pub overflow_add-count : goal.overflow_add-count
overflow_add-count c = omega (arith, (loop-sender-preserved c).1)

pub returns : goal.returns
returns c =
    let a = c.args in
    let row = row_at a.rows.now in
    let end : c.loop-sender.sender ≡ a.k = omega arith in
    c.loop-sender.invariant.0
    ∙ ap (sum row a.kind) end
    ∙ sym (rows-sum row a.rows.now a.kind a.k (λ s l. refl) (λ s l. (c.type_inv.rows (4 * s + a.kind - 1)).fits))
