-- `aggregate::is_cell_bounded` meets its contract: by the tests. Assumes nothing.
use mathlib.Core.Path.{sym, ap, ◌∙◌}
use mathlib.Core.Bool.{Bool, ◌&&◌}
use Prim.Native.Nat.{◌^◌}
use native.Mathlib.Omega.{arith}
use lib.Dec.{eqb}
use borrow.Author.Tests.{le-ltb, le-leb, lt-leb}
use Rattle.finite.proofs.Cases.{by_bool}
use Rattle.aggregate.specs.Ways.{none, has_none}
use Rattle.aggregate.specs.Aggregate.{sum_bounded, cell_bounded}
use Rattle.aggregate.proofs.Laws.{small_bounded, parts_bounded}
use Rattle.aggregate.proofs.is_cell_bounded.Goals as goal

pub returns-then-x-gt-MOST_MISSING : goal.returns-then-x-gt-MOST_MISSING
unfolding cell_bounded
returns-then-x-gt-MOST_MISSING c =
    let a = c.args in
    rw (lt-leb a.x.missing 64 c.if-x-gt-MOST_MISSING.true) (by_bool (sum_bounded a.way a.x.sum) (λ e. rw e) (λ e. rw e))

pub returns-then-x-lt-SUM_LIMIT : goal.returns-then-x-lt-SUM_LIMIT
returns-then-x-lt-SUM_LIMIT c =
    let a = c.args in
    sym (parts_bounded a.way a.x (small_bounded a.way a.x.sum c.if-x-lt-SUM_LIMIT.true) (omega arith))

pub returns : goal.returns
unfolding cell_bounded sum_bounded
returns c =
    let a = c.args in
    rw (le-ltb a.x.sum (2 ^ 62) (omega (arith, c.if-x-lt-SUM_LIMIT.false)), le-leb a.x.missing 64 (omega (arith, c.if-x-gt-MOST_MISSING.false)))
    (ap (λ (b : Bool). b && eqb a.x.sum none) c.has_none.ensures ∙ by_bool (has_none a.way && eqb a.x.sum none) (λ e. rw e) (λ e. rw e))
