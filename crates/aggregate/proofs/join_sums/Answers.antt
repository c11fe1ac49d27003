-- `aggregate::join_sums` meets its contract: the tests are those of the way, and two sums below 2^62 do not wrap. Assumes nothing.
use mathlib.Core.Path.{refl, sym, ◌∙◌}
use native.Mathlib.Omega.{arith}
use lib.Dec.{eqb}
use Rattle.finite.proofs.Cases.{clash, by_bool}
use Rattle.aggregate.specs.Ways.{greatest, sum_joined}
use Rattle.aggregate.proofs.Laws.{plain_small}
use Rattle.aggregate.proofs.join_sums.Goals as goal

pub returns-then-has_none : goal.returns-then-has_none
unfolding sum_joined
returns-then-has_none c =
    let has = sym c.has_none.ensures ∙ c.if-has_none.true in
    by_bool (eqb c.args.way greatest)
    (λ e. rw e (rw e at c.choose.ensures))
    (λ e. rw (e, rw e at has) (rw e at c.choose.ensures))

pub overflow_add-result : goal.overflow_add-result
overflow_add-result c =
    let a = c.args in
    let has = sym c.has_none.ensures ∙ c.if-has_none.false in
    let x = plain_small a.way has a.x c.requires.0 in
    let y = plain_small a.way has a.y c.requires.1 in
    omega arith

pub returns : goal.returns
unfolding sum_joined
returns c =
    let has = sym c.has_none.ensures ∙ c.if-has_none.false in
    by_bool (eqb c.args.way greatest) (λ e. clash refl (rw e at has)) (λ e. rw (e, rw e at has))
