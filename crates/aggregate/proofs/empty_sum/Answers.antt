-- `aggregate::empty_sum` meets its contract: the test is the definition's. Assumes nothing.
use mathlib.Core.Path.{sym, ◌∙◌}
use Rattle.aggregate.specs.Ways.{empty_sum}
use Rattle.aggregate.proofs.empty_sum.Goals as goal

pub returns-then-has_none : goal.returns-then-has_none
unfolding empty_sum
returns-then-has_none c = rw (sym c.has_none.ensures ∙ c.if-has_none.true)

pub returns-else-has_none : goal.returns-else-has_none
unfolding empty_sum
returns-else-has_none c = rw (sym c.has_none.ensures ∙ c.if-has_none.false)
