-- `sheet::Writer::put_count` meets its contract: the test is that of `count_column`. Assumes nothing.
use borrow.Author.Tests.{eq-eqb, ne_eqb}
use Rattle.sheet.specs.Layout.{count_column}
use Rattle.sheet.proofs.Writer.put_count.Goals as goal

pub returns-then-count-eq-NO_READING : goal.returns-then-count-eq-NO_READING
unfolding count_column
returns-then-count-eq-NO_READING c = rw (eq-eqb _ _ c.if-count-eq-NO_READING.true) c.put.ensures

pub returns-else-count-eq-NO_READING : goal.returns-else-count-eq-NO_READING
unfolding count_column
returns-else-count-eq-NO_READING c = rw (ne_eqb _ _ c.if-count-eq-NO_READING.false) c.put_number.ensures
