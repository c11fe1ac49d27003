-- `aggregate::gather_cell` meets its contract: the tests are the definition's. Assumes nothing.
use borrow.Author.Tests.{eq-eqb, ne_eqb}
use Rattle.aggregate.specs.Ways.{counting}
use Rattle.aggregate.specs.Aggregate.{cell_gathered}
use Rattle.aggregate.proofs.gather_cell.Goals as goal

pub returns-then-count-eq-NO_READING : goal.returns-then-count-eq-NO_READING
unfolding cell_gathered
returns-then-count-eq-NO_READING c = rw (c.empty_sum.ensures, eq-eqb _ 4294967295 c.if-count-eq-NO_READING.true)

pub returns-then-way-eq-COUNTING : goal.returns-then-way-eq-COUNTING
unfolding cell_gathered
returns-then-way-eq-COUNTING c = rw (ne_eqb _ 4294967295 c.if-count-eq-NO_READING.false, eq-eqb _ counting c.if-way-eq-COUNTING.true)

pub returns : goal.returns
unfolding cell_gathered
returns c = rw (ne_eqb _ 4294967295 c.if-count-eq-NO_READING.false, ne_eqb _ counting c.if-way-eq-COUNTING.false)
