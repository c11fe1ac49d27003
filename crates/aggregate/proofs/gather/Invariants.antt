-- `aggregate::gather` meets its contract: class by class, the cell of its count is stored over zeros. Assumes nothing.
use lib.ListN.{get_or}
use Rattle.aggregate.specs.Aggregate.{cell_gathered, nothing}
use Rattle.aggregate.proofs.Places.{Storing}
use Rattle.aggregate.proofs.gather.Given as goal

abbrev pub invariant-loop-class : goal.invariant-loop-class
invariant-loop-class l = Storing (λ j. cell_gathered l.fn.t.way (get_or l.fn.r.counts j 0)) nothing (record { sums = l.sums; missing = l.missing }) l.class
