-- `aggregate::clip` meets its contract: class by class, the cell is stored over zeros. Assumes nothing.
use Rattle.aggregate.specs.Aggregate.{cell, nothing}
use Rattle.aggregate.proofs.Places.{Storing}
use Rattle.aggregate.proofs.clip.Given as goal

abbrev pub invariant-loop-class : goal.invariant-loop-class
invariant-loop-class l = Storing (cell l.fn.a) nothing (record { sums = l.sums; missing = l.missing }) l.class
