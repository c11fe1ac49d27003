-- `aggregate::is_bounded` meets its contract. The invariant: every class passed is bounded. Assumes nothing.
use mathlib.Core.Path.{◌≡◌}
use mathlib.Core.Bool.{true}
use Rattle.finite.specs.Below.{all_below}
use Rattle.aggregate.specs.Aggregate.{cell, cell_bounded}
use Rattle.aggregate.proofs.is_bounded.Given as goal

abbrev pub invariant-loop-class : goal.invariant-loop-class
invariant-loop-class l = all_below l.class (λ j. cell_bounded l.t.way (cell l.a j)) ≡ true
