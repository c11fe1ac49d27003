-- `aggregate::join` meets its contract: class by class, the joined cell is stored over the first's places. Assumes nothing.
use mathlib.Core.Path.{◌≡◌}
use mathlib.Core.Bool.{true}
use Rattle.finite.specs.Below.{all_below}
use Rattle.aggregate.specs.Aggregate.{cell, cell_bounded, cell_joined}
use Rattle.aggregate.proofs.Places.{Storing}
use Rattle.aggregate.proofs.join.Given as goal

abbrev pub invariant-loop-class : goal.invariant-loop-class
invariant-loop-class l = Storing (λ j. cell_joined l.way (cell l.a j) (cell l.b j)) l.a l.both l.class
    × (all_below l.class (λ j. cell_bounded l.way (cell l.a j)) ≡ true)
    × (all_below l.class (λ j. cell_bounded l.way (cell l.b j)) ≡ true)
