-- `stations::store_aggregate` meets its contract: the invariant is the definition, sum by sum. Assumes nothing.
use mathlib.Core.Path.{◌≡◌}
use Rattle.stations.specs.Words.{with_sums}
use Rattle.stations.proofs.store_aggregate.Given as goal

abbrev pub invariant-loop-j : goal.invariant-loop-j
invariant-loop-j l = l.words ≡ with_sums l.initial.words l.at l.v l.j
