-- `topology::Stations::round` meets its contract. Invariant: the set of the stations below i that are near. Assumes nothing.
use mathlib.Core.Path.{◌≡◌}
use lib.ListN.{get_or}
use Rattle.bitset.specs.Internal.Selected.{set_of}
use Rattle.topology.specs.Internal.Parts.{near_by}
use Rattle.topology.proofs.Stations.round.Given as goal

abbrev pub invariant-loop-i : goal.invariant-loop-i
invariant-loop-i l = l.out ≡ set_of l.i (λ x. near_by l.self.root (get_or l.self.sets.now x 0) l.reached x)
