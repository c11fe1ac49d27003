-- `topology::Stations::reach` meets its contract. Invariant: the set of the stations that fewer than t links join to the root; a round that
-- leaves it as it is leaves it to the end. Assumes nothing.
use mathlib.Core.Path.{◌≡◌}
use Rattle.topology.specs.Acceptance.{linked, near}
use Rattle.bitset.specs.Internal.Selected.{set_of}
use Rattle.topology.proofs.Stations.reach.Given as goal

abbrev pub invariant-loop : goal.invariant-loop
invariant-loop l = l.reached ≡ set_of l.self.k (near (linked l.self.k l.self.sets.now) l.self.root l.self.k l.counter)
