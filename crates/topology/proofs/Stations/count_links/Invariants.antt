-- `topology::Stations::count_links` meets its contract. Invariant: the links between stations below i. Assumes nothing.
use mathlib.Core.Path.{◌≡◌}
use Prim.Native.Nat.{◌*◌, ◌≤◌}
use Rattle.finite.specs.Links.{links}
use Rattle.topology.specs.Acceptance.{linked}
use Rattle.topology.proofs.Stations.count_links.Given as goal

abbrev pub invariant-loop-i : goal.invariant-loop-i
invariant-loop-i l = (l.total ≤ 64 * l.i) × (l.total ≡ links l.i (linked l.self.k l.self.sets.now))
