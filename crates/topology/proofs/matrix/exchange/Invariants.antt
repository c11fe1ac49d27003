-- `topology::matrix::exchange` meets its contract. Invariant: the first 2i rows are those of the pass. Assumes nothing.
use mathlib.Core.Path.{◌≡◌}
use Prim.Native.Nat.{ℕ, ◌*◌, ◌<◌}
use lib.ListN.{length, get_or}
use Rattle.topology.specs.Internal.Matrix.{exchanged_row}
use Rattle.topology.proofs.matrix.exchange.Given as goal

abbrev pub invariant-loop-i : goal.invariant-loop-i
invariant-loop-i l = (length l.to ≡ 64) × ((r : ℕ) → r < 2 * l.i → get_or l.to r 0 ≡ exchanged_row l.width l.firsts l.from r)
