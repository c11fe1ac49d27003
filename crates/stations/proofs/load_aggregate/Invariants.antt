-- `stations::load_aggregate` meets its contract: sum by sum, the word is stored over zero. Assumes nothing.
use mathlib.Core.Path.{◌≡◌}
use Prim.Native.Nat.{◌+◌}
use lib.ListN.{get_or, replicate}
use Rattle.finite.proofs.Below.{stored}
use Rattle.stations.proofs.load_aggregate.Given as goal

abbrev pub invariant-loop-j : goal.invariant-loop-j
invariant-loop-j l = l.sums ≡ stored (replicate 8 0) l.j (λ n. get_or l.words (l.at + n) 0)
