-- `topology::over_all` meets its contract. Invariant: the first offender from i on is the first of all. Assumes nothing.
use mathlib.Core.Path.{◌≡◌}
use mathlib.Core.Bool.{Bool}
use Prim.Native.Nat.{ℕ, ◌-◌, ◌<◌}
use Rattle.topology.specs.Acceptance.{first_from, lowest}
use Rattle.topology.proofs.over_all.Given as goal

abbrev pub invariant-loop-i : goal.invariant-loop-i
invariant-loop-i g l =
    (rule : ℕ → Bool) → ((x : ℕ) (b : Bool) → x < l.k → goal.B-post g l.breaks x b → b ≡ rule x)
    → first_from rule l.i (l.k - l.i) ≡ lowest l.k rule
