-- `topology::count_below` meets its contract: the remainder by 2 ^ i keeps the stations below i. Assumes nothing.
use mathlib.Core.Path.{◌≡◌, ap, ◌∙◌}
use Prim.Native.Nat.{ℕ, ◌*◌, ◌%◌, ◌^◌, ◌<◌}
use native.Mathlib.Nat.{one-mul, mod-eq_of_lt}
use native.Mathlib.Omega.{arith}
use lib.Pow.{pow-lt}
use Rattle.bitset.specs.Set.{size}
use Rattle.topology.proofs.Sets.{size-mod}
use Rattle.topology.proofs.count_below.Goals as goal

exact : (i : ℕ) → i < 64 → 1 * 2 ^ i % 2 ^ 64 ≡ 2 ^ i
exact i h = rw one-mul (mod-eq_of_lt (pow-lt h))

pub returns : goal.returns
returns c =
    c.size.ensures
    ∙ ap (λ (m : ℕ). size (c.args.set % m)) (exact c.args.i c.requires)
    ∙ size-mod c.args.i c.args.set (omega arith)
