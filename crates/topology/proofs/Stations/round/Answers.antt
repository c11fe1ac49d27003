-- `topology::Stations::round` meets its contract. Invariant: the set of the stations below i that are near. Assumes nothing.
use mathlib.Core.Path.{◌≡◌, refl, ap, ◌∙◌}
use mathlib.Core.Bool.{Bool}
use Prim.Native.Nat.{ℕ, ◌+◌, ◌<◌, ◌^◌}
use native.Mathlib.Omega.{arith}
use lib.ListN.{get_or}
use Rattle.bitset.specs.Set.{bit_if}
use Rattle.bitset.specs.Internal.Selected.{set_of}
use Rattle.bitset.proofs.Selected.{set_next}
use Rattle.topology.specs.Internal.Parts.{near_by}
use Rattle.topology.proofs.Stations.round.Goals as goal

abbrev test : goal.After-bit_if-out → ℕ → Bool
test c x =
    near_by c.args.self.now.root (get_or c.args.self.now.sets.now x 0) c.args.reached x

-- a turn adds station i, if it is near
next : (c : goal.After-bit_if-out)
    → let at = c.loop-i in
    (at.out + c.bit_if-out.result ≡ set_of (at.i + 1) (test c)) × (at.out + c.bit_if-out.result < 2 ^ 64)
next c =
    set_next (test c) c.loop-i.i (omega arith) c.loop-i.invariant
    (c.bit_if-out.ensures ∙ ap (λ (b : Bool). bit_if b c.loop-i.i) c.is_near-near.ensures)

pub loop-i-init : goal.loop-i-init
unfolding set_of
loop-i-init c = refl

pub overflow_add-out : goal.overflow_add-out
overflow_add-out c = omega (arith, (next c).1)

pub loop-i-preserved : goal.loop-i-preserved
loop-i-preserved c = (next c).0
