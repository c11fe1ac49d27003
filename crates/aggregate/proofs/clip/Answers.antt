-- `aggregate::clip` meets its contract: class by class, the cell is stored over zeros. Assumes nothing.
use mathlib.Core.Path.{◌≡◌, refl}
use Prim.Native.Nat.{min}
use native.Mathlib.Omega.{arith}
use Rattle.aggregate.specs.Aggregate.{cell, clipped, nothing}
use Rattle.aggregate.proofs.Places.{storing_none, storing_more, storing_over-zeros}
use Rattle.aggregate.proofs.clip.Goals as goal

pub loop-class-init : goal.loop-class-init
unfolding nothing
loop-class-init c = storing_none _ _

pub loop-class-preserved : goal.loop-class-preserved
loop-class-preserved c =
    storing_more (cell c.args.a) nothing _ c.loop-class.class c.loop-class.invariant (cell c.args.a c.loop-class.class) refl

pub returns : goal.returns
unfolding clipped
returns c =
    let end : c.loop-class.class ≡ min c.args.t.classes 8 = omega arith in
    storing_over-zeros (cell c.args.a) _ _ _ c.loop-class.invariant end
