-- `aggregate::gather` meets its contract: class by class, the cell of its count is stored over zeros. Assumes nothing.
use mathlib.Core.Path.{◌≡◌}
use Prim.Native.Nat.{min}
use native.Mathlib.Omega.{arith}
use Rattle.aggregate.specs.Aggregate.{gathered, nothing}
use Rattle.aggregate.proofs.Places.{storing_none, storing_more, storing_over-zeros}
use Rattle.aggregate.proofs.gather.Goals as goal

pub loop-class-init : goal.loop-class-init
unfolding nothing
loop-class-init c = storing_none _ _

pub loop-class-preserved : goal.loop-class-preserved
loop-class-preserved c =
    storing_more _ nothing _ c.loop-class.class c.loop-class.invariant _ c.gather_cell-x.ensures

pub returns : goal.returns
unfolding gathered
returns c =
    let end : c.loop-class.class ≡ min c.args.t.classes 8 = omega arith in
    storing_over-zeros _ _ _ _ c.loop-class.invariant end
