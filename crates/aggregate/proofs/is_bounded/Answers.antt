-- `aggregate::is_bounded` meets its contract. The invariant: every class passed is bounded. Assumes nothing.
use mathlib.Core.Path.{◌≡◌, refl, sym, ap₂, ◌∙◌}
use mathlib.Core.Bool.{Bool, ◌&&◌}
use Prim.Native.Nat.{min}
use native.Mathlib.Omega.{arith}
use Rattle.finite.specs.Below.{all_below}
use Rattle.finite.proofs.Below.{all_below_more, all_below_fails}
use Rattle.aggregate.specs.Aggregate.{cell, cell_bounded, bounded}
use Rattle.aggregate.proofs.is_bounded.Goals as goal

pub loop-class-init : goal.loop-class-init
unfolding all_below
loop-class-init c = refl

pub returns-then-not-is_cell_bounded : goal.returns-then-not-is_cell_bounded
unfolding bounded
returns-then-not-is_cell_bounded c =
    let fails = rw c.place.ensures at (sym c.is_cell_bounded.ensures ∙ c.if-not-is_cell_bounded.true) in
    sym (all_below_fails (λ j. cell_bounded c.args.t.way (cell c.args.a j)) _ c.loop-class.class (omega arith) fails)

pub loop-class-preserved : goal.loop-class-preserved
loop-class-preserved c =
    let passes = rw c.place.ensures at (sym c.is_cell_bounded.ensures ∙ c.if-not-is_cell_bounded.false) in
    all_below_more (λ j. cell_bounded c.args.t.way (cell c.args.a j)) c.loop-class.class ∙ ap₂ (λ (x y : Bool). x && y) c.loop-class.invariant passes

pub returns : goal.returns
unfolding bounded
returns c =
    let end : c.loop-class.class ≡ min c.args.t.classes 8 = omega arith in
    sym (rw end at c.loop-class.invariant)
