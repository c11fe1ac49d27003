-- `aggregate::join` meets its contract: class by class, the joined cell is stored over the first's places. Assumes nothing.
use mathlib.Core.Path.{◌≡◌, refl, sym, ap, ap₂, ◌∙◌}
use mathlib.Core.Bool.{Bool, true, false, not, ◌&&◌}
use Prim.Native.Nat.{ℕ, ◌<◌, min}
use lib.ListN.{length}
use borrow.Author.Tests.{not-true}
use native.Mathlib.Omega.{arith}
use Rattle.std.specs.Prelude.{Ok}
use Rattle.finite.specs.Below.{all_below}
use Rattle.finite.proofs.Cases.{by_bool, clash, and_both}
use Rattle.finite.proofs.Below.{all_below_more}
use Rattle.aggregate.specs.declared.Config.{Config}
use Rattle.aggregate.specs.declared.Aggregate.{Aggregate}
use Rattle.aggregate.specs.Aggregate.{used, cell, cell_bounded, bounded, cell_joined, joined, joinable}
use Rattle.aggregate.proofs.Joining.{pair}
use Rattle.aggregate.proofs.Places.{storing_none, storing_more, storing_all}
use Rattle.aggregate.proofs.Laws.{cell_parts, bounded_at}
use Rattle.aggregate.proofs.join.Goals as goal
use Rattle.aggregate.proofs.join.Goals.{Else-not-is_cell_bounded}

pub loop-class-init : goal.loop-class-init
unfolding all_below
loop-class-init c = (storing_none _ _, refl, refl)

-- a class in use that is not bounded, of either
failed : (t : Config) (a b : Aggregate) (i : ℕ) → i < used t → (p q : Bool) → p ≡ cell_bounded t.way (cell a i) → q ≡ cell_bounded t.way (cell b i) → not (p && q) ≡ true
    → joinable t a b ≡ false
failed t a b i l p q e f h =
    by_bool (joinable t a b)
    (λ j. let both = and_both (bounded t a) (bounded t b) j in
    clash (ap₂ (λ (x y : Bool). x && y) (e ∙ bounded_at t a both.0 i l) (f ∙ bounded_at t b both.1 i l)) (not-true (p && q) h))
    (λ j. j)

pub returns-then-not-is_cell_bounded : goal.returns-then-not-is_cell_bounded
returns-then-not-is_cell_bounded c =
    let l = c.loop-class in
    rw (failed c.args.t c.args.a c.args.b l.class (omega arith) _ _ (c.is_cell_bounded.ensures ∙ ap (cell_bounded _) c.place-x.ensures)
    (c.is_cell_bounded-in-loop-class.ensures ∙ ap (cell_bounded _) c.place-y.ensures) (ap not c.if-not-is_cell_bounded.true))

-- past the test both are
both_passed : (c : Else-not-is_cell_bounded)
    → (cell_bounded c.args.t.way c.place-x.result ≡ true) × (cell_bounded c.args.t.way c.place-y.result ≡ true)
both_passed c =
    let both = and_both c.is_cell_bounded.result c.is_cell_bounded-in-loop-class.result c.if-not-is_cell_bounded.false in
    (sym c.is_cell_bounded.ensures ∙ both.0, sym c.is_cell_bounded-in-loop-class.ensures ∙ both.1)

pub join_sums-requires : goal.join_sums-requires
join_sums-requires c =
    let both = both_passed c in
    ((cell_parts _ _ both.0).0, (cell_parts _ _ both.1).0)

-- so the missing numbers do not wrap
pub overflow_add-both : goal.overflow_add-both
overflow_add-both c =
    let both = both_passed (goal.at.overflow_add-both c).Else-not-is_cell_bounded in
    omega (arith, (cell_parts _ _ both.0).1, (cell_parts _ _ both.1).1)

pub loop-class-preserved : goal.loop-class-preserved
unfolding cell_joined
loop-class-preserved c =
    let args = c.args in
    let l = c.loop-class in
    let both = both_passed (goal.at.loop-class-preserved c).Else-not-is_cell_bounded in
    let cell-is = pair c.join_sums.ensures refl in (
      storing_more (λ j. cell_joined args.t.way (cell args.a j) (cell args.b j)) args.a l.both l.class l.invariant.0 _
          (cell-is ∙ ap₂ (cell_joined args.t.way) c.place-x.ensures c.place-y.ensures),
      all_below_more (λ j. cell_bounded args.t.way (cell args.a j)) l.class ∙ ap₂ (λ (x y : Bool). x && y) l.invariant.1 (rw c.place-x.ensures at both.0),
      all_below_more (λ j. cell_bounded args.t.way (cell args.b j)) l.class ∙ ap₂ (λ (x y : Bool). x && y) l.invariant.2 (rw c.place-y.ensures at both.1),
    )

pub returns : goal.returns
unfolding joined bounded
returns c =
    let l = c.loop-class in
    let ls : length c.args.a.sums ≡ 8 = c.well_formed.1.0.1.1.0.1.0.1 in
    let lm : length c.args.a.missing ≡ 8 = c.well_formed.1.0.1.1.1.0.1.0.1 in
    let end : l.class ≡ min c.args.t.classes 8 = omega arith in
    let a : bounded c.args.t c.args.a ≡ true = rw end at l.invariant.1 in
    let b : bounded c.args.t c.args.b ≡ true = rw end at l.invariant.2 in
    rw (a, b) (ap Ok (storing_all (λ j. cell_joined c.args.t.way (cell c.args.a j) (cell c.args.b j)) c.args.a l.both l.class l.invariant.0 _ end ls lm))
