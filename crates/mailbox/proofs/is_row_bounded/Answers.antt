-- `mailbox::is_row_bounded` meets its contract. Invariant: the mailboxes passed are bounded. Where no answer waits there is no sum. Assumes nothing.
use mathlib.Core.Path.{◌≡◌, refl, sym, ap, ap₂, ◌∙◌}
use mathlib.Core.Bool.{Bool, true, false, not, ◌&&◌, ◌||◌}
use Prim.Native.Nat.{◌+◌, ◌-◌, ◌≤◌, ◌<◌}
use native.Mathlib.Omega.{arith}
use lib.Dec.{ltb, eqb}
use borrow.Author.Tests.{ltb-true, ltb-false}
use Rattle.finite.proofs.Below.{all_below_lem, all_below_fails}
use Rattle.finite.proofs.Cases.{clash, by_bool, by_eq, or_right}
use Rattle.bitset.proofs.Laws.{member_empty}
use Rattle.bitset.proofs.Selected.{none_of_eight}
use Rattle.bitset.specs.Set.{member}
use Rattle.mail.specs.Mail.{mailbox_bounded, box_at, brought_at}
use Rattle.mail.proofs.Guards.{box_read_lem, brought_read_lem}
use Rattle.mailbox.proofs.Laws.{unanswered}
use Rattle.mailbox.proofs.is_row_bounded.Goals as goal
use Rattle.mailbox.proofs.is_row_bounded.Goals.{After-is_box_bounded}

-- what the code reads of a place, that it is bounded
read : (c : After-is_box_bounded) → let a = c.args in let r = c.loop-r.r in
    c.is_box_bounded.result ≡ mailbox_bounded a.t (box_at a.boxes.now a.s r) (brought_at a.t a.boxes.now a.s r)
read c =
    let a = c.args in
    let hs : a.s < 64 = omega arith in
    let hr : c.loop-r.r < 64 = omega arith in
    c.is_box_bounded.ensures
    ∙ ap₂ (mailbox_bounded a.t) (box_read_lem a.boxes.now a.s hs c.loop-r.r hr) (brought_read_lem a.boxes.now a.s hs c.loop-r.r hr a.t)

-- the test of a turn, failed and passed
fails : (same bounded : Bool) → (not same && not bounded) ≡ true → (same || bounded) ≡ false
fails true b e = clash refl (sym e)
fails false true e = clash refl (sym e)
fails false false e = refl

passes : (same bounded : Bool) → (not same && not bounded) ≡ false → (same || bounded) ≡ true
passes true b e = refl
passes false true e = refl
passes false false e = clash refl e

pub returns-then-answers-eq0 : goal.returns-then-answers-eq0
returns-then-answers-eq0 c =
    let a = c.args in
    sym (all_below_lem _ a.t.k (λ i l. or_right (eqb a.s i) _
    (unanswered a.t a.boxes.now a.s i (ap (member i) c.if-answers-eq0.true ∙ member_empty i))))

pub loop-r-init : goal.loop-r-init
loop-r-init c = (refl, λ i l. absurd (let z : ⊥ = omega arith in z))

pub loop-r-preserved-then-answers-r-eq0 : goal.loop-r-preserved-then-answers-r-eq0
loop-r-preserved-then-answers-r-eq0 c =
    let l = c.loop-r in
    let a = c.args in (
      l.invariant.0,
      λ i h. by_bool (ltb i l.r)
          (λ t. l.invariant.1 i (ltb-true i l.r t))
          (λ f. let far : l.r ≤ i = ltb-false i l.r f in
          let at : l.r + (i - l.r) ≡ i = omega arith in
          or_right (eqb a.s i) _ (unanswered a.t a.boxes.now a.s i
          (ap (member i) (sym l.invariant.0) ∙ rw at at (none_of_eight l.r _ c.if-answers-r-eq0.true (i - l.r) (omega arith))))),
    )

pub returns-then-s-r : goal.returns-then-s-r
returns-then-s-r c =
    let at = goal.at.returns-then-s-r c in
    sym (all_below_fails _ c.args.t.k c.loop-r.r c.loop-r-test.true (rw (← read at.After-is_box_bounded) (fails _ _ c.if-s-r.true)))

pub loop-r-preserved : goal.loop-r-preserved
loop-r-preserved c =
    let l = c.loop-r in
    let at = goal.at.loop-r-preserved c in (
      l.invariant.0,
      λ i h. by_eq i l.r
          (λ (e : i ≡ l.r). rw (e, ← read at.After-is_box_bounded) (passes _ _ c.if-s-r.false))
          (λ n. l.invariant.1 i (omega arith)),
    )

pub returns : goal.returns
returns c = let l = c.loop-r in sym (all_below_lem _ c.args.t.k (λ i m. l.invariant.1 i (omega arith)))
