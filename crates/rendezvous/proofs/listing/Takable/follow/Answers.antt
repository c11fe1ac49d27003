-- `rendezvous::listing::Takable::follow` meets its contract. Invariant: the rows are right of the senders below x and of those that may send to
-- neither station of the step. Assumes nothing.
use mathlib.Core.Path.{◌≡◌, sym, ◌∙◌, ap₂}
use mathlib.Core.Logic.{inl}
use Prim.Native.Nat.{ℕ}
use native.Mathlib.Omega.{arith}
use lib.Dec.{eqb}
use borrow.Author.Tests.{eqb-true}
use Rattle.finite.proofs.Cases.{and_both}
use Rattle.bitset.specs.Set.{union}
use Rattle.schedule.specs.Internal.Rows.{Others}
use Rattle.schedule.proofs.Resizing.{rows_replaced, others_or_two}
use Rattle.rendezvous.specs.Internal.Receivers.{kept_at, HoldSome}
use Rattle.rendezvous.proofs.Following.{hold_all, rows_stand, passed_none, passed_missing, passed_anew}
use Rattle.rendezvous.proofs.listing.Takable.follow.Goals as goal
use Rattle.rendezvous.proofs.listing.Takable.follow.Goals.{then-met-ne0, else-met-ne0}

-- the step has left the states as they were
same : (c : goal.Then-same) → let a = c.args in a.self.now.states ≡ a.old
same c =
    let a = c.args in
    let both = and_both (eqb a.self.now.states.asleep a.old.asleep) (eqb a.self.now.states.active a.old.active) (sym c.eq-same.ensures ∙ c.if-same.true) in
    ap₂ (λ (asleep active : ℕ). record { asleep = asleep; active = active }) (eqb-true _ _ both.0) (eqb-true _ _ both.1)

-- so the rows of the others stand
held : (c : goal.Then-same) → let a = c.args in
    HoldSome (Others a.step) a.self.now.k a.self.now.states (kept_at a.self.now.kept.now) a.rows.now a.sizes
held c = rw (same c) c.requires.rows

pub returns-then-same : goal.returns-then-same
returns-then-same c =
    let step = c.args.step in
    let few = c.args.self.now.few in
    let p = c.requires.places in
    let one = c.replace-one.ensures in
    let all = c.replace-all.ensures in
    let sent = rows_replaced (held c).hold few step.sender p.0 c.find_four-sent.ensures one.rows one.sizes in
    let received = rows_replaced sent few step.receiver p.1 c.find_four-received.ensures all.rows all.sizes in
    hold_all (λ s m. others_or_two step s) (record { hold = received })

pub loop-x-init : goal.loop-x-init
loop-x-init c =
    let a = c.args in
    let step = a.step in
    let few = a.self.now.few in
    let p = c.requires.places in
    let set = c.union-both.ensures ∙ ap₂ union c.bit_if.ensures c.bit_if-2.ensures in
    let stand = rows_stand step (omega (arith, few, p.0)) (omega (arith, few, p.1)) c.requires.states c.requires.rows in
    let one = c.replace-one.ensures in
    let all = c.replace-all.ensures in
    let sent = rows_replaced stand.hold few step.sender p.0 c.find_four-sent.ensures one.rows one.sizes in
    let received = rows_replaced sent few step.receiver p.1 c.find_four-received.ensures all.rows all.sizes in
    passed_none _ step set (record { hold = received })

pub loop-x-preserved : goal.loop-x-preserved
loop-x-preserved c =
    let l = c.loop-x in
    elim c.if-met-ne0.branch [
      | then-met-ne0 w ↦
          let next = w.replace-all-then-met-ne0.ensures in
          rw (w.rows-is, w.all-is)
          (passed_anew _ (record {
            hold = rows_replaced l.invariant.hold c.args.self.now.few l.x (omega (arith, c.loop-x-test.true)) w.find_four.ensures
                next.rows next.sizes;
          }))
      | else-met-ne0 w ↦ rw (w.rows-is, w.all-is) (passed_missing _ (rw c.union.ensures at w.if-met-ne0.false) l.invariant)
    ]

pub returns : goal.returns
returns c =
    let l = c.loop-x in
    hold_all (λ s m. inl (omega (arith, m, c.loop-x-test.false))) l.invariant
