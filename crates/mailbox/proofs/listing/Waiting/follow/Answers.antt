-- `mailbox::listing::Waiting::follow` meets its contract: where nobody takes other messages than before, two senders' rows stored anew make all
-- rows right. Assumes nothing.
use mathlib.Core.Path.{◌≡◌, sym, ◌∙◌, ap₂}
use Prim.Native.Nat.{ℕ}
use lib.Dec.{eqb}
use borrow.Author.Tests.{eqb-true}
use Rattle.finite.proofs.Cases.{and_both}
use Rattle.schedule.specs.Internal.Rows.{Others}
use Rattle.schedule.proofs.Resizing.{rows_replaced, hold_those, others_or_two}
use Rattle.mailbox.specs.Internal.Receivers.{HoldReceivers}
use Rattle.mailbox.proofs.listing.Waiting.follow.Goals as goal
use Rattle.mailbox.proofs.listing.Waiting.follow.Goals.{Then-eq}

-- nobody takes other messages
same : (c : Then-eq) → let a = c.args in a.self.now.takers ≡ a.old
same c =
    let a = c.args in
    let takers = a.self.now.takers in
    let both = and_both (eqb takers.starts a.old.starts) (eqb takers.answers a.old.answers) (sym c.eq.ensures ∙ c.if-eq.true) in
    ap₂ (λ (starts answers : ℕ). record { starts = starts; answers = answers }) (eqb-true _ _ both.0) (eqb-true _ _ both.1)

-- so the rows of the others stand
held : (c : Then-eq) → let a = c.args in
    HoldReceivers (Others a.step) a.self.now.t a.self.now.takers a.self.now.reports a.self.now.boxes.now a.rows.now a.sizes
held c = rw (same c) c.requires.rows

pub returns-then-eq : goal.returns-then-eq
returns-then-eq c =
    let a = c.args in
    let few = a.self.now.few in
    let p = c.requires.places in
    let old = held (goal.at.returns-then-eq c).Then-eq in
    let one = c.replace-one.ensures in
    let both = c.replace.ensures in
    let sent = rows_replaced old few a.step.sender p.0 c.four.ensures one.rows one.sizes in
    let received = rows_replaced sent few a.step.receiver p.1 c.four-then-eq.ensures both.rows both.sizes in
    hold_those received (λ s m t. others_or_two a.step s)
