-- `mailbox::delivery::deliver` meets its contract: the test of the receiver's state picks the mailboxes of the definition, and the test of its
-- waits the case. Assumes nothing.
use mathlib.Core.Path.{◌≡◌, sym, ap, ap₂, ◌∙◌}
use mathlib.Core.Bool.{true, false}
use mathlib.Core.List.{List}
use Prim.Native.Nat.{ℕ, ◌<◌}
use borrow.Author.Tests.{eq-eqb, ne_eqb}
use Rattle.aggregate.specs.declared.Aggregate.{Aggregate}
use Rattle.mail.specs.declared.Message.TheVariants.{Answer}
use Rattle.mail.specs.declared.Mailbox.TheVariants.{Empty, Full}
use Rattle.mail.specs.Mail.{box_at, brought_at, with_box}
use Rattle.mail.proofs.Guards.{box_written_lem, starts_written_lem}
use Rattle.mailbox.specs.Delivery.{boxes_after, boxes_settled, must_answer}
use Rattle.mailbox.proofs.Laws.{taken_parent}
use Rattle.mailbox.proofs.delivery.deliver.Goals as goal
use Rattle.mailbox.proofs.delivery.deliver.Goals.{After-must_answer, then-receiver-eq-ASLEEP, else-receiver-eq-ASLEEP}

-- the receiver's parent has a place, after it took the message
home_low : (c : After-must_answer) → c.take-s.result.parent < 64
home_low c =
    let a = c.args in
    let p = c.requires.places in
    rw c.take-s.ensures
    (taken_parent (λ (p : ℕ). p < 64) a.t a.from (box_at a.boxes.now a.from a.to) (brought_at a.t a.boxes.now a.from a.to)
    a.receiver p.0 p.1.1)

-- where the ways meet, the mailboxes are those after the message is taken
emptied-and_started : (c : After-must_answer) → let a = c.args in
    c.if-receiver-eq-ASLEEP.boxes ≡ boxes_after a.boxes.now a.from a.to a.receiver
unfolding boxes_after
emptied-and_started c =
    let a = c.args in
    let p = c.requires.places in
    let emptied = c.put_box.ensures ∙ box_written_lem a.boxes.now a.from p.0 a.to p.1.0 _ _
    ∙ ap (with_box a.boxes.now a.from a.to Empty) c.empty.ensures in
    elim c.if-receiver-eq-ASLEEP.branch [
      | then-receiver-eq-ASLEEP w ↦ w.boxes-is ∙ w.post_starts.ensures ∙ starts_written_lem _ a.to p.1.0 _
          ∙ rw (w.without-others.ensures, eq-eqb _ 0 w.if-receiver-eq-ASLEEP.true, emptied)
      | else-receiver-eq-ASLEEP w ↦ w.boxes-is ∙ rw (ne_eqb _ 0 w.if-receiver-eq-ASLEEP.false, emptied)
    ]

pub returns-then-must_answer : goal.returns-then-must_answer
unfolding boxes_settled
returns-then-must_answer c =
    let a = c.args in
    let at = (goal.at.returns-then-must_answer c).After-must_answer in
    let s = c.take-s.result in
    let must : must_answer a.t a.to s ≡ true = sym c.must_answer.ensures ∙ c.if-must_answer.true in record {
      receiver = rw (← c.take-s.ensures, must) c.ended.ensures;
      boxes = rw (← c.take-s.ensures, must) (c.put_box-then-must_answer.ensures
          ∙ box_written_lem _ a.to c.requires.places.1.0 s.parent (home_low at) _ _
          ∙ ap₂ (λ (l : List ℕ) (v : Aggregate). with_box l a.to s.parent (Full Answer) v) (emptied-and_started at)
          c.clip-given.ensures);
    }

pub returns : goal.returns
unfolding boxes_settled
returns c =
    let a = c.args in
    let must : must_answer a.t a.to c.take-s.result ≡ false = sym c.must_answer.ensures ∙ c.if-must_answer.false in
    let emptied = emptied-and_started (goal.at.returns c).After-must_answer in
    record { receiver = rw (← c.take-s.ensures, must); boxes = rw (← c.take-s.ensures, must) emptied }
