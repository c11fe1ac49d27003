-- `rendezvous::figure::receive` meets its contract: each arm is the receiver's event. Assumes nothing.
use mathlib.Core.Path.{◌≡◌}
use native.Mathlib.Omega.{arith}
use borrow.Author.Tests.{ne_eqb}
use Rattle.rendezvous.specs.Internal.Receivers.{received_by}
use Rattle.rendezvous.proofs.figure.receive.Goals as goal

pub returns-in-1 : goal.returns-in-1
unfolding received_by
returns-in-1 c = rw (c.woken.ensures, c.in-1.is)

pub returns-in-2 : goal.returns-in-2
unfolding received_by
returns-in-2 c = rw (c.start_taken.ensures, c.in-2.is)

pub returns-in-3 : goal.returns-in-3
unfolding received_by
returns-in-3 c = rw (c.answer_taken.ensures, c.requires, c.in-3.is)

pub returns-in-5 : goal.returns-in-5
unfolding received_by
returns-in-5 c = rw (c.hear_total.ensures, c.in-5.is)

pub returns-in_default : goal.returns-in_default
unfolding received_by
returns-in_default c =
    let kind = c.args.step.kind in
    let not-wake : kind ≡ 1 → ⊥ = λ e. omega arith in
    let not-pass : kind ≡ 2 → ⊥ = λ e. omega arith in
    let not_answer : kind ≡ 3 → ⊥ = λ e. omega arith in
    let not-tell : kind ≡ 5 → ⊥ = λ e. omega arith in
    rw (ne_eqb kind 1 not-wake, ne_eqb kind 2 not-pass, ne_eqb kind 3 not_answer, ne_eqb kind 5 not-tell, c.ended.ensures)
