-- `rendezvous::figure::send` meets its contract: each arm is the sender's event. Assumes nothing.
use borrow.Author.Tests.{ne_eqb}
use Rattle.finite.proofs.Cases.{by_eq}
use Rattle.rendezvous.specs.Internal.Receivers.{sent_by}
use mathlib.Core.Path.{◌≡◌}
use native.Mathlib.Omega.{arith}
use Rattle.rendezvous.proofs.figure.send.Goals as goal
use Rattle.rendezvous.proofs.figure.send.Goals.{in_default-via-then-step-lt1, in_default-via-else-step-lt1+else-step-lt3}

pub returns-in-1 : goal.returns-in-1
unfolding sent_by
returns-in-1 c =
    let kind = c.args.step.kind in
    by_eq kind 1
    (λ e. rw (c.start_sent.ensures, e))
    (λ n. let pass : kind ≡ 2 = omega arith in rw (c.start_sent.ensures, pass))

pub returns-in-5 : goal.returns-in-5
unfolding sent_by
returns-in-5 c = rw c.in-5.is

pub returns-in_default : goal.returns-in_default
unfolding sent_by
returns-in_default c =
    let kind = c.args.step.kind in
    let none : ((kind ≡ 1 → ⊥) × (kind ≡ 2 → ⊥)) × (kind ≡ 5 → ⊥) = elim c.in_default.branch [
      | in_default-via-then-step-lt1 w ↦ ((λ e. omega arith, λ e. omega arith), λ e. omega arith)
      | in_default-via-else-step-lt1+else-step-lt3 w ↦ ((λ e. omega arith, λ e. omega arith), λ e. omega arith)
    ] in
    rw (ne_eqb kind 1 none.0.0, ne_eqb kind 2 none.0.1, ne_eqb kind 5 none.1, c.ended.ensures)
