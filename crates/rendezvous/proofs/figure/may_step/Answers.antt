-- `rendezvous::figure::may_step` meets its contract: each arm is the guard of its kind, and the other states and kinds fail its first test.
-- Assumes nothing.
use mathlib.Core.Path.{◌≡◌}
use native.Mathlib.Omega.{arith}
use borrow.Author.Tests.{ne_eqb}
use Rattle.rendezvous.specs.Figure.{may_step}
use Rattle.rendezvous.proofs.Guards.{wake-guard, pass-guard, answer-guard, report-guard}
use Rattle.rendezvous.proofs.figure.may_step.Goals as goal

pub returns-in-0-state : goal.returns-in-0-state
returns-in-0-state c = rw (c.in-1.is, wake-guard, c.in-0-state.is, c.may_send_start.ensures)

pub returns-in_default : goal.returns-in_default
returns-in_default c = rw (c.in-1.is, wake-guard, ne_eqb c.args.r.state 0 (λ e. omega arith))

pub returns-in-1-state : goal.returns-in-1-state
returns-in-1-state c = rw (c.in-2.is, pass-guard, c.in-1-state.is, c.may_send_start-in-1-state.ensures)

pub returns-in_default-state : goal.returns-in_default-state
returns-in_default-state c = rw (c.in-2.is, pass-guard, ne_eqb c.args.r.state 1 (λ e. omega arith))

pub returns-in-1-state-2 : goal.returns-in-1-state-2
returns-in-1-state-2 c = rw (c.in-3.is, answer-guard, c.in-1-state-2.is, c.may_answer.ensures)

pub returns-in_default-state-2 : goal.returns-in_default-state-2
returns-in_default-state-2 c = rw (c.in-3.is, answer-guard, ne_eqb c.args.r.state 1 (λ e. omega arith))

pub returns-in-4 : goal.returns-in-4
returns-in-4 c = rw (c.in-4.is, report-guard, c.is_ready.ensures)

pub returns-in-0 : goal.returns-in-0
unfolding may_step
returns-in-0 c = let none : c.args.step.kind ≡ 0 = omega arith in rw none

pub returns-in-0-2 : goal.returns-in-0-2
unfolding may_step
returns-in-0-2 c =
    let kind = c.args.step.kind in
    let not-wake : kind ≡ 1 → ⊥ = λ e. omega arith in
    let not-pass : kind ≡ 2 → ⊥ = λ e. omega arith in
    let not_answer : kind ≡ 3 → ⊥ = λ e. omega arith in
    let not-report : kind ≡ 4 → ⊥ = λ e. omega arith in
    rw (ne_eqb kind 1 not-wake, ne_eqb kind 2 not-pass, ne_eqb kind 3 not_answer, ne_eqb kind 4 not-report)
