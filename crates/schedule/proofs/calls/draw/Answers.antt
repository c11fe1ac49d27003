-- `schedule::calls::draw` meets its contract: outside the form a draw is refused, and else what is picked of the listing decides. Assumes nothing.
use Rattle.std.proofs.Common.{sym, ap, ◌∙◌}
use Rattle.schedule.specs.Outcome.{step_made}
use Rattle.finite.proofs.Cases.{refused_up}
use Rattle.schedule.proofs.Answers.{outcome_refused}
use Rattle.schedule.proofs.Outcomes.{draw_unformed}
use Rattle.schedule.proofs.Drawing.{drawn_nothing, drawn_allowed, drawn_accepted}
use Rattle.schedule.proofs.calls.draw.Goals as goal

pub returns-then-not-list-clause-outcome : goal.returns-then-not-list-clause-outcome
returns-then-not-list-clause-outcome g c = sym (draw_unformed g.K.Kind.rules _ c.args.d (sym c.list.ensures.formed ∙ c.if-not-list.true))

pub pick-requires-clause-formed : goal.pick-requires-clause-formed
pick-requires-clause-formed g c = (sym c.list.ensures.formed ∙ c.if-not-list.false)

pub pick-requires-clause-lists : goal.pick-requires-clause-lists
pick-requires-clause-lists g c = (c.list.ensures.lists c.if-not-list.false)

pub returns-in_err-step-clause-outcome : goal.returns-in_err-step-clause-outcome
returns-in_err-step-clause-outcome g c =
    let up = refused_up c.pick.result c.in_err-step.ensures.value c.from_residual.ensures.1 in
    outcome_refused up.1 ∙ sym (drawn_nothing g.K.Kind.rules _ c.args.d c.pick.ensures (sym c.list.ensures.formed ∙ c.if-not-list.false) up.0)

pub make-requires-clause-formed : goal.make-requires-clause-formed
make-requires-clause-formed g c = (sym c.list.ensures.formed ∙ c.if-not-list.false)

pub make-requires-clause-may : goal.make-requires-clause-may
make-requires-clause-may g c = drawn_allowed g.K.Kind.rules _ c.args.d c.pick.ensures c.in_ok-step.ensures.ok_part

pub returns-clause-outcome : goal.returns-clause-outcome
returns-clause-outcome g c =
    ap (step_made c.in_ok-step.step) c.make.ensures.made
    ∙ sym (drawn_accepted g.K.Kind.rules _ c.args.d c.pick.ensures (sym c.list.ensures.formed ∙ c.if-not-list.false) c.in_ok-step.ensures.ok_part)
