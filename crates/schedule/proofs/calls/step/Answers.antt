-- `schedule::calls::step` meets its contract: each return is an outcome of `step_on` by the tests that lead to it. Assumes nothing.
use Rattle.std.proofs.Common.{sym, ap, ◌∙◌}
use Rattle.schedule.specs.Rules.{allowed}
use Rattle.schedule.specs.Outcome.{step_made}
use Rattle.schedule.proofs.Outcomes.{step_unformed, step_outside, step_barred, step-taken}
use Rattle.schedule.proofs.calls.step.Goals as goal

pub returns-then-not-is_well_formed-clause-outcome : goal.returns-then-not-is_well_formed-clause-outcome
returns-then-not-is_well_formed-clause-outcome g c =
    sym (step_unformed g.K.Kind.rules _ c.args.step (sym c.is_well_formed.ensures ∙ c.if-not-is_well_formed.true))

pub returns-then-not-is_in_range-clause-outcome : goal.returns-then-not-is_in_range-clause-outcome
returns-then-not-is_in_range-clause-outcome g c =
    sym (step_outside g.K.Kind.rules _ c.args.step (sym c.is_well_formed.ensures ∙ c.if-not-is_well_formed.false)
    (sym c.is_in_range.ensures ∙ c.if-not-is_in_range.true))

pub returns-then-not-is_allowed-clause-outcome : goal.returns-then-not-is_allowed-clause-outcome
returns-then-not-is_allowed-clause-outcome g c =
    sym (step_barred g.K.Kind.rules _ c.args.step (sym c.is_well_formed.ensures ∙ c.if-not-is_well_formed.false)
    (sym c.is_in_range.ensures ∙ c.if-not-is_in_range.false) (sym c.is_allowed.ensures ∙ c.if-not-is_allowed.true))

pub make-requires-clause-may : goal.make-requires-clause-may
unfolding allowed
make-requires-clause-may g c = rw (sym c.is_in_range.ensures ∙ c.if-not-is_in_range.false) (sym c.is_allowed.ensures ∙ c.if-not-is_allowed.false)

pub returns-clause-outcome : goal.returns-clause-outcome
returns-clause-outcome g c =
    ap (step_made c.args.step) c.make.ensures.made
    ∙ sym (step-taken g.K.Kind.rules _ c.args.step (sym c.is_well_formed.ensures ∙ c.if-not-is_well_formed.false)
    (sym c.is_in_range.ensures ∙ c.if-not-is_in_range.false) (sym c.is_allowed.ensures ∙ c.if-not-is_allowed.false))
