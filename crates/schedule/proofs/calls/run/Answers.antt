-- `schedule::calls::run` meets its contract. Invariant: the run is one from the net reached, by the draws that are left, and that net's steps
-- are listed. Assumes nothing.
use Rattle.std.proofs.Common.{◌≡◌, refl, sym, ap, ◌∙◌, arith, length}
use Rattle.schedule.proofs.Running.{outcome_of, run_starts, barred_with, used_up_with, at-rest_with, goes_on_with, unformed_with}
use Rattle.std.specs.Option.{is_some}
use Rattle.schedule.proofs.Picks.{none_rests}
use Rattle.schedule.proofs.Drawing.{drawn_allowed}
use Rattle.schedule.proofs.calls.run.Goals as goal

pub returns-then-not-list-clause-outcome : goal.returns-then-not-list-clause-outcome
returns-then-not-list-clause-outcome g c =
    outcome_of c.stop_outside.ensures _ ∙ sym (barred_with g.K.Kind.rules _ c.args.draws.now (sym c.list.ensures.formed ∙ c.if-not-list.true))

pub loop-made-init : goal.loop-made-init
loop-made-init g c = (run_starts g.K.Kind.rules _ c.args.draws.now (sym c.list.ensures.formed ∙ c.if-not-list.false), (c.list.ensures.lists c.if-not-list.false), refl)

pub returns-in_default-clause-outcome : goal.returns-in_default-clause-outcome
returns-in_default-clause-outcome g c =
    outcome_of c.stop.ensures _
    ∙ sym (at-rest_with g.K.Kind.rules c.loop-made.invariant.0 c.loop-made-test.true c.pick.ensures c.in_default.is)

pub advance-requires-clause-may : goal.advance-requires-clause-may
advance-requires-clause-may g c = drawn_allowed g.K.Kind.rules _ _ c.pick.ensures c.in-Some.is

pub returns-then-not-advance-clause-outcome : goal.returns-then-not-advance-clause-outcome
returns-then-not-advance-clause-outcome g c =
    outcome_of c.stop_outside-then-not-advance.ensures _
    ∙ sym (unformed_with g.K.Kind.rules c.loop-made.invariant.0 c.loop-made-test.true c.pick.ensures c.in-Some.is c.advance.ensures.made
    (sym c.advance.ensures.formed ∙ c.if-not-advance.true))

pub loop-made-preserved : goal.loop-made-preserved
loop-made-preserved g c = (
  goes_on_with g.K.Kind.rules c.loop-made.invariant.0 c.loop-made-test.true c.pick.ensures c.in-Some.is c.advance.ensures.made
      (sym c.advance.ensures.formed ∙ c.if-not-advance.false),
  c.advance.ensures.lists c.if-not-advance.false,
  c.advance.ensures.rest ∙ c.loop-made.invariant.2,
)

pub returns-clause-outcome : goal.returns-clause-outcome
returns-clause-outcome g c =
    let k = g.K.Kind in
    let rests = none_rests _ 0 c.is_none-at_rest.result (ap is_some (sym c.pick-2.ensures) ∙ c.is_none-at_rest.ensures) in
    let all : length c.args.draws.now ≡ c.loop-made.made = omega (arith, c.loop-made.auto.made-end) in
    outcome_of c.stop-2.ensures _
    ∙ rw (rests, all) (sym (used_up_with k.rules c.loop-made.invariant.0 c.loop-made-test.false refl))
