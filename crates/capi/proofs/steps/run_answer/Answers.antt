-- `capi::steps::run_answer` meets its contract: the number, with whether the net is quiescent, and the steps. Assumes nothing.
use Rattle.finite.proofs.Cases.{by_bool}
use Rattle.capi.proofs.steps.run_answer.Goals as goal

pub returns : goal.returns
returns c =
    by_bool c.args.ran.at_rest
    (λ t. rw (c.with_value.ensures, c.from.ensures, c.run_number.ensures, t))
    (λ f. rw (c.with_value.ensures, c.from.ensures, c.run_number.ensures, f))
