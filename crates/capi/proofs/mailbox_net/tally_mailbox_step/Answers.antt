-- `capi::mailbox_net::tally_mailbox_step` meets its contract: what `mailbox::step` comes to, in numbers. Assumes nothing.
use mathlib.Core.Path.{◌∙◌, ap}
use Rattle.capi.specs.Steps.{step_call}
use Rattle.capi.proofs.Calls.{answer-call}
use Rattle.capi.proofs.mailbox_net.tally_mailbox_step.Goals as goal

pub returns : goal.returns
returns c =
    let made = c.step.ensures in
    record { call = answer-call c.step.result _ _ c.number.ensures ∙ ap step_call made.outcome; spare = made.spare }
