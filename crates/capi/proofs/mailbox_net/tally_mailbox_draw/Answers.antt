-- `capi::mailbox_net::tally_mailbox_draw` meets its contract: what `mailbox::draw` comes to, in numbers. Assumes nothing.
use mathlib.Core.Path.{◌∙◌, ap}
use Rattle.capi.specs.Steps.{step_call}
use Rattle.capi.proofs.Calls.{answer-call}
use Rattle.capi.proofs.mailbox_net.tally_mailbox_draw.Goals as goal

pub returns : goal.returns
returns c =
    let made = c.draw.ensures in
    record { call = answer-call c.draw.result _ _ c.number.ensures ∙ ap step_call made.outcome; spare = made.spare }
