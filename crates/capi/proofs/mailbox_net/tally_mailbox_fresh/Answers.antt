-- `capi::mailbox_net::tally_mailbox_fresh` meets its contract: what `mailbox::fresh` comes to, in numbers. Assumes nothing.
use mathlib.Core.Path.{◌∙◌, ap}
use Rattle.capi.specs.Steps.{fresh_call}
use Rattle.capi.proofs.Calls.{opened-call}
use Rattle.capi.proofs.mailbox_net.tally_mailbox_fresh.Goals as goal

pub returns : goal.returns
returns c =
    let opened = c.fresh.ensures in
    record { call = opened-call c.fresh.result _ _ c.opened.ensures ∙ ap fresh_call opened.opening; spare = opened.spare }
