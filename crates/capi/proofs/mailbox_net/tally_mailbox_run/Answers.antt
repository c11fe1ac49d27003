-- `capi::mailbox_net::tally_mailbox_run` meets its contract: what `mailbox::run` comes to, in numbers. Assumes nothing.
use mathlib.Core.Path.{ap}
use Rattle.capi.specs.Steps.{run_call}
use Rattle.capi.proofs.mailbox_net.tally_mailbox_run.Goals as goal

pub returns : goal.returns
returns c =
    let ran = c.run.ensures in
    record { call = rw c.run_answer.ensures (ap run_call ran.outcome); spare = ran.spare }
