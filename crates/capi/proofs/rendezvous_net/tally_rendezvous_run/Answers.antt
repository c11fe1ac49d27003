-- `capi::rendezvous_net::tally_rendezvous_run` meets its contract: what `rendezvous::run` comes to, in numbers. Assumes nothing.
use mathlib.Core.Path.{ap}
use Rattle.capi.specs.Steps.{run_call}
use Rattle.capi.proofs.rendezvous_net.tally_rendezvous_run.Goals as goal

pub returns : goal.returns
returns c =
    let ran = c.run.ensures in
    record { call = rw c.run_answer.ensures (ap run_call ran.outcome); beside = ran.beside }
