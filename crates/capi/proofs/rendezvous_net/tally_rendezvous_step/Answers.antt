-- `capi::rendezvous_net::tally_rendezvous_step` meets its contract: what `rendezvous::step` comes to, in numbers. Assumes nothing.
use mathlib.Core.Path.{◌∙◌, ap}
use Rattle.capi.specs.Steps.{step_call}
use Rattle.capi.proofs.Calls.{answer-call}
use Rattle.capi.proofs.rendezvous_net.tally_rendezvous_step.Goals as goal

pub returns : goal.returns
returns c =
    let made = c.step.ensures in
    record { call = answer-call c.step.result _ _ c.number.ensures ∙ ap step_call made.outcome; beside = made.beside }
