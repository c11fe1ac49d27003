-- `capi::rendezvous_net::tally_rendezvous_draw` meets its contract: what `rendezvous::draw` comes to, in numbers. Assumes nothing.
use mathlib.Core.Path.{◌∙◌, ap}
use Rattle.capi.specs.Steps.{step_call}
use Rattle.capi.proofs.Calls.{answer-call}
use Rattle.capi.proofs.rendezvous_net.tally_rendezvous_draw.Goals as goal

pub returns : goal.returns
returns c =
    let made = c.draw.ensures in
    record { call = answer-call c.draw.result _ _ c.number.ensures ∙ ap step_call made.outcome; beside = made.beside }
