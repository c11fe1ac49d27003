-- `capi::process::tally_process_send_answer` meets its contract: the law of a record passed on, at `station::send_answer_in_place` and `give`.
-- Assumes nothing.
use mathlib.Core.Path.{refl}
use Rattle.lent.proofs.Passing.{passing_proved}
use Rattle.station.specs.Process.{send_answer}
use Rattle.station.proofs.send_answer_in_place.Symbol as lent
use Rattle.station.proofs.send_answer_in_place.Met as lent_met
use Rattle.capi.proofs.Lent.{on_giving}
use Rattle.capi.proofs.process.give.Symbol as by_value
use Rattle.capi.proofs.process.give.Met as by-value-met
use Rattle.capi.specs.contracts.process.tally_process_send_answer.Key as key
use Rattle.capi.proofs.process.tally_process_send_answer.Statement.{statement}
use Rattle.capi.proofs.process.tally_process_send_answer.Code as code

pub tally_process_send_answer_spec : {M : Type 1} → statement M
tally_process_send_answer_spec 𝓤 𝓛 𝓜 𝓡 wired =
    passing_proved 𝓛 𝓜 𝓡 (on_giving send_answer) 𝓡.env key.name lent.name by_value.name
    (𝓡.env lent.name) (𝓡.env by_value.name) (code.unfolded 𝓤 𝓛.H 𝓜 𝓡 wired)
    refl (lent_met.met 𝓤 𝓛 𝓜 𝓡 (code.calls-station::send_answer_in_place 𝓡.env wired))
    refl (by-value-met.met 𝓤 𝓛 𝓜 𝓡 (code.calls-capi::process::give 𝓡.env wired))
