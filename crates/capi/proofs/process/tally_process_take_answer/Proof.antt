-- `capi::process::tally_process_take_answer` meets its contract: the law of a record passed on, at `station::take_answer_in_place` and `number`.
-- Assumes nothing.
use mathlib.Core.Path.{refl}
use mathlib.Core.List.{[], ◌∷◌}
use Rattle.lent.proofs.Passing.{passing_proved}
use Rattle.station.specs.Process.{take_answer}
use Rattle.station.proofs.Lent.{aggregate}
use Rattle.station.proofs.take_answer_in_place.Symbol as lent
use Rattle.station.proofs.take_answer_in_place.Met as lent_met
use Rattle.capi.proofs.Lent.{on_process}
use Rattle.capi.proofs.process.number.Symbol as by_value
use Rattle.capi.proofs.process.number.Met as by-value-met
use Rattle.capi.specs.contracts.process.tally_process_take_answer.Key as key
use Rattle.capi.proofs.process.tally_process_take_answer.Statement.{statement}
use Rattle.capi.proofs.process.tally_process_take_answer.Code as code

pub tally_process_take_answer_spec : {M : Type 1} → statement M
tally_process_take_answer_spec 𝓤 𝓛 𝓜 𝓡 wired =
    passing_proved 𝓛 𝓜 𝓡 (on_process (aggregate ∷ []) (λ κs a. take_answer a.0)) 𝓡.env key.name lent.name by_value.name
    (𝓡.env lent.name) (𝓡.env by_value.name) (code.unfolded 𝓤 𝓛.H 𝓜 𝓡 wired)
    refl (lent_met.met 𝓤 𝓛 𝓜 𝓡 (code.calls-station::take_answer_in_place 𝓡.env wired))
    refl (by-value-met.met 𝓤 𝓛 𝓜 𝓡 (code.calls-capi::process::number 𝓡.env wired))
