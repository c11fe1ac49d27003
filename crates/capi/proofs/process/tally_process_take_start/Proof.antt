-- `capi::process::tally_process_take_start` meets its contract: the law of a record passed on, at `station::take_start_in_place` and `number`.
-- Assumes nothing.
use mathlib.Core.Path.{refl}
use mathlib.Core.List.{[], ◌∷◌}
use mir.Syntax.{w8}
use Rattle.lent.proofs.Data.{number}
use Rattle.lent.proofs.Passing.{passing_proved}
use Rattle.station.specs.Process.{take_start}
use Rattle.station.proofs.take_start_in_place.Symbol as lent
use Rattle.station.proofs.take_start_in_place.Met as lent_met
use Rattle.capi.proofs.Lent.{on_process}
use Rattle.capi.proofs.process.number.Symbol as by_value
use Rattle.capi.proofs.process.number.Met as by-value-met
use Rattle.capi.specs.contracts.process.tally_process_take_start.Key as key
use Rattle.capi.proofs.process.tally_process_take_start.Statement.{statement}
use Rattle.capi.proofs.process.tally_process_take_start.Code as code

pub tally_process_take_start_spec : {M : Type 1} → statement M
tally_process_take_start_spec 𝓤 𝓛 𝓜 𝓡 wired =
    passing_proved 𝓛 𝓜 𝓡 (on_process (number w8 ∷ []) (λ κs a. take_start a.0)) 𝓡.env key.name lent.name by_value.name
    (𝓡.env lent.name) (𝓡.env by_value.name) (code.unfolded 𝓤 𝓛.H 𝓜 𝓡 wired)
    refl (lent_met.met 𝓤 𝓛 𝓜 𝓡 (code.calls-station::take_start_in_place 𝓡.env wired))
    refl (by-value-met.met 𝓤 𝓛 𝓜 𝓡 (code.calls-capi::process::number 𝓡.env wired))
