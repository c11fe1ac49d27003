-- `capi::process::tally_process_report` meets its contract: the law of a record passed on, at `station::report_in_place` and `give`.
-- Assumes nothing.
use mathlib.Core.Path.{refl}
use Rattle.lent.proofs.Passing.{passing_proved}
use Rattle.station.specs.Process.{report}
use Rattle.station.proofs.report_in_place.Symbol as lent
use Rattle.station.proofs.report_in_place.Met as lent_met
use Rattle.capi.proofs.Lent.{on_giving}
use Rattle.capi.proofs.process.give.Symbol as by_value
use Rattle.capi.proofs.process.give.Met as by-value-met
use Rattle.capi.specs.contracts.process.tally_process_report.Key as key
use Rattle.capi.proofs.process.tally_process_report.Statement.{statement}
use Rattle.capi.proofs.process.tally_process_report.Code as code

pub tally_process_report_spec : {M : Type 1} → statement M
tally_process_report_spec 𝓤 𝓛 𝓜 𝓡 wired =
    passing_proved 𝓛 𝓜 𝓡 (on_giving report) 𝓡.env key.name lent.name by_value.name
    (𝓡.env lent.name) (𝓡.env by_value.name) (code.unfolded 𝓤 𝓛.H 𝓜 𝓡 wired)
    refl (lent_met.met 𝓤 𝓛 𝓜 𝓡 (code.calls-station::report_in_place 𝓡.env wired))
    refl (by-value-met.met 𝓤 𝓛 𝓜 𝓡 (code.calls-capi::process::give 𝓡.env wired))
