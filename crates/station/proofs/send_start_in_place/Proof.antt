-- `station::send_start_in_place` meets its contract: the law of a lent event, at `Process::send_start`. Assumes nothing.
use mathlib.Core.Path.{refl}
use mathlib.Core.List.{[], ◌∷◌}
use mir.Syntax.{w8}
use Rattle.lent.proofs.Data.{number}
use Rattle.lent.proofs.Law.{proved}
use Rattle.station.specs.Process.{send_start}
use Rattle.station.proofs.Lent.{lending}
use Rattle.station.proofs.Process.send_start.Symbol as by_value
use Rattle.station.proofs.Process.send_start.Met as by-value-met
use Rattle.station.specs.contracts.send_start_in_place.Key as key
use Rattle.station.proofs.send_start_in_place.Statement.{statement}
use Rattle.station.proofs.send_start_in_place.Code as code

pub send_start_in_place_spec : {M : Type 1} → statement M
send_start_in_place_spec 𝓤 𝓛 𝓜 𝓡 wired =
    proved 𝓛 𝓜 𝓡 (lending (number w8 ∷ []) (λ κs a. send_start a.0)) 𝓡.env key.name by_value.name (𝓡.env by_value.name)
    (code.unfolded 𝓤 𝓛.H 𝓜 𝓡 wired) refl (by-value-met.met 𝓤 𝓛 𝓜 𝓡 (code.calls-station::Process::send_start 𝓡.env wired))
