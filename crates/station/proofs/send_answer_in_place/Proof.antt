-- `station::send_answer_in_place` meets its contract: the law of a lent event, at `Process::send_answer`. Assumes nothing.
use mathlib.Core.Path.{refl}
use mathlib.Core.List.{[]}
use Rattle.lent.proofs.Law.{proved}
use Rattle.station.specs.Process.{send_answer}
use Rattle.station.proofs.Lent.{lending}
use Rattle.station.proofs.Process.send_answer.Symbol as by_value
use Rattle.station.proofs.Process.send_answer.Met as by-value-met
use Rattle.station.specs.contracts.send_answer_in_place.Key as key
use Rattle.station.proofs.send_answer_in_place.Statement.{statement}
use Rattle.station.proofs.send_answer_in_place.Code as code

pub send_answer_in_place_spec : {M : Type 1} → statement M
send_answer_in_place_spec 𝓤 𝓛 𝓜 𝓡 wired =
    proved 𝓛 𝓜 𝓡 (lending [] (λ κs a. send_answer)) 𝓡.env key.name by_value.name (𝓡.env by_value.name)
    (code.unfolded 𝓤 𝓛.H 𝓜 𝓡 wired) refl (by-value-met.met 𝓤 𝓛 𝓜 𝓡 (code.calls-station::Process::send_answer 𝓡.env wired))
