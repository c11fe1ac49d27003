-- `station::take_answer_in_place` meets its contract: the law of a lent event, at `Process::take_answer`. Assumes nothing.
use mathlib.Core.Path.{refl}
use mathlib.Core.List.{[], ◌∷◌}
use Rattle.lent.proofs.Law.{proved}
use Rattle.station.specs.Process.{take_answer}
use Rattle.station.proofs.Lent.{aggregate, lending}
use Rattle.station.proofs.Process.take_answer.Symbol as by_value
use Rattle.station.proofs.Process.take_answer.Met as by-value-met
use Rattle.station.specs.contracts.take_answer_in_place.Key as key
use Rattle.station.proofs.take_answer_in_place.Statement.{statement}
use Rattle.station.proofs.take_answer_in_place.Code as code

pub take_answer_in_place_spec : {M : Type 1} → statement M
take_answer_in_place_spec 𝓤 𝓛 𝓜 𝓡 wired =
    proved 𝓛 𝓜 𝓡 (lending (aggregate ∷ []) (λ κs a. take_answer a.0)) 𝓡.env key.name by_value.name (𝓡.env by_value.name)
    (code.unfolded 𝓤 𝓛.H 𝓜 𝓡 wired) refl (by-value-met.met 𝓤 𝓛 𝓜 𝓡 (code.calls-station::Process::take_answer 𝓡.env wired))
