-- `capi::map::tally_map_read` meets its contract: the law of a lent event, at `read`. Assumes nothing.
use mathlib.Core.Path.{refl}
use mathlib.Core.List.{[], ◌∷◌}
use mir.Syntax.{w8}
use Rattle.lent.proofs.Data.{numbers}
use Rattle.lent.proofs.Law.{proved}
use Rattle.capi.specs.Map.{read_call}
use Rattle.capi.proofs.Lent.{on_map}
use Rattle.capi.proofs.map.read.Symbol as by_value
use Rattle.capi.proofs.map.read.Met as by-value-met
use Rattle.capi.specs.contracts.map.tally_map_read.Key as key
use Rattle.capi.proofs.map.tally_map_read.Statement.{statement}
use Rattle.capi.proofs.map.tally_map_read.Code as code

pub tally_map_read_spec : {M : Type 1} → statement M
tally_map_read_spec 𝓤 𝓛 𝓜 𝓡 wired =
    proved 𝓛 𝓜 𝓡 (on_map (numbers 0 tt w8 ∷ []) (λ κs a m. read_call a.0.now m)) 𝓡.env key.name by_value.name (𝓡.env by_value.name)
    (code.unfolded 𝓤 𝓛.H 𝓜 𝓡 wired) refl (by-value-met.met 𝓤 𝓛 𝓜 𝓡 (code.calls-capi::map::read 𝓡.env wired))
