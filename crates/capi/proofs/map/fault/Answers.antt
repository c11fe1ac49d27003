-- `capi::map::fault` meets its contract: its number, with the station where there is one. Assumes nothing.
use mathlib.Core.Path.{sym, ap, ap₂, ◌∙◌}
use Prim.Native.Nat.{ℕ}
use Rattle.std.proofs.Common.{Option, option_to_list, ◌∷◌}
use Rattle.topology.proofs.Answers.{fault_parts}
use Rattle.capi.specs.Answers.{packed}
use Rattle.capi.proofs.map.fault.Goals as goal

pub returns : goal.returns
returns c =
    c.numbered.ensures
    ∙ ap₂ (λ (n : ℕ) (i : Option ℕ). packed (n ∷ option_to_list i)) c.number.ensures c.station.ensures
    ∙ ap packed (sym (fault_parts c.args.why))
