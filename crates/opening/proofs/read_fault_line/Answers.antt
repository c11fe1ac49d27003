-- `opening::read_fault_line` meets its contract: a fault's number and its station are its numbers. Assumes nothing.
use mathlib.Core.Path.{sym, ap, ap₂, ◌∙◌}
use Prim.Native.Nat.{ℕ}
use Rattle.std.proofs.Common.{Option, option_to_list, ◌∷◌}
use Rattle.linemap.proofs.Answers.{read_fault_parts}
use Rattle.opening.specs.Refusals.{refusal_line}
use Rattle.opening.proofs.read_fault_line.Goals as goal

pub returns : goal.returns
returns c =
    c.numbered.ensures
    ∙ ap₂ (λ (n : ℕ) (i : Option ℕ). refusal_line (n ∷ option_to_list i)) c.number.ensures c.station.ensures
    ∙ ap refusal_line (sym (read_fault_parts c.args.fault))
