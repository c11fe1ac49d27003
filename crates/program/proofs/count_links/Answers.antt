-- `program::count_links` meets its contract: the links of an accepted map are counted, never refused. Assumes nothing.
use mathlib.Core.Path.{sym, ap, ◌∙◌}
use Prim.Native.Nat.{ℕ}
use lib.ListN.{get_or}
use Rattle.std.specs.Prelude.{Result}
use Rattle.std.specs.Result.{is_ok}
use Rattle.topology.specs.declared.Fault.{Fault}
use Rattle.topology.specs.Acceptance.{links_numbers}
use Rattle.program.proofs.Answers.{links_told}
use Rattle.program.proofs.count_links.Goals as goal

pub unwrap-requires : goal.unwrap-requires
unwrap-requires c = ap is_ok (links_told c.args.m c.requires c.links.result c.links.ensures)

pub returns : goal.returns
returns c =
    ap (λ (r : Result ℕ Fault). get_or (links_numbers r) 1 0)
    (sym c.unwrap.ensures ∙ links_told c.args.m c.requires c.links.result c.links.ensures)
