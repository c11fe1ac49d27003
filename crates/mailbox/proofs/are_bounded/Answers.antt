-- `mailbox::are_bounded` meets its contract: the rows are asked in turn. Assumes nothing.
use mathlib.Core.Path.{refl, ap, ◌∙◌}
use native.Mathlib.Omega.{arith}
use Rattle.std.proofs.Common.{rules, tests}
use Rattle.std.proofs.lemmas.Iterator.{YieldsList-from_range}
use Rattle.std.proofs.lemmas.Iterator.Search.{all_from_yields_List}
use Rattle.finite.proofs.Below.{all_below_ext, in_turn}
use Rattle.mailbox.specs.Net.{row_bounded, are_bounded}
use Rattle.mailbox.proofs.are_bounded.Goals as goal

pub returns : goal.returns
unfolding are_bounded
returns c =
    let test = row_bounded c.args.t c.args.boxes.now in
    all_from_yields_List test _ _ _ c.all.ensures.ran (YieldsList-from_range 0 c.args.t.k _ refl (omega arith)) (λ x b q k. search (rules, tests))
    ∙ in_turn test 0 c.args.t.k
    ∙ all_below_ext c.args.t.k _ _ (λ i l. ap test (omega arith))
