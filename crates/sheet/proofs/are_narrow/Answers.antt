-- `sheet::are_narrow` meets its contract: the total of each class is tested in turn. Assumes nothing.
use mathlib.Core.Path.{refl, ap, ◌∙◌}
use mathlib.Core.Bool.{Bool}
use Prim.Native.Nat.{ℕ, ◌^◌}
use native.Mathlib.Omega.{arith}
use lib.Dec.{ltb}
use Rattle.std.proofs.Common.{rules, tests}
use Rattle.std.proofs.lemmas.Iterator.{YieldsList-from_range}
use Rattle.std.proofs.lemmas.Iterator.Search.{all_from_yields_List}
use Rattle.finite.proofs.Below.{all_below_ext, in_turn}
use Rattle.aggregate.specs.Aggregate.{cell}
use Rattle.sheet.specs.Sheet.{are_narrow}
use Rattle.sheet.proofs.are_narrow.Goals as goal

pub returns : goal.returns
unfolding are_narrow
returns c =
    let a = c.args in
    let test : ℕ → Bool = λ j. ltb (cell a.s.held j).sum (10 ^ 12) in
    all_from_yields_List test _ _ c.all.result c.all.ensures.ran (YieldsList-from_range 0 a.classes a.classes refl (omega arith)) (λ x b q k. search (rules, tests))
    ∙ in_turn test 0 a.classes
    ∙ all_below_ext a.classes _ _ (λ i l. ap test (omega arith))
