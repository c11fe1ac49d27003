-- `stations::load_aggregate` meets its contract: sum by sum, the word is stored over zero. Assumes nothing.
use mathlib.Core.Path.{◌≡◌, refl, ap, ◌∙◌}
use mathlib.Core.List.{List}
use Prim.Native.Nat.{ℕ, ◌+◌}
use native.Mathlib.Omega.{arith}
use lib.ListN.{get_or, replicate}
use Rattle.finite.specs.Below.{tabulate, each}
use Rattle.finite.proofs.Below.{stored, stored_more}
use Rattle.aggregate.specs.Aggregate.{of_words}
use Rattle.stations.specs.Words.{sums_in}
use Rattle.stations.proofs.load_aggregate.Goals as goal

pub loop-j-init : goal.loop-j-init
unfolding stored
loop-j-init c = refl

pub loop-j-preserved : goal.loop-j-preserved
loop-j-preserved c =
    let a = c.args in
    let l = c.loop-j in
    stored_more (λ n. get_or a.words.now (a.at + n) 0) (replicate 8 0) l.j l.sums _ l.invariant refl

pub returns : goal.returns
unfolding sums_in stored tabulate each
returns c =
    let a = c.args in
    let l = c.loop-j in
    let all : l.j ≡ 8 = omega arith in
    c.of_words.ensures ∙ ap (λ (sums : List ℕ). of_words sums (get_or a.words.now (a.at + 8) 0)) (rw all at l.invariant)
