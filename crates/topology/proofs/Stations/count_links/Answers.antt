-- `topology::Stations::count_links` meets its contract. Invariant: the links between stations below i. Assumes nothing.
use mathlib.Core.Path.{◌≡◌, refl}
use mathlib.Core.List.{List}
use Prim.Native.Nat.{ℕ, ◌+◌, ◌<◌}
use native.Mathlib.Omega.{arith}
use native.Mathlib.Numerals.{add-one}
use lib.ListN.{get_or}
use borrow.Author.Tests.{lt-ltb}
use Rattle.finite.proofs.Sums.{indicators_le}
use Rattle.finite.specs.Sum.{fold_to}
use Rattle.finite.specs.Links.{links}
use Rattle.bitset.specs.Set.{member}
use Rattle.topology.specs.Acceptance.{linked}
use Rattle.topology.specs.Internal.Parts.{count_below}
use Rattle.topology.proofs.Stations.count_links.Goals as goal

-- one station more has its links to the stations below it
links_more : (k : ℕ) (sets : List ℕ) (i : ℕ) → i < k
    → links (i + 1) (linked k sets) ≡ links i (linked k sets) + count_below i (get_or sets i 0)
unfolding links fold_to
links_more k sets i l = rw (add-one, lt-ltb i k l)

pub loop-i-init : goal.loop-i-init
unfolding links fold_to
loop-i-init c = (omega arith, refl)

pub overflow_add-total : goal.overflow_add-total
overflow_add-total c =
    omega (arith, c.count_below-total.ensures, indicators_le c.loop-i.i (λ j. member j (get_or c.args.self.now.sets.now c.loop-i.i 0)))

pub loop-i-preserved : goal.loop-i-preserved
loop-i-preserved c =
    let sets = c.args.self.now.sets.now in (
      omega (arith, c.count_below-total.ensures, indicators_le c.loop-i.i (λ j. member j (get_or sets c.loop-i.i 0))),
      omega (arith, c.loop-i.invariant.1, c.count_below-total.ensures, links_more c.args.self.now.k sets c.loop-i.i (omega arith)),
    )
