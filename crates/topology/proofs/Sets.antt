-- The rules by whole sets. A round of the code is a step of `near`, since two sets meet where their bits do, and one that finds nobody
-- new is the last to find any; naming is tested against the transpose; the members below a station are those of a remainder. Assumes
-- nothing.
use mathlib.Core.Path.{◌≡◌, refl, sym, ap, ap₂, ◌∙◌}
use mathlib.Core.Bool.{Bool, true, false, not, ◌&&◌, ◌||◌}
use mathlib.Core.List.{List}
use Prim.Native.Nat.{ℕ, zero, suc, ◌+◌, ◌%◌, ◌^◌, ◌<◌, ◌≤◌}
use native.Mathlib.Nat.{add-zero, mod-lt, lt_of_le_of_lt}
use native.Mathlib.Numerals.{add-one}
use native.Mathlib.Omega.{arith}
use lib.ListN.{get_or}
use lib.Dec.{eqb}
use lib.Pow.{pow_pos}
use lib.Bits.{bit_and, and_le_l}
use borrow.Author.Tests.{eq-eqb, ne_eqb, lt-ltb, not-true}
use Rattle.finite.proofs.Sums.{sum_ext}
use Rattle.finite.specs.Sum.{indicator}
use Rattle.finite.specs.Internal.Monoid.{addition}
use Rattle.finite.proofs.Cases.{clash, by_bool, and_both}
use Rattle.bitset.specs.Set.{member, size, within}
use Rattle.bitset.specs.Internal.Selected.{set_of}
use Rattle.bitset.proofs.Bits.{member_worth}
use Rattle.bitset.proofs.Laws.{same_members, empty_of_members, size-sum, within-lt}
use Rattle.bitset.proofs.Selected.{set-lt, set-none, set_ext, set-member, member-and, member-mod}
use Rattle.topology.specs.Acceptance.{any_below, linked, near, names_one_sided}
use Rattle.topology.specs.Internal.Parts.{round_of, count_below}
use Rattle.topology.specs.Internal.Matrix.{Transposed}
use Rattle.topology.proofs.Searches.{any_of, any_is, any_ext}

-- two sets, the first of stations below k, meet where some station below k is in both
meets_any : (k r s : ℕ) → r < 2 ^ k → not (eqb (bit_and r s) 0) ≡ any_below k (λ j. member j r && member j s)
meets_any k r s h =
    by_bool (any_below k (λ j. member j r && member j s))
    (λ t.
    let w = any_is k (λ j. member j r && member j s) t in
    let worth : 2 ^ w.0 ≤ bit_and r s = member_worth w.0 (bit_and r s) (member-and w.0 r s ∙ w.2) in
    ap not (ne_eqb (bit_and r s) 0 (λ z. omega (arith, worth, pow_pos w.0))) ∙ sym t)
    (λ f.
    let none : (j : ℕ) → j < k → member j (bit_and r s) ≡ false =
    λ j l. by_bool (member j (bit_and r s))
    (λ t. clash (any_of k (λ x. member x r && member x s) j l (sym (member-and j r s) ∙ t)) f)
    (λ g. g) in
    ap not (eq-eqb (bit_and r s) 0 (empty_of_members k (bit_and r s) (lt_of_le_of_lt (and_le_l r s) h) none)) ∙ sym f)

-- a round by sets is a step of `near`
pub round_near : (root k : ℕ) (sets : List ℕ) (t : ℕ)
    → round_of root k sets (set_of k (near (linked k sets) root k t)) ≡ set_of k (near (linked k sets) root k (t + 1))
unfolding near
round_near root k sets t =
    let adj = linked k sets in
    let reached = set_of k (near adj root k t) in
    rw add-one
    (set_ext k _ _ (λ i l.
    ap (λ (b : Bool). eqb i root || b)
    (meets_any k reached (get_or sets i 0) (set-lt k _)
    ∙ any_ext k _ _ (λ j m.
    ap₂ (λ (a b : Bool). a && b) (set-member k (near adj root k t) j m)
    (sym (ap (λ (a : Bool). a && member j (get_or sets i 0)) (lt-ltb i k l)))))))

pub round_zero : (root k : ℕ) (adj : ℕ → ℕ → Bool) → 0 ≡ set_of k (near adj root k 0)
unfolding near
round_zero root k adj = sym (set-none k (near adj root k 0) (λ i. refl))

-- after a round that finds nobody new, no round does
pub rounds_settle : (root k : ℕ) (sets : List ℕ) (t d : ℕ)
    → round_of root k sets (set_of k (near (linked k sets) root k t)) ≡ set_of k (near (linked k sets) root k t)
    → set_of k (near (linked k sets) root k (t + d)) ≡ set_of k (near (linked k sets) root k t)
rounds_settle root k sets t zero still = ap (λ (n : ℕ). set_of k (near (linked k sets) root k n)) (add-zero t)
rounds_settle root k sets t (suc d) still =
    let more : t + suc d ≡ t + d + 1 = omega arith in
    ap (λ (n : ℕ). set_of k (near (linked k sets) root k n)) more
    ∙ sym (round_near root k sets (t + d))
    ∙ ap (round_of root k sets) (rounds_settle root k sets t d still)
    ∙ still

-- a station that names others below k alone names one of them one-sidedly just where they are not all among its namers
pub one_sided_transposed : (k : ℕ) (sets namers : List ℕ) (i : ℕ) → k ≤ 64 → i < k → Transposed sets namers → within k (get_or sets i 0) ≡ true
    → not (eqb (bit_and (get_or sets i 0) (get_or namers i 0)) (get_or sets i 0)) ≡ names_one_sided k sets i
one_sided_transposed k sets namers i few l transposed inside =
    let s = get_or sets i 0 in
    let n = get_or namers i 0 in
    let test : ℕ → Bool = λ j. member j s && not (member i (get_or sets j 0)) in
    let named_by : (j : ℕ) → j < k → member j n ≡ member i (get_or sets j 0) = λ j m. transposed i j (omega arith) (omega arith) in
    by_bool (any_below k test)
    (λ t.
    let w = any_is k test t in
    let j = w.0 in
    let both = and_both (member j s) (not (member i (get_or sets j 0))) w.2 in
    let gone : member j (bit_and s n) ≡ false =
    member-and j s n ∙ ap₂ (λ (a b : Bool). a && b) both.0 (named_by j w.1 ∙ not-true _ both.1) in
    ap not (ne_eqb (bit_and s n) s (λ e. clash both.0 (ap (member j) (sym e) ∙ gone))) ∙ sym t)
    (λ f.
    let same : (j : ℕ) → j < k → member j (bit_and s n) ≡ member j s =
    λ j m. member-and j s n
    ∙ by_bool (member j s)
    (λ t. rw t (named_by j m
    ∙ by_bool (member i (get_or sets j 0)) (λ u. u) (λ g. clash (any_of k test j m (rw (t, g))) f)))
    (λ g. rw g) in
    let below = within-lt k s inside in
    ap not (eq-eqb (bit_and s n) s (same_members k (bit_and s n) s (lt_of_le_of_lt (and_le_l s n) below) below same)) ∙ sym f)

pub size-mod : (i s : ℕ) → i ≤ 64 → size (s % 2 ^ i) ≡ count_below i s
size-mod i s h =
    size-sum i (s % 2 ^ i) h (mod-lt s (pow_pos i))
    ∙ sum_ext addition i _ _ (λ j l. ap indicator (member-mod i j s l))
