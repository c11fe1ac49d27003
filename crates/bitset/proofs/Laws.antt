-- Laws of sets by their members: where members may lie, what a removal leaves, and the size as a sum over the stations.
-- Each is read off the bits. Assumes nothing.
use mathlib.Core.Path.{◌≡◌, refl, sym, ◌∙◌, ap}
use mathlib.Core.Bool.{true, false, not, ◌&&◌}
use Prim.Native.Nat.{ℕ, zero, suc, ◌+◌, ◌-◌, ◌/◌, ◌^◌, ◌<◌, ◌≤◌}
use native.Mathlib.Nat.{div-eq_of_lt, lt_of_lt_of_le, le-div_iff_mul-le, add-zero, add-suc}
use native.Mathlib.Omega.{arith}
use lib.Dec.{eqb, ltb}
use lib.Pow.{pow_pos, pow_mono, shr-shr, shr_le}
use borrow.Author.Tests.{eqb-true, eqb-false, eq-eqb, ne_eqb, lt-ltb, ltb-true, ltb-false}
use Rattle.std.proofs.lemmas.Nat.Bits.{same_from_bits}
use Rattle.finite.specs.Sum.{fold_to, indicator}
use Rattle.finite.specs.Internal.Monoid.{addition, sum_to}
use Rattle.finite.proofs.Cases.{by_bool, by_eq, clash}
use Rattle.finite.proofs.Sums.{indicators_le}
use Rattle.bitset.specs.Set.{bit, member, members_below, size, without, within}
use Rattle.bitset.proofs.Bits.{same_bits, bit_gone, bit_kept}

-- no station from the width on is in a set
pub no_member-from : (k j s : ℕ) → s < 2 ^ k → k ≤ j → member j s ≡ false
unfolding member
no_member-from k j s h far = rw (div-eq_of_lt (lt_of_lt_of_le h (pow_mono far)))

-- a station in a set is below the width
pub member_below : (k j s : ℕ) → s < 2 ^ k → member j s ≡ true → j < k
member_below k j s h e =
    by_bool (ltb j k) (λ t. ltb-true j k t) (λ f. clash e (no_member-from k j s h (ltb-false j k f)))

pub member_empty : (j : ℕ) → member j 0 ≡ false
member_empty j = no_member-from 0 j 0 (pow_pos 0) (omega arith)

-- the stations of a set that is shifted by k
pub member_shift : (k j s : ℕ) → member j (s / 2 ^ k) ≡ member (k + j) s
unfolding member
member_shift k j s = rw (shr-shr s k j)

-- what is a member of both or of neither has the same bit in both
bit_of_members : (s t j : ℕ) → member j s ≡ member j t → bit j s ≡ bit j t
unfolding member
bit_of_members s t j same =
    by_eq (bit j s) 1
    (λ e. e ∙ sym (eqb-true (bit j t) 1 (sym same ∙ eq-eqb (bit j s) 1 e)))
    (λ ne. omega (arith, ne, eqb-false (bit j t) 1 (sym same ∙ ne_eqb (bit j s) 1 ne)))

-- two sets with the same members are the same
pub same_sets : (s t : ℕ) → ((j : ℕ) → member j s ≡ member j t) → s ≡ t
same_sets s t same = same_from_bits s t (λ j. bit_of_members s t j (same j))

-- and so are two below a bound with the same members below it
pub same_members : (k s t : ℕ) → s < 2 ^ k → t < 2 ^ k → ((j : ℕ) → j < k → member j s ≡ member j t) → s ≡ t
same_members k s t hs ht same = same_bits k s t hs ht (λ j l. bit_of_members s t j (same j l))

-- a set without members is the empty set
pub empty_of_members : (k s : ℕ) → s < 2 ^ k → ((j : ℕ) → j < k → member j s ≡ false) → s ≡ 0
empty_of_members k s h none = same_members k s 0 h (pow_pos k) (λ j l. none j l ∙ sym (member_empty j))

-- what is removed is no member, and every other station is one as before
pub member-without : (i j s : ℕ) → member i (without j s) ≡ (not (eqb i j) && member i s)
unfolding member
member-without i j s =
    by_eq i j
    (λ e. rw (eq-eqb i j e) (ap (λ (n : ℕ). eqb (bit n (without j s)) 1) e ∙ ap (λ (x : ℕ). eqb x 1) (bit_gone j s)))
    (λ ne. rw (ne_eqb i j ne) (ap (λ (x : ℕ). eqb x 1) (bit_kept i j s ne)))

pub without-le : (j s : ℕ) → without j s ≤ s
unfolding without
without-le j s = by_bool (member j s) (λ e. rw e (omega arith)) (λ e. rw e (omega arith))

-- the members below n, counted one by one
count_sum : (n s : ℕ) → members_below n s ≡ sum_to addition n (λ j. indicator (member j s))
unfolding members_below fold_to indicator member
count_sum zero s = refl
count_sum (suc n) s =
    by_eq (bit n s) 1
    (λ e. rw (eq-eqb (bit n s) 1 e) (omega (arith, count_sum n s)))
    (λ ne. rw (ne_eqb (bit n s) 1 ne) (omega (arith, count_sum n s, ne)))

-- terms that are zero from k on add nothing
sum_trim : (k d : ℕ) (f : ℕ → ℕ) → ((i : ℕ) → k ≤ i → f i ≡ 0) → sum_to addition (k + d) f ≡ sum_to addition k f
unfolding fold_to
sum_trim k zero f h = ap (λ (n : ℕ). sum_to addition n f) (add-zero k)
sum_trim k (suc d) f h = rw add-suc (omega (arith, sum_trim k d f h, h (k + d) (omega arith)))

-- the size of a set of stations below k: each of these counts where it is a member
pub size-sum : (k s : ℕ) → k ≤ 64 → s < 2 ^ k → size s ≡ sum_to addition k (λ j. indicator (member j s))
unfolding size indicator
size-sum k s l h =
    let whole : k + (64 - k) ≡ 64 = omega arith in
    count_sum 64 s
    ∙ ap (λ (n : ℕ). sum_to addition n (λ j. indicator (member j s))) (sym whole)
    ∙ sum_trim k (64 - k) (λ j. indicator (member j s)) (λ j m. ap indicator (no_member-from k j s h m))

pub size-le : (k s : ℕ) → k ≤ 64 → s < 2 ^ k → size s ≤ k
size-le k s l h = rw (size-sum k s l h) (indicators_le k (λ j. member j s))

-- the empty set has size 0
pub size_empty : size 0 ≡ 0
unfolding size members_below
size_empty = refl

-- the definition of `within`, as an order
pub within-lt : (k s : ℕ) → within k s ≡ true → s < 2 ^ k
unfolding within
within-lt k s w = ltb-true s (2 ^ k) w

pub within-member : (k j s : ℕ) → within k s ≡ true → member j s ≡ true → j < k
within-member k j s w e = member_below k j s (within-lt k s w) e

pub within-without : (k j s : ℕ) → within k s ≡ true → within k (without j s) ≡ true
unfolding within
within-without k j s w = lt-ltb (without j s) (2 ^ k) (omega (arith, without-le j s, within-lt k s w))

-- a set of n bits is of stations below n, and so below k
pub within_width : (n k s : ℕ) → s < 2 ^ n → n ≤ k → within k s ≡ true
unfolding within
within_width n k s h l = lt-ltb s (2 ^ k) (lt_of_lt_of_le h (pow_mono l))

-- every station is below k just where a shift by k leaves nothing
pub within_shift : (k s : ℕ) → eqb (s / 2 ^ k) 0 ≡ within k s
unfolding within
within_shift k s =
    by_bool (ltb s (2 ^ k))
    (λ t. eq-eqb (s / 2 ^ k) 0 (div-eq_of_lt (ltb-true s (2 ^ k) t)) ∙ sym t)
    (λ f.
    let some : 1 ≤ s / 2 ^ k = (le-div_iff_mul-le (pow_pos k)).1 (omega (arith, ltb-false s (2 ^ k) f)) in
    ne_eqb (s / 2 ^ k) 0 (λ z. omega arith) ∙ sym f)

-- a set is of stations below k where each of its members is
pub within_members : (n k s : ℕ) → s < 2 ^ n → ((j : ℕ) → member j s ≡ true → j < k) → within k s ≡ true
within_members n k s h below =
    let none : (j : ℕ) → j < n → member j (s / 2 ^ k) ≡ false =
    λ j l. member_shift k j s ∙ by_bool (member (k + j) s) (λ e. absurd (omega (arith, below (k + j) e))) (λ e. e) in
    sym (within_shift k s) ∙ eq-eqb (s / 2 ^ k) 0 (empty_of_members n (s / 2 ^ k) (omega (arith, shr_le s k)) none)
