-- The set of the stations that pass a test: its members are those stations, and a loop builds it without a carry, a bit at a time.
-- The members of two sets' bits in common, and of a remainder. Assumes nothing.
use mathlib.Core.Path.{◌≡◌, refl, sym, ap, ap₂, ◌∙◌}
use mathlib.Core.Bool.{Bool, true, false, ◌&&◌, cond}
use Prim.Native.Nat.{ℕ, zero, suc, min, ◌+◌, ◌-◌, ◌*◌, ◌/◌, ◌%◌, ◌^◌, ◌<◌, ◌≤◌}
use native.Mathlib.Nat.{min-le_left, not-suc-le-zero, pow-suc, add-mul, zero-add, add-zero, div-eq_of_lt, mod-lt}
use native.Mathlib.Numerals.{add-one}
use native.Mathlib.Omega.{arith}
use lib.Dec.{eqb, ltb}
use lib.Pow.{pow_pos, pow-lt, pow_mono, split, high, pow-add, field, mod-mod-pow}
use lib.Bits.{bit_and, and_step, and_shr}
use borrow.Author.Tests.{lt-ltb, ltb-true, ltb-false, ne_eqb}
use Rattle.finite.proofs.Cases.{by_bool, by_eq, eqb_self}
use Rattle.bitset.specs.Set.{member, bit_if}
use Rattle.bitset.specs.Internal.Selected.{set_of}
use Rattle.bitset.proofs.Laws.{no_member-from, member_empty, member_shift}

cond-le : (b : Bool) (x : ℕ) → cond b x 0 ≤ x
cond-le true x = omega arith
cond-le false x = omega arith

pub set-lt : (n : ℕ) (p : ℕ → Bool) → set_of n p < 2 ^ n
unfolding set_of
set-lt zero p = omega arith
set-lt (suc n) p = omega (arith, set-lt n p, cond-le (p n) (2 ^ n), pow-suc 2 n)

set_more : (p : ℕ → Bool) (n : ℕ) → n < 64 → set_of n p + bit_if (p n) n ≡ set_of (n + 1) p
unfolding set_of bit_if
set_more p n h = rw (add-one, lt-ltb n 64 h)

-- one station more, as a loop adds it: what it is worth, if it passes, and no carry
pub set_next : (p : ℕ → Bool) (n : ℕ) {s x : ℕ} → n < 64 → s ≡ set_of n p → x ≡ bit_if (p n) n → (s + x ≡ set_of (n + 1) p) × (s + x < 2 ^ 64)
set_next p n h e f =
    let next = ap₂ ◌+◌ e f ∙ set_more p n h in
    (next, omega (arith, next, set-lt (n + 1) p, pow_mono {i = n + 1} {j = 64} (omega arith)))

pub set-none : (n : ℕ) (p : ℕ → Bool) → ((i : ℕ) → p i ≡ false) → set_of n p ≡ 0
unfolding set_of
set-none zero p h = refl
set-none (suc n) p h = rw (set-none n p h, h n)

pub set_ext : (k : ℕ) (p q : ℕ → Bool) → ((i : ℕ) → i < k → p i ≡ q i) → set_of k p ≡ set_of k q
unfolding set_of
set_ext zero p q h = refl
set_ext (suc k) p q h = rw (set_ext k p q (λ i l. h i (omega arith)), h k (omega arith))

-- a bit above bit i leaves bit i
bit_below : (s n i : ℕ) → i < n → (s + 2 ^ n) / 2 ^ i % 2 ≡ s / 2 ^ i % 2
bit_below s n i l =
    let d = n - suc i in
    let n-is : suc d + i ≡ n = omega arith in
    let parts : s + 2 ^ n ≡ (s / 2 ^ i + 2 ^ suc d) * 2 ^ i + s % 2 ^ i =
    omega (arith, split s i, pow-add 2 (suc d) i, ap (λ (m : ℕ). 2 ^ m) n-is, add-mul (s / 2 ^ i) (2 ^ suc d) (2 ^ i)) in
    ap (λ (x : ℕ). x / 2 ^ i % 2) parts ∙ ap (λ (x : ℕ). x % 2) (high (s / 2 ^ i + 2 ^ suc d) i (mod-lt s (pow_pos i)))
    ∙ omega (arith, pow-suc 2 d)

member-old : (s n i : ℕ) (b : Bool) → i < n → member i (s + cond b (2 ^ n) 0) ≡ member i s
unfolding member
member-old s n i true l = rw (bit_below s n i l)
member-old s n i false l = rw (add-zero s)

member-new : (s n : ℕ) (b : Bool) → s < 2 ^ n → member n (s + cond b (2 ^ n) 0) ≡ b
unfolding member
member-new s n true h = let e : s + 2 ^ n ≡ 1 * 2 ^ n + s = omega arith in rw (e, high 1 n h)
member-new s n false h = rw (add-zero s, div-eq_of_lt h)

pub set-member : (n : ℕ) (p : ℕ → Bool) (i : ℕ) → i < n → member i (set_of n p) ≡ p i
unfolding set_of
set-member zero p i l = absurd (not-suc-le-zero l)
set-member (suc n) p i l =
    by_eq i n
    (λ (e : i ≡ n). rw e (member-new (set_of n p) n (p n) (set-lt n p)))
    (λ e. member-old (set_of n p) n i (p n) (omega arith) ∙ set-member n p i (omega arith))

-- a station is a member just where it is below n and passes
pub set_has : (n : ℕ) (p : ℕ → Bool) (i : ℕ) → member i (set_of n p) ≡ (ltb i n && p i)
set_has n p i =
    by_bool (ltb i n)
    (λ t. rw t (set-member n p i (ltb-true i n t)))
    (λ f. rw f (no_member-from n i (set_of n p) (set-lt n p) (ltb-false i n f)))

-- the set of one station, or none
pub bit_has : (b : Bool) (j i : ℕ) → member i (bit_if b j) ≡ (ltb j 64 && b && eqb i j)
unfolding bit_if
bit_has b j i =
    by_bool (ltb j 64 && b)
    (λ t. rw t (by_eq i j
    (λ (e : i ≡ j). rw (e, eqb_self j) (rw zero-add at (member-new 0 j true (pow_pos j))))
    (λ n. rw (ne_eqb i j n)
    (by_bool (ltb i j)
    (λ l. (rw zero-add at (member-old 0 j i true (ltb-true i j l))) ∙ member_empty i)
    (λ g. no_member-from (suc j) i (2 ^ j) (omega (arith, pow-suc 2 j, pow_pos j)) (omega (arith, ltb-false i j g, n)))))))
    (λ f. rw f (member_empty i))

pub bit-lt : (b : Bool) (j : ℕ) → bit_if b j < 2 ^ 64
unfolding bit_if
bit-lt b j =
    by_bool (ltb j 64)
    (λ l. rw l (by_bool b (λ t. rw t (pow-lt (ltb-true j 64 l))) (λ f. rw f (omega arith))))
    (λ g. rw g (omega arith))

both_ones : (x y : ℕ) → x ≤ 1 → y ≤ 1 → eqb (min x y) 1 ≡ (eqb x 1 && eqb y 1)
both_ones x y h g =
    by_eq x 1
    (λ (a : x ≡ 1). by_eq y 1 (λ (b : y ≡ 1). rw (a, b)) (λ b. let b' : y ≡ 0 = omega arith in rw (a, b')))
    (λ a. let a' : x ≡ 0 = omega arith in
    by_eq y 1 (λ (b : y ≡ 1). rw (a', b)) (λ b. let b' : y ≡ 0 = omega arith in rw (a', b')))

and_odd : (a b : ℕ) → bit_and a b % 2 ≡ min (a % 2) (b % 2)
and_odd a b = omega (arith, and_step a b, min-le_left (a % 2) (b % 2))

pub member-and : (j r s : ℕ) → member j (bit_and r s) ≡ (member j r && member j s)
unfolding member
member-and j r s =
    rw and_shr
    (ap (λ (x : ℕ). eqb x 1) (and_odd (r / 2 ^ j) (s / 2 ^ j))
    ∙ both_ones (r / 2 ^ j % 2) (s / 2 ^ j % 2) (omega arith) (omega arith))

-- the members below i stay under a remainder by 2 ^ i
pub member-mod : (i j s : ℕ) → j < i → member j (s % 2 ^ i) ≡ member j s
unfolding member
member-mod i j s l =
    let d = i - suc j in
    let e : suc d + j ≡ i = omega arith in
    ap (λ (n : ℕ). eqb (s % 2 ^ n / 2 ^ j % 2) 1) (sym e)
    ∙ ap (λ (x : ℕ). eqb x 1) (ap (λ (x : ℕ). x % 2) (field s (suc d) j) ∙ (rw add-one at (mod-mod-pow (s / 2 ^ j) d 1)))

-- none of eight stations from r on is in a set whose byte there is 0
pub none_of_eight : (r s : ℕ) → s / 2 ^ r % 256 ≡ 0 → (i : ℕ) → i < 8 → member (r + i) s ≡ false
none_of_eight r s z i l = sym (member_shift r i s) ∙ sym (member-mod 8 i (s / 2 ^ r) l) ∙ ap (member i) z ∙ member_empty i
