-- The members of a union, of a difference, and of a set in which one station is put: digit by digit. Assumes nothing.
use mathlib.Core.Path.{◌≡◌, refl, sym, ap, ap₂, ◌∙◌}
use mathlib.Core.Bool.{Bool, true, false, not, ◌&&◌, ◌||◌, cond, and-true, and-false}
use Prim.Native.Nat.{ℕ, zero, suc, min, max, ◌+◌, ◌-◌, ◌*◌, ◌/◌, ◌%◌, ◌^◌, ◌<◌, ◌≤◌}
use native.Mathlib.Nat.{lt_of_le_of_lt, min-le_left}
use native.Mathlib.Omega.{arith}
use lib.Dec.{eqb, ltb}
use lib.Pow.{pow_mono, shr-shr}
use lib.Bits.{bit_or, and_step, and_le_l, or_step, or_shr, or_lt}
use borrow.Author.Tests.{lt-ltb, ne_eqb}
use Rattle.finite.proofs.Cases.{by_eq, eqb_self}
use Rattle.bitset.specs.Set.{member, without, bit_if, union, minus, put}
use Rattle.bitset.specs.Internal.Selected.{set_of}
use Rattle.bitset.proofs.Laws.{member-without, without-le, same_members}
use Rattle.bitset.proofs.Selected.{set-lt, set_has, bit_has, bit-lt}

-- ---- unions
or_digit : (z x y : ℕ) → x ≤ 1 → y ≤ 1 → eqb ((z * 2 + max x y) % 2) 1 ≡ (eqb x 1 || eqb y 1)
or_digit z x y h g =
    let odd : (z * 2 + 1) % 2 ≡ 1 = omega arith in
    let even : (z * 2 + 0) % 2 ≡ 0 = omega arith in
    by_eq x 1
    (λ (a : x ≡ 1). by_eq y 1 (λ (b : y ≡ 1). rw (a, b, odd)) (λ b. let b' : y ≡ 0 = omega arith in rw (a, b', odd)))
    (λ a. let a' : x ≡ 0 = omega arith in
    by_eq y 1 (λ (b : y ≡ 1). rw (a', b, odd)) (λ b. let b' : y ≡ 0 = omega arith in rw (a', b', even)))

pub member_union : (j a b : ℕ) → member j (union a b) ≡ (member j a || member j b)
unfolding member union
member_union j a b =
    rw or_shr
    (ap (λ (x : ℕ). eqb (x % 2) 1) (or_step (a / 2 ^ j) (b / 2 ^ j))
    ∙ or_digit (bit_or (a / 2 ^ j / 2) (b / 2 ^ j / 2)) (a / 2 ^ j % 2) (b / 2 ^ j % 2) (omega arith) (omega arith))

pub union-lt : (k a b : ℕ) → a < 2 ^ k → b < 2 ^ k → union a b < 2 ^ k
unfolding union
union-lt k a b h g = or_lt k a b h g

-- ---- differences
minus-step : (a b : ℕ) → minus a b ≡ minus (a / 2) (b / 2) * 2 + (a % 2 - min (a % 2) (b % 2))
unfolding minus
minus-step a b = omega (arith, and_step a b, and_le_l (a / 2) (b / 2), and_le_l a b, min-le_left (a % 2) (b % 2))

digit-le : (x y : ℕ) → x ≤ 1 → x - min x y ≤ 1
digit-le x y h = omega arith

minus_half : (a b : ℕ) → minus a b / 2 ≡ minus (a / 2) (b / 2)
minus_half a b = omega (arith, minus-step a b, digit-le (a % 2) (b % 2) (omega arith))

minus-digit : (a b : ℕ) → minus a b % 2 ≡ a % 2 - min (a % 2) (b % 2)
minus-digit a b = omega (arith, minus-step a b, digit-le (a % 2) (b % 2) (omega arith))

half_shr : (n j : ℕ) → n / 2 ^ suc j ≡ n / 2 / 2 ^ j
half_shr n j = let e : suc j ≡ 1 + j = omega arith in ap (λ (m : ℕ). n / 2 ^ m) e ∙ sym (shr-shr n 1 j)

whole : (n : ℕ) → n / 1 ≡ n
whole n = omega arith

minus_shr : (j a b : ℕ) → minus a b / 2 ^ j ≡ minus (a / 2 ^ j) (b / 2 ^ j)
minus_shr zero a b = whole (minus a b) ∙ sym (ap₂ minus (whole a) (whole b))
minus_shr (suc j) a b =
    half_shr (minus a b) j
    ∙ ap (λ (n : ℕ). n / 2 ^ j) (minus_half a b)
    ∙ minus_shr j (a / 2) (b / 2)
    ∙ sym (ap₂ minus (half_shr a j) (half_shr b j))

one-digit : (x y : ℕ) → x ≤ 1 → y ≤ 1 → eqb (x - min x y) 1 ≡ (eqb x 1 && not (eqb y 1))
one-digit x y h g =
    by_eq x 1
    (λ (a : x ≡ 1). by_eq y 1 (λ (b : y ≡ 1). rw (a, b)) (λ b. let b' : y ≡ 0 = omega arith in rw (a, b')))
    (λ a. let a' : x ≡ 0 = omega arith in
    by_eq y 1 (λ (b : y ≡ 1). rw (a', b)) (λ b. let b' : y ≡ 0 = omega arith in rw (a', b')))

pub member-minus : (j a b : ℕ) → member j (minus a b) ≡ (member j a && not (member j b))
unfolding member
member-minus j a b =
    rw minus_shr
    (ap (λ (x : ℕ). eqb x 1) (minus-digit (a / 2 ^ j) (b / 2 ^ j))
    ∙ one-digit (a / 2 ^ j % 2) (b / 2 ^ j % 2) (omega arith) (omega arith))

-- ---- one station put
-- it stands in the set just where b says so, and every other as before
pub member-put : (j : ℕ) (b : Bool) (s i : ℕ) → j < 64 → member i (put j b s) ≡ cond (eqb i j) b (member i s)
unfolding put
member-put j b s i l =
    member_union i (without j s) (bit_if b j)
    ∙ ap₂ ◌||◌ (member-without i j s) (bit_has b j i)
    ∙ rw (lt-ltb j 64 l)
    (by_eq i j
    (λ (e : i ≡ j). rw (e, eqb_self j) (and-true b))
    (λ n. rw (ne_eqb i j n) (last (member i s) b)))
  where
    last : (m b : Bool) → (m || (b && false)) ≡ m
    last true b = refl
    last false b = and-false b

-- the stations that pass a test, where station j alone has come to pass another
pub put-set : (k j : ℕ) (b : Bool) (p q : ℕ → Bool) → k ≤ 64 → j < k → q j ≡ b → ((i : ℕ) → (i ≡ j → ⊥) → q i ≡ p i)
    → put j b (set_of k p) ≡ set_of k q
unfolding put
put-set k j b p q few low new old =
    let wide : (t : ℕ → Bool) → set_of k t < 2 ^ 64 = λ t. omega (arith, set-lt k t, pow_mono {i = k} {j = 64} few) in
    same_members 64 _ _ (union-lt 64 _ _ (lt_of_le_of_lt (without-le j _) (wide p)) (bit-lt b j)) (wide q)
    (λ i l.
    member-put j b (set_of k p) i (omega arith)
    ∙ by_eq i j
    (λ (e : i ≡ j). rw (e, eqb_self j) (sym (set_has k q j ∙ rw (lt-ltb j k low) new)))
    (λ n. rw (ne_eqb i j n) (set_has k p i ∙ ap (λ (t : Bool). ltb i k && t) (sym (old i n)) ∙ sym (set_has k q i))))
