-- A set bit by bit: the bits after a removal, and the count of members as that of ones. A set is its lowest bit and its half, which has
-- the other bits, so most goes by recursion on the bit. Assumes nothing.
use mathlib.Core.Path.{◌≡◌, refl, sym, ◌∙◌, ap}
use mathlib.Core.Bool.{true}
use Prim.Native.Nat.{ℕ, zero, suc, ◌+◌, ◌*◌, ◌/◌, ◌%◌, ◌^◌, ◌<◌, ◌≤◌}
use native.Mathlib.Nat.{pow-suc, le-div_iff_mul-le}
use native.Mathlib.Numerals.{one-add}
use native.Mathlib.Omega.{arith}
use lib.Count.{ones_in, ones, ones_step}
use lib.Pow.{pow_pos, shr-shr}
use borrow.Author.Tests.{eqb-true, eqb-false}
use Rattle.finite.proofs.Cases.{by_bool}
use Rattle.bitset.specs.Set.{bit, member, members_below, without}

-- bit 0 is the parity, and the other bits are those of the half
bit-suc : (j s : ℕ) → bit (suc j) s ≡ bit j (s / 2)
bit-suc j s = ap (λ (x : ℕ). x % 2) (sym (rw one-add at (shr-shr s 1 j)))

-- two sets below 2^n with the same bits are the same
pub same_bits : (n s t : ℕ) → s < 2 ^ n → t < 2 ^ n → ((j : ℕ) → j < n → bit j s ≡ bit j t) → s ≡ t
same_bits zero s t hs ht same = omega arith
same_bits (suc n) s t hs ht same =
    omega (
      arith,
      same 0 (omega arith),
      same_bits n (s / 2) (t / 2) (omega (arith, pow-suc 2 n)) (omega (arith, pow-suc 2 n))
          (λ j h. sym (bit-suc j s) ∙ same (suc j) (omega arith) ∙ bit-suc j t),
    )

-- a member's bit is worth no more than the set
pub member_worth : (j s : ℕ) → member j s ≡ true → 2 ^ j ≤ s
unfolding member
member_worth j s e =
    let some : 1 ≤ s / 2 ^ j = omega (arith, eqb-true (bit j s) 1 e) in
    let worth : 1 * 2 ^ j ≤ s = (le-div_iff_mul-le (pow_pos j)).0 some in
    omega arith

-- a removal by halves: the lowest bit is cleared, or it is kept and the removal is made in the half
without-zero : (s : ℕ) → without 0 s ≡ 2 * (s / 2)
unfolding without member
without-zero s =
    by_bool (member 0 s) (λ e. rw e (omega (
      arith,
      eqb-true (bit 0 s) 1 e,
    ))) (λ e. rw e (omega (arith, eqb-false (bit 0 s) 1 e)))

without-suc : (j s : ℕ) → without (suc j) s ≡ 2 * without j (s / 2) + s % 2
unfolding without member
without-suc j s =
    rw (bit-suc j s)
    (by_bool (member j (s / 2))
    (λ e. rw e (omega (arith, pow-suc 2 j, member_worth j (s / 2) e)))
    (λ e. rw e (omega arith)))

-- the bit of what is removed is 0, and every other bit stays
pub bit_gone : (j s : ℕ) → bit j (without j s) ≡ 0
bit_gone zero s = omega (arith, without-zero s)
bit_gone (suc j) s =
    let half : without (suc j) s / 2 ≡ without j (s / 2) = omega (arith, without-suc j s) in
    bit-suc j (without (suc j) s) ∙ ap (bit j) half ∙ bit_gone j (s / 2)

pub bit_kept : (i j s : ℕ) → (i ≡ j → ⊥) → bit i (without j s) ≡ bit i s
bit_kept zero zero s ne = absurd (ne refl)
bit_kept zero (suc j) s ne = omega (arith, without-suc j s)
bit_kept (suc i) zero s ne =
    let half : without 0 s / 2 ≡ s / 2 = omega (arith, without-zero s) in
    bit-suc i (without 0 s) ∙ ap (bit i) half ∙ sym (bit-suc i s)
bit_kept (suc i) (suc j) s ne =
    let half : without (suc j) s / 2 ≡ without j (s / 2) = omega (arith, without-suc j s) in
    bit-suc i (without (suc j) s) ∙ ap (bit i) half ∙ bit_kept i j (s / 2) (λ e. ne (ap suc e)) ∙ sym (bit-suc i s)

-- the members below n + 1: station 0, and those of the half
count_half : (n s : ℕ) → members_below (suc n) s ≡ s % 2 + members_below n (s / 2)
unfolding members_below
count_half zero s = omega arith
count_half (suc n) s = omega (arith, count_half n s, bit-suc n s)

-- the members of a set below 2^n are the ones of its word, which the language counts by halves
pub ones_count : (n s : ℕ) → s < 2 ^ n → ones s ≡ members_below n s
unfolding members_below ones ones_in
ones_count zero s h = ap ones (let z : s ≡ 0 = omega arith in z)
ones_count (suc n) s h = omega (arith, ones_step s, ones_count n (s / 2) (omega (arith, pow-suc 2 n)), count_half n s)
