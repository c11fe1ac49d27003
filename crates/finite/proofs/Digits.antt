-- Bytes and numbers, over the number of bytes: the number in the bytes of x is x, the bytes of a number that was read are those
-- read, and a number is the same in a longer list. Assumes nothing.
use mathlib.Core.Path.{◌≡◌, refl, sym, ap, ap₂, ◌∙◌}
use mathlib.Core.List.{List, [], ◌∷◌, ◌++◌}
use Prim.Native.Nat.{ℕ, zero, suc, ◌+◌, ◌*◌, ◌/◌, ◌%◌, ◌^◌, ◌≤◌, ◌<◌}
use native.Mathlib.Nat.{mod-one, mul-suc}
use native.Mathlib.Numerals.{add-one}
use native.Mathlib.Omega.{arith}
use lib.Arith.{mod-mul, digits_div, digits_mod}
use lib.Dec.{lit<}
use lib.ListN.{length, get_or, take, drop, get_or-append}
use lib.Pow.{pow_pos, pow-add}
use lib.Seq.{drop-cons, take-add, drop-drop, get_or-append-add}
use Rattle.finite.specs.Numbers.{number, bytes}

pub length-bytes : (n x : ℕ) → length (bytes n x) ≡ n
unfolding bytes
length-bytes zero x = refl
length-bytes (suc n) x = ap suc (length-bytes n (x / 2 ^ 8))

-- one byte more
pub power_more : (n : ℕ) → 2 ^ (8 * suc n) ≡ 2 ^ (8 * n) * 2 ^ 8
power_more n = ap (λ (k : ℕ). 2 ^ k) (mul-suc 8 n) ∙ pow-add 2 (8 * n) 8

-- a number in the front of a list, and past its front
module _ (p q : List ℕ) where
  pub front_number : (n at : ℕ) → at + n ≤ length p → number (p ++ q) at n ≡ number p at n
  unfolding number
  front_number zero at h = refl
  front_number (suc n) at h = rw (get_or-append p q 0 at (omega arith), front_number n (at + 1) (omega arith))

  pub past-number : (n at k : ℕ) → k ≡ length p + at → number (p ++ q) k n ≡ number q at n
  unfolding number
  past-number zero at k e = refl
  past-number (suc n) at k e =
      ap₂ (λ (x y : ℕ). x + 2 ^ 8 * y)
      (ap (λ (i : ℕ). get_or (p ++ q) i 0) e ∙ get_or-append-add p q at 0)
      (past-number n (at + 1) (k + 1) (omega arith))

-- a number, its bytes, and the number again
pub number_of-bytes : (n x : ℕ) → number (bytes n x) 0 n ≡ x % 2 ^ (8 * n)
unfolding number bytes
number_of-bytes zero x = sym (mod-one x)
number_of-bytes (suc n) x =
    let rest : number (x % 2 ^ 8 ∷ bytes n (x / 2 ^ 8)) 1 n ≡ x / 2 ^ 8 % 2 ^ (8 * n) =
    past-number (x % 2 ^ 8 ∷ []) (bytes n (x / 2 ^ 8)) n 0 1 refl ∙ number_of-bytes n (x / 2 ^ 8) in
    let parts : x % (2 ^ (8 * n) * 2 ^ 8) ≡ (x / 2 ^ 8 % 2 ^ (8 * n)) * 2 ^ 8 + x % 2 ^ 8 =
    mod-mul x {m = 2 ^ (8 * n)} {c = 2 ^ 8} (pow_pos (8 * n)) (lit< tt) in
    omega (arith, ap (λ (k : ℕ). x % k) (power_more n))

-- n elements from `at`
abbrev pub segment : List ℕ → ℕ → ℕ → List ℕ
segment s at n = take n (drop at s)

pub segment-join : (s : List ℕ) (at n m : ℕ) → segment s at n ++ segment s (at + n) m ≡ segment s at (n + m)
segment-join s at n m = sym (take-add n m (drop at s) ∙ ap (λ (r : List ℕ). take n (drop at s) ++ take m r) (drop-drop n at s))

-- bytes, the number in them, and the bytes again
module _ (s : List ℕ) (byte : (i : ℕ) → get_or s i 0 < 2 ^ 8) where
  pub number_small : (n at : ℕ) → number s at n < 2 ^ (8 * n)
  unfolding number
  number_small zero at = lit< tt
  number_small (suc n) at = omega (arith, byte at, number_small n (at + 1), power_more n)

  pub bytes_again : (n at : ℕ) → at + n ≤ length s → bytes n (number s at n) ≡ segment s at n
  unfolding bytes number
  bytes_again zero at h = refl
  bytes_again (suc n) at h =
      let b = get_or s at 0 in
      let q = number s (at + 1) n in
      let swap : b + 2 ^ 8 * q ≡ q * 2 ^ 8 + b = omega arith in
      let low : (b + 2 ^ 8 * q) % 2 ^ 8 ≡ b = ap (λ (x : ℕ). x % 2 ^ 8) swap ∙ digits_mod q (byte at) in
      let high : (b + 2 ^ 8 * q) / 2 ^ 8 ≡ q = ap (λ (x : ℕ). x / 2 ^ 8) swap ∙ digits_div q (byte at) in
      ap₂ (λ (x y : ℕ). x ∷ bytes n y) low high
      ∙ ap (λ (l : List ℕ). b ∷ l) (bytes_again n (at + 1) (omega arith) ∙ rw add-one)
      ∙ ap (take (suc n)) (sym (drop-cons s at 0 (omega arith)))
