-- Sums of words: the same in a longer list, and taken to zero by the check word and by no other. Assumes nothing.
use Rattle.std.proofs.Common.{◌≡◌, ℕ, zero, suc, ◌+◌, ◌-◌, ◌*◌, ◌%◌, ◌^◌, ◌<◌, ◌≤◌, List, ◌++◌, length, refl, mod-lt, arith, lit<}
use Rattle.finite.specs.Numbers.{number}
use Rattle.finite.proofs.Digits.{front_number, past-number}
use Rattle.linemap.specs.Words.{sum_words}
use Rattle.linemap.specs.Stored.{check_word}

-- in the front of a list, and past its front
module _ (p q : List ℕ) where
  pub front_sum : (n at : ℕ) → at + 4 * n ≤ length p → sum_words (p ++ q) at n ≡ sum_words p at n
  unfolding sum_words
  front_sum zero at h = refl
  front_sum (suc n) at h = rw (front_sum n at (omega arith), front_number p q 4 (at + 4 * n) (omega arith))

  pub past-sum : (n at k : ℕ) → k ≡ length p + at → sum_words (p ++ q) k n ≡ sum_words q at n
  unfolding sum_words
  past-sum zero at k e = refl
  past-sum (suc n) at k e = rw (past-sum n at k e, past-number p q 4 (at + 4 * n) (k + 4 * n) (omega arith))

-- the check word takes a sum to zero, and no other word does
pub sum_small : (s : List ℕ) (at n : ℕ) → sum_words s at n < 2 ^ 32
unfolding sum_words
sum_small s at zero = lit< tt
sum_small s at (suc n) = mod-lt (sum_words s at n + number s (at + 4 * n) 4) (lit< tt)

pub check_small : (sum : ℕ) → check_word sum < 2 ^ 32
unfolding check_word
check_small sum = mod-lt (2 ^ 32 - sum) (lit< tt)

pub check-zero : (sum : ℕ) → sum < 2 ^ 32 → (sum + check_word sum) % 2 ^ 32 ≡ 0
unfolding check_word
check-zero sum h = omega arith

pub check-only : (sum w : ℕ) → sum < 2 ^ 32 → w < 2 ^ 32 → (sum + w) % 2 ^ 32 ≡ 0 → w ≡ check_word sum
unfolding check_word
check-only sum w h hw zero-sum = omega arith
