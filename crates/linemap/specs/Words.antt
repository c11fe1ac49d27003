-- Sums of words (document 01: "All 3 × k + 4 words of 32 bits, added with wrap at 2^32, give zero").
use Rattle.std.specs.Prelude.{ℕ, zero, suc, ◌+◌, ◌*◌, ◌%◌, ◌^◌, List}
use Rattle.finite.specs.Numbers.{number}

-- "words of 32 bits, added with wrap at 2^32": the n words from `at`
unfoldable pub sum_words : List ℕ → ℕ → ℕ → ℕ
sum_words s at zero = 0
sum_words s at (suc n) = (sum_words s at n + number s (at + 4 * n) 4) % 2 ^ 32
