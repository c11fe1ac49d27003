-- The sets as a matrix of bits, row i the set of station i, and its transpose.
use Rattle.std.specs.Prelude.{◌≡◌, List, ℕ, ◌+◌, ◌*◌, ◌/◌, ◌%◌, ◌^◌, ◌<◌, length, get_or}
use Rattle.std.specs.Int.Bits.{bit_and, bit_or}
use Rattle.bitset.specs.Set.{member}

-- the columns in `firsts` of two rows: those of a in place, those of b moved up by the width w
abbrev pub interleaved : ℕ → ℕ → ℕ → ℕ → ℕ
interleaved a b w firsts = bit_or (bit_and a firsts) (bit_and b firsts * 2 ^ w % 2 ^ 64)

-- row r after a pass: of rows r / 2 and r / 2 + 32 it takes the columns in `firsts` where r is even, and those w further on where odd
abbrev pub exchanged_row : ℕ → ℕ → List ℕ → ℕ → ℕ
exchanged_row w firsts rows r =
    interleaved (get_or rows (r / 2) 0 / 2 ^ (w * (r % 2))) (get_or rows (r / 2 + 32) 0 / 2 ^ (w * (r % 2))) w firsts

-- what a pass over all rows leaves
pub record Exchanged (w firsts : ℕ) (rows out : List ℕ) : Type 0 where
  pub whole : length out ≡ 64
  pub row : (r : ℕ) → r < 64 → get_or out r 0 ≡ exchanged_row w firsts rows r

-- station j is among the namers of i where i is in j's set
abbrev pub Transposed : List ℕ → List ℕ → Type 0
Transposed sets namers = (i j : ℕ) → i < 64 → j < 64 → member j (get_or namers i 0) ≡ member i (get_or sets j 0)
