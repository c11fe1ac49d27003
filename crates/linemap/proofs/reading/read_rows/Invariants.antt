-- `linemap::reading::read_rows` meets its contract. Invariant: the places of the first i stations are read, and the others are zero; once a
-- row is read all rows stand within the bytes, since the first of them starts farthest back. Assumes nothing.
use Rattle.std.proofs.Common.{◌≡◌, ℕ, ◌+◌, ◌-◌, ◌*◌, ◌≤◌, ◌⊎◌, List, length}
use Rattle.finite.specs.Numbers.{number}
use Rattle.linemap.specs.Stored.{row_length, stored_length}
use Rattle.linemap.specs.Reading.{column, grid, count_in}
use Rattle.linemap.proofs.reading.read_rows.Given as goal

-- where the first row starts, and the numbers of row i
abbrev pub start_of : List ℕ → ℕ → ℕ → ℕ
start_of s c k = length s - stored_length c k

abbrev pub counts_of : List ℕ → ℕ → ℕ → ℕ → ℕ → ℕ
counts_of s c k i = count_in s (start_of s c k + row_length c * i)

abbrev pub set_of : List ℕ → ℕ → ℕ → ℕ → ℕ
set_of s c k i = number s (start_of s c k + row_length c * i + 4 * c) 8

abbrev pub invariant-loop-i : goal.invariant-loop-i
invariant-loop-i l = ((l.i ≡ 0) ⊎ (stored_length l.classes l.k ≤ length l.s))
    × (l.counts ≡ grid (counts_of l.s l.classes l.k) l.classes l.i)
    × (l.neighbours ≡ column 64 (set_of l.s l.classes l.k) l.i)
