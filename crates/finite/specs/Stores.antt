-- Bytes that are put into a lent buffer: what it is then.
use Rattle.std.specs.Prelude.{cond, List, ◌++◌, ℕ, ◌+◌, leb, length, take, drop}

-- the buffer after: these bytes at its start, and the rest as it was
abbrev pub over : List ℕ → List ℕ → List ℕ
over bytes buffer = bytes ++ drop (length bytes) buffer

-- the buffer after: these bytes from `at` on, and the rest as it was; where there is no room for them, all as it was
unfoldable pub laid : List ℕ → ℕ → List ℕ → List ℕ
laid l at vs = cond (leb (at + length vs) (length l)) (take at l ++ vs ++ drop (at + length vs) l) l

-- the place after them
unfoldable pub laid_end : List ℕ → ℕ → List ℕ → ℕ
laid_end l at vs = cond (leb (at + length vs) (length l)) (at + length vs) at
