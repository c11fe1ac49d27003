-- Numbers in bytes (document 01: "stored numbers are unsigned, little-endian").
use Rattle.std.specs.Prelude.{List, [], ◌∷◌, ℕ, suc, zero, ◌+◌, ◌*◌, ◌%◌, ◌/◌, ◌^◌, get_or}

-- the number in n bytes from `at`, lowest byte first
unfoldable pub number : List ℕ → ℕ → ℕ → ℕ
number s at zero = 0
number s at (suc n) = get_or s at 0 + 2 ^ 8 * number s (at + 1) n

-- the lowest n bytes of a number, lowest first
unfoldable pub bytes : ℕ → ℕ → List ℕ
bytes zero x = []
bytes (suc n) x = x % 2 ^ 8 ∷ bytes n (x / 2 ^ 8)
