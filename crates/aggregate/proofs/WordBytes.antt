-- The language's number of eight bytes, lowest first, and its eight bytes of a word are the definitions'. Assumes nothing.
use mathlib.Core.Path.{◌≡◌, refl, ap₂}
use mathlib.Core.List.{List, ◌∷◌}
use Prim.Native.Nat.{ℕ}
use native.Mathlib.Omega.{arith}
use Rattle.std.specs.Int.{w64, to_le_bytes, from_le_bytes}
use Rattle.finite.specs.Numbers.{number, bytes}

pub word_of-bytes : (l : List ℕ) → from_le_bytes w64 l ≡ number l 0 8
unfolding number
word_of-bytes l = omega arith

pub bytes_of-word : (x : ℕ) → bytes 8 x ≡ to_le_bytes w64 x
unfolding bytes
bytes_of-word x =
    ap₂ ◌∷◌ refl (ap₂ ◌∷◌ refl (ap₂ ◌∷◌ (omega arith) (ap₂ ◌∷◌ (omega arith)
    (ap₂ ◌∷◌ (omega arith) (ap₂ ◌∷◌ (omega arith) (ap₂ ◌∷◌ (omega arith) (ap₂ ◌∷◌ (omega arith) refl)))))))
