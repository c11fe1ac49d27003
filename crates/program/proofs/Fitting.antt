-- The numbers in an array of code fit the width of its elements, as owning the array tells. Assumes nothing.
use mathlib.Core.List.{List, [], ◌∷◌}
use Prim.Native.Nat.{ℕ, zero, suc, ◌^◌, ◌<◌}
use lib.ListN.{get_or}
use lib.Pow.{pow_pos}
use mir.Syntax.{Width}
use mir.Val.{Val, bits}
use denote.Shadow.{shadow}
use denote.Array.{each}
use denote.Plain.{UInt}

pub elements_fit : (w : Width) (xs : List ℕ) (us : List Val) → shadow (each ℕ (UInt w).own_val xs us) → (i : ℕ)
    → get_or xs i 0 < 2 ^ bits w
elements_fit w [] us t i = pow_pos (bits w)
elements_fit w (x ∷ xs) [] t i = absurd t
elements_fit w (x ∷ xs) (u ∷ us) t zero = t.0.1
elements_fit w (x ∷ xs) (u ∷ us) t (suc i) = elements_fit w xs us t.1 i
