-- The laws of a writer: nothing is put, a run after another, and one piece more. Assumes nothing.
use mathlib.Core.Path.{refl, ◌∙◌}
use mathlib.Core.List.{List, [], ◌++◌}
use Prim.Native.Nat.{ℕ, ◌+◌}
use native.Mathlib.Omega.{arith}
use Rattle.finite.specs.Below.{each}
use Rattle.finite.proofs.Stores.{put_then, put_piece}
use Rattle.text.specs.declared.Writer.{Writer}
use Rattle.text.specs.Internal.Writing.{Puts}

pub puts_none : (w : Writer) → Puts w [] w
puts_none w = record { same = refl; put = record { bytes = refl; end = omega arith } }

pub puts_then : {w w₁ w₂ : Writer} {vs ws : List ℕ} → Puts w vs w₁ → Puts w₁ ws w₂ → Puts w (vs ++ ws) w₂
puts_then a b = record { same = b.same ∙ a.same; put = put_then a.put b.put }

pub puts_piece : {w w₁ w₂ : Writer} (f : ℕ → List ℕ) {i : ℕ} → Puts w (each f i) w₁ → Puts w₁ (f i) w₂ → Puts w (each f (i + 1)) w₂
puts_piece f a b = record { same = b.same ∙ a.same; put = put_piece f a.put b.put }
