-- The laws of `Lays`, bytes put where there is room for them: one after another, none, and one piece more; the same of a Writer; and of what
-- holds of all numbers below a bound. Assumes nothing.
use mathlib.Core.Path.{◌≡◌, refl, ◌∙◌}
use mathlib.Core.List.{List, ◌++◌}
use Prim.Native.Nat.{ℕ, ◌+◌}
use native.Mathlib.Numerals.{add-one}
use native.Mathlib.Omega.{arith}
use Rattle.finite.specs.Below.{each}
use Rattle.finite.proofs.Cases.{by_eq}
use Rattle.finite.proofs.Stores.{put_then, room_first, room_next}
use Rattle.sheet.specs.declared.Writer.{Writer}
use Rattle.sheet.specs.Internal.Laying.{Lays, Puts, AllBelow}

pub lays_then : {l vs l₁ ws l₂ : List ℕ} {at r₁ r₂ : ℕ} → Lays l at vs l₁ r₁ → Lays l₁ r₁ ws l₂ r₂ → Lays l at (vs ++ ws) l₂ r₂
lays_then {l} {vs} {l₁} {ws} a b = record { put = λ room. let p = a.put (room_first ws room) in put_then p (b.put (room_next room p)) }

-- no piece, and one more after those before it
module _ {l : List ℕ} {at : ℕ} (f : ℕ → List ℕ) where
  pub lays_none : Lays l at (each f 0) l at
  unfolding each
  lays_none = record { put = λ room. record { bytes = refl; end = omega arith } }

  pub lays_more : {l₁ l₂ : List ℕ} {i r₁ r₂ : ℕ} → Lays l at (each f i) l₁ r₁ → Lays l₁ r₁ (f i) l₂ r₂ → Lays l at (each f (i + 1)) l₂ r₂
  unfolding each
  lays_more {l₁} {l₂} {i} a b = rw (add-one i) (lays_then a b)

-- of a Writer, whose buffer stays the same
pub puts_then : {w w₁ w₂ : Writer} {vs ws : List ℕ} → Puts w vs w₁ → Puts w₁ ws w₂ → Puts w (vs ++ ws) w₂
puts_then a b = record { same = b.same ∙ a.same; lays = lays_then a.lays b.lays }

module _ {w : Writer} (f : ℕ → List ℕ) where
  pub puts_none : Puts w (each f 0) w
  puts_none = record { same = refl; lays = lays_none f }

  pub puts_more : {w₁ w₂ : Writer} {i : ℕ} → Puts w (each f i) w₁ → Puts w₁ (f i) w₂ → Puts w (each f (i + 1)) w₂
  puts_more a b = record { same = b.same ∙ a.same; lays = lays_more f a.lays b.lays }

-- below none, and below one more
pub below_none : {P : ℕ → Type 0} → AllBelow 0 P
below_none = record { at = λ i l. absurd (omega (arith, l)) }

pub below_more : {P : ℕ → Type 0} {n : ℕ} → AllBelow n P → P n → AllBelow (n + 1) P
below_more {P} {n} before last = record { at = λ i l. by_eq i n (λ (e : i ≡ n). rw e last) (λ other. before.at i (omega (arith, l, other))) }
