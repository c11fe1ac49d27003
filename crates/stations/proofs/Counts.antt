-- The counts of the classes in use, before zeros: c numbers of a list, of eight places. Assumes nothing.
use mathlib.Core.Path.{◌≡◌, sym, ◌∙◌}
use mathlib.Core.Bool.{cond}
use mathlib.Core.List.{List, ◌++◌}
use Prim.Native.Nat.{ℕ, ◌+◌, ◌-◌, ◌<◌, ◌≤◌}
use native.Mathlib.Omega.{arith}
use lib.Dec.{ltb}
use lib.ListN.{length, get_or, take, drop, replicate, length-append, length-take, length-drop, get_or-append, get_or-replicate}
use lib.Seq.{ext_get_or}
use borrow.Author.Tests.{ltb-true, ltb-false}
use Rattle.std.proofs.lemmas.List.{get_or-take, get_or-drop, get_or-append_right}
use Rattle.finite.specs.Below.{tabulate}
use Rattle.finite.proofs.Cases.{by_bool}
use Rattle.finite.proofs.Below.{length-tabulate, get_d_tabulate}

abbrev pub zeros : List ℕ
zeros = replicate 8 0

module _ (l : List ℕ) (at c : ℕ) (room : at + c ≤ length l) (few : c ≤ 8) where
  abbrev pub front : List ℕ
  front = take c (drop at l)

  length-front : length front ≡ c
  length-front = omega (arith, length-take c (drop at l), length-drop at l)

  length-padded : length (front ++ drop c zeros) ≡ 8
  length-padded = omega (arith, length-front, length-append front (drop c zeros), length-drop c zeros)

  number_in : (j : ℕ) → j < c → get_or (front ++ drop c zeros) j 0 ≡ get_or l (at + j) 0
  number_in j h =
      let low : j < length front = omega (arith, length-front) in
      get_or-append front (drop c zeros) 0 j low ∙ get_or-take c (drop at l) j 0 h ∙ get_or-drop at l j 0

  zero_in : (j : ℕ) → c ≤ j → j < 8 → get_or (front ++ drop c zeros) j 0 ≡ 0
  zero_in j past low =
      get_or-append_right front (drop c zeros) c j 0 length-front past
      ∙ get_or-drop c zeros (j - c) 0
      ∙ get_or-replicate 8 (c + (j - c)) 0 0 (omega arith)

  pub before_zeros : front ++ drop c zeros ≡ tabulate 8 (λ j. cond (ltb j c) (get_or l (at + j) 0) 0)
  before_zeros =
      let f : ℕ → ℕ = λ j. cond (ltb j c) (get_or l (at + j) 0) 0 in
      ext_get_or 0 (front ++ drop c zeros) (tabulate 8 f) (length-padded ∙ sym (length-tabulate f 8))
      (λ j h.
      let low : j < 8 = omega (arith, length-padded) in
      by_bool (ltb j c)
      (λ t. number_in j (ltb-true j c t) ∙ sym (get_d_tabulate f 8 j 0 low ∙ rw t))
      (λ t. zero_in j (ltb-false j c t) low ∙ sym (get_d_tabulate f 8 j 0 low ∙ rw t)))
