-- An aggregate in words: a sum for each class, and the missing numbers, a byte each. What is given comes back from its words where its
-- missing numbers are bytes, as those of what is bounded are, and those of a join. Assumes nothing.
use mathlib.Core.Path.{◌≡◌, ap, ◌∙◌}
use mathlib.Core.Bool.{true, cond}
use mathlib.Core.List.{List}
use Prim.Native.Nat.{ℕ, ◌+◌, ◌^◌, ◌<◌}
use native.Mathlib.Nat.{le_of_eq}
use native.Mathlib.Omega.{arith}
use lib.Dec.{ltb}
use lib.ListN.{length, get_or, get_or-eq_default}
use lib.Seq.{take_all}
use borrow.Author.Tests.{ltb-true, ltb-false, lt-ltb}
use Rattle.finite.proofs.Cases.{by_bool}
use Rattle.finite.proofs.Below.{length-tabulate}
use Rattle.finite.proofs.Digits.{bytes_again}
use Rattle.aggregate.specs.declared.Config.{Config}
use Rattle.aggregate.specs.declared.Cell.{Cell}
use Rattle.aggregate.specs.declared.Aggregate.{Aggregate}
use Rattle.aggregate.specs.Aggregate.{used, cell, places, zero_cell, bounded, cell_joined, joined, clipped, missing_word, from_words}
use Rattle.aggregate.proofs.Laws.{cell_parts, cell-places, places_ext, bounded_at}

module _ (t : Config) where
  -- only the sums of the classes in use are looked at
  pub words_ext : (f g : ℕ → ℕ) (word : ℕ) → ((i : ℕ) → i < used t → f i ≡ g i) → from_words t f word ≡ from_words t g word
  unfolding from_words
  words_ext f g word h = places_ext _ _ (λ i l. by_bool (ltb i (used t)) (λ e. rw (e, h i (ltb-true i (used t) e))) (λ e. rw e))

  -- what is given is given as it is
  clipped_again : (a : Aggregate) → clipped t (clipped t a) ≡ clipped t a
  unfolding clipped
  clipped_again a =
      places_ext _ _ (λ i l.
      ap (λ (x : Cell). cond (ltb i (used t)) x zero_cell) (cell-places (λ j. cond (ltb j (used t)) (cell a j) zero_cell) i l)
      ∙ by_bool (ltb i (used t)) (λ e. rw e) (λ e. rw e))

  -- the words of eight bytes
  words_clipped : (v : Aggregate) → length v.missing ≡ 8 → ((i : ℕ) → get_or v.missing i 0 < 2 ^ 8)
      → from_words t (λ i. (cell v i).sum) (missing_word v) ≡ clipped t v
  unfolding from_words missing_word clipped
  words_clipped v long byte =
      ap (λ (m : List ℕ). places (λ i. cond (ltb i (used t)) (record { sum = get_or v.sums i 0; missing = get_or m i 0 }) zero_cell))
      (bytes_again v.missing byte 8 0 (omega arith) ∙ take_all 8 v.missing (le_of_eq long))

  -- the missing numbers of what is given
  missing_long : (a : Aggregate) → length (clipped t a).missing ≡ 8
  unfolding clipped
  missing_long a = length-tabulate (λ i. (cond (ltb i (used t)) (cell a i) zero_cell).missing) 8

  -- those of the classes in use are bytes
  abbrev pub FitsWord : Aggregate → Type 0
  FitsWord a = (i : ℕ) → i < used t → (cell a i).missing < 2 ^ 8

  missing-bytes : (a : Aggregate) → FitsWord a → (i : ℕ) → get_or (clipped t a).missing i 0 < 2 ^ 8
  unfolding clipped
  missing-bytes a fits i =
      let f : ℕ → Cell = λ j. cond (ltb j (used t)) (cell a j) zero_cell in
      by_bool (ltb i 8)
      (λ e.
      let here = ap (λ (x : Cell). x.missing) (cell-places f i (ltb-true i 8 e)) in
      by_bool (ltb i (used t))
      (λ u.
      let same : (cell (places f) i).missing ≡ (cell a i).missing = here ∙ rw u in
      omega (arith, fits i (ltb-true i (used t) u)))
      (λ u. let none : (cell (places f) i).missing ≡ 0 = here ∙ rw u in omega arith))
      (λ e.
      let none : get_or (places f).missing i 0 ≡ 0 = get_or-eq_default (places f).missing 0 (omega (arith, missing_long a, ltb-false i 8 e)) in
      omega arith)

  -- what is given, from its words
  pub words_again : (a : Aggregate) → FitsWord a → from_words t (λ i. (cell (clipped t a) i).sum) (missing_word (clipped t a)) ≡ clipped t a
  words_again a fits = words_clipped (clipped t a) (missing_long a) (missing-bytes a fits) ∙ clipped_again a

  -- what is bounded, and two of these joined
  pub bounded_fits : (a : Aggregate) → bounded t a ≡ true → FitsWord a
  bounded_fits a h i l = omega (arith, (cell_parts t.way (cell a i) (bounded_at t a h i l)).1)

  pub joined_fits : (a b : Aggregate) → bounded t a ≡ true → bounded t b ≡ true → FitsWord (joined t a b)
  unfolding joined cell_joined
  joined_fits a b h g i l =
      let here : (cell (joined t a b) i).missing ≡ (cell a i).missing + (cell b i).missing =
      ap (λ (x : Cell). x.missing) (cell-places (λ j. cond (ltb j (used t)) (cell_joined t.way (cell a j) (cell b j)) (cell a j)) i (omega arith))
      ∙ rw (lt-ltb i (used t) l) in
      omega (arith, (cell_parts t.way (cell a i) (bounded_at t a h i l)).1, (cell_parts t.way (cell b i) (bounded_at t b g i l)).1)
