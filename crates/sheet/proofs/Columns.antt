-- The columns always suffice: a number below 10 ^ w takes exactly w of them, and the last w of twenty are they. A lot below 2 ^ 48 has at most
-- 15 digits, a count 10, a station 2, a class 1, a total that is not refused 12 and a missing number 2. Assumes nothing.
use mathlib.Core.Path.{◌≡◌, ap, ◌∙◌}
use mathlib.Core.List.{List, ◌++◌}
use Prim.Native.Nat.{ℕ, ◌+◌, ◌-◌, ◌^◌, ◌≤◌, ◌<◌}
use Prim.Native.Char.{code}
use native.Mathlib.Omega.{arith}
use lib.ListN.{length, take, drop, replicate, length-append, length-replicate}
use lib.Seq.{drop-append-le, take_all}
use Rattle.std.proofs.lemmas.List.{drop-replicate}
use Rattle.finite.proofs.Cases.{by_bool}
use Rattle.aggregate.specs.Aggregate.{is_missing}
use Rattle.text.specs.Ascii.{ascii}
use Rattle.text.specs.Text.{digits, padded}
use Rattle.text.proofs.Digits.{digits_few}
use Rattle.sheet.specs.Layout.{column, spaced, count_column}
use Rattle.sheet.specs.Internal.Laying.{Narrow}

length-padded : (w : ℕ) (text : List ℕ) → length text ≤ w → length (padded w text) ≡ w
unfolding padded
length-padded w text h =
    length-append (replicate (w - length text) (code " ")) text
    ∙ ap (λ (n : ℕ). n + length text) (length-replicate (w - length text) (code " "))
    ∙ omega arith

module _ (w n : ℕ) (h : Narrow w n) where
  few_digits : length (digits 20 n) ≤ w
  few_digits = digits_few 20 w n h.some h.below

  pub length-column : length (column w n) ≡ w
  unfolding column
  length-column = length-padded w (digits 20 n) few_digits

  pub length-spaced : length (spaced w n) ≡ w + 1
  unfolding spaced
  length-spaced = length-append (column w n) (ascii " ") ∙ ap (λ (x : ℕ). x + 1) length-column

  cut_columns : drop (20 - w) (padded 20 (digits 20 n)) ≡ column w n
  unfolding column padded
  cut_columns =
      let d : List ℕ = digits 20 n in
      drop-append-le (20 - w) (replicate (20 - length d) (code " ")) d (omega (arith, few_digits, h.few, length-replicate (20 - length d) (code " ")))
      ∙ ap (λ (x : List ℕ). x ++ d)
      (drop-replicate (20 - w) (20 - length d) (code " ")
      ∙ ap (λ (x : ℕ). replicate x (code " ")) {x = 20 - length d - (20 - w)} {y = w - length d} (omega (arith, few_digits, h.few)))

  -- the last w of the twenty columns, as the code lends them
  pub last_columns : {columns : List ℕ} → columns ≡ padded 20 (digits 20 n) → take (20 - (20 - w)) (drop (20 - w) columns) ≡ column w n
  last_columns e =
      ap (λ (l : List ℕ). take (20 - (20 - w)) (drop (20 - w) l)) e
      ∙ ap (take (20 - (20 - w))) cut_columns
      ∙ take_all (20 - (20 - w)) (column w n) (omega (arith, length-column, h.few))

pub narrow_lot : (lot : ℕ) → lot < 2 ^ 48 → Narrow 15 lot
narrow_lot lot h = record { some = omega arith; few = omega arith; below = omega (arith, h) }

pub narrow_station : (i : ℕ) → i < 64 → Narrow 2 i
narrow_station i h = record { some = omega arith; few = omega arith; below = omega (arith, h) }

pub narrow_class : (j : ℕ) → j < 8 → Narrow 1 (j + 1)
narrow_class j h = record { some = omega arith; few = omega arith; below = omega (arith, h) }

pub narrow_count : (count : ℕ) → count < 2 ^ 32 → Narrow 10 count
narrow_count count h = record { some = omega arith; few = omega arith; below = omega (arith, h) }

pub narrow_total : (total : ℕ) → total < 10 ^ 12 → Narrow 12 total
narrow_total total h = record { some = omega arith; few = omega arith; below = h }

pub narrow_missing : (missing : ℕ) → missing ≤ 64 → Narrow 2 missing
narrow_missing missing h = record { some = omega arith; few = omega arith; below = omega (arith, h) }

pub length_count : (count : ℕ) → count < 2 ^ 32 → length (count_column count) ≡ 10
unfolding count_column
length_count count h =
    by_bool (is_missing count) (λ t. rw t) (λ f. rw f (length-column 10 count (narrow_count count h)))
