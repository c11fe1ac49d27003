-- A number right-aligned in twenty columns: its digits, put at the end of blanks. Assumes nothing.
use mathlib.Core.Path.{◌≡◌, sym, ap, ◌∙◌}
use mathlib.Core.List.{List, [], ◌++◌, append-nil}
use Prim.Native.Nat.{ℕ, ◌-◌, ◌≤◌}
use Prim.Native.Char.{code}
use native.Mathlib.Omega.{arith}
use lib.ListN.{length, take, drop, replicate, length-drop, length-take, drop_of_length-le}
use lib.Seq.{take_at}
use Rattle.std.proofs.lemmas.List.{take-replicate}
use borrow.Rule.Slice.PartMut.{put_mid}
use Rattle.finite.specs.Internal.Putting.{Room, Put}
use Rattle.finite.proofs.Stores.{put_front}
use Rattle.text.specs.Text.{digits, padded}
use Rattle.text.proofs.Digits.{digits_le}

module _ (n : ℕ) where
  abbrev blanks : List ℕ
  blanks = replicate 20 (code " ")

  pub number_room : Room blanks 0 (digits 20 n)
  number_room = record { fits = omega (arith, digits_le 20 n) }

  module _ {l : List ℕ} {count : ℕ} (p : Put blanks 0 (digits 20 n) l count) where
    pub count_le : count ≤ 20
    count_le = omega (arith, p.end, digits_le 20 n)

    digits_front : take count l ≡ digits 20 n
    digits_front =
        let front = put_front number_room p in
        ap (take count) front.1 ∙ take_at (digits 20 n) (drop (length (digits 20 n)) blanks) count (sym front.0)

    -- left is what the digits were put into
    module _ {left : List ℕ} (same : left ≡ l) where
      pub counted : count ≡ length (take count left)
      counted = omega (arith, p.end, ap length (ap (take count) same ∙ digits_front))

      pub count_within : count ≤ length left
      count_within = omega (arith, counted, length-take count left)

      pub columns_are : {copied : List ℕ} → copied ≡ take count left
          → put_mid (20 - count) (20 - (20 - count)) blanks copied ≡ padded 20 (digits 20 n)
      unfolding padded
      columns_are {copied} e =
          let at : ℕ = 20 - count in
          let none : drop (20 - at) (drop at blanks) ≡ [] = drop_of_length-le (drop at blanks) {i = 20 - at} (omega (arith, length-drop at blanks)) in
          ap (put_mid at (20 - at) blanks) (e ∙ ap (take count) same ∙ digits_front)
          ∙ ap (λ (x : List ℕ). take at blanks ++ (digits 20 n ++ x)) none
          ∙ ap (λ (x : List ℕ). take at blanks ++ x) (append-nil (digits 20 n))
          ∙ ap (λ (x : List ℕ). x ++ digits 20 n)
          (take-replicate at 20 (code " ") (omega arith) ∙ ap (λ (m : ℕ). replicate (20 - m) (code " ")) (put_front number_room p).0)
