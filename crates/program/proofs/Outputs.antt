-- The whole output: a buffer with too little room is left as it was, one with room has it at its front, where it is read back, and a
-- refusal is all of it. Assumes nothing.
use mathlib.Core.Path.{◌≡◌, sym, ap, ◌∙◌}
use mathlib.Core.List.{List, [], ◌∷◌}
use Prim.Native.Nat.{ℕ, ◌≤◌, ◌<◌}
use native.Mathlib.Omega.{arith}
use lib.ListN.{length, take, drop, length-append}
use lib.Seq.{take-append_seam}
use borrow.Author.Tests.{lt-leb, le-leb}
use Rattle.finite.specs.Stores.{over}
use Rattle.finite.specs.Internal.Putting.{Put}
use Rattle.finite.proofs.Stores.{put_front}
use Rattle.text.specs.declared.Line.{Line}
use Rattle.text.specs.Text.{text_of}
use Rattle.text.proofs.Lines.{text_le}
use Rattle.program.specs.Output.{lines_of, output_of, output_room, output_in}
use Rattle.program.specs.Internal.Filling.{Filled, bytes_of}
use Rattle.program.proofs.Lines.{bytes_one}

module _ (s l : List ℕ) where
  pub output_left : length l < output_room → (0 ≡ length (output_in (length l) s)) × (l ≡ over (output_in (length l) s) l)
  unfolding output_in
  output_left less = (rw (lt-leb output_room (length l) less), rw (lt-leb output_room (length l) less))

  module _ (enough : output_room ≤ length l) {l' : List ℕ} {r : ℕ} where
    pub output_put : Filled s l l' r → (r ≡ length (output_in (length l) s)) × (l' ≡ over (output_in (length l) s) l)
    unfolding output_in
    output_put f = rw (le-leb output_room (length l) enough) (put_front f.room f.put)

    -- one line that is all
    pub line_fills : {line : Line} → lines_of s ≡ line ∷ [] → Put l 0 (text_of line) l' r → Filled s l l' r
    line_fills {line} alone p =
        let all : text_of line ≡ output_of s = sym (ap bytes_of alone ∙ bytes_one line) in
        record { room = record { fits = omega (arith, ap length all, text_le line) }; put = rw all at p }

-- and is read back there
module _ (s l : List ℕ) {l' : List ℕ} {r : ℕ} (count : r ≡ length (output_in (length l) s)) (put : l' ≡ over (output_in (length l) s) l) where
  pub front_le : r ≤ length l'
  front_le = omega (arith, count, ap length put, length-append (output_in (length l) s) (drop (length (output_in (length l) s)) l))

  pub front_is : output_room ≤ length l → take r l' ≡ output_of s
  unfolding output_in
  front_is enough =
      let all : output_in (length l) s ≡ output_of s = rw (le-leb output_room (length l) enough) in
      ap (λ (n : ℕ). take n l') (count ∙ ap length all)
      ∙ ap (take (length (output_of s))) (put ∙ ap (λ (x : List ℕ). over x l) all)
      ∙ take-append_seam (output_of s) (drop (length (output_of s)) l)
