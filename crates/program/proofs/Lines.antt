-- The bytes of lines: they are few enough for the room, the next line's follow those before it, and a line that is put into the part of a
-- buffer from a place on is put there. Assumes nothing.
use mathlib.Core.Path.{◌≡◌, refl, sym, ap, ◌∙◌}
use mathlib.Core.List.{List, [], ◌∷◌, ◌++◌, flat_map, append_assoc, append-nil}
use Prim.Native.Nat.{ℕ, ◌+◌, ◌*◌, ◌-◌, ◌≤◌}
use native.Mathlib.Omega.{arith}
use lib.ListN.{length, take, drop, length-append, length-drop, drop_of_length-le}
use lib.Seq.{take_all, take-add, drop-drop, sets-eq}
use borrow.Author.Tests.{le-leb}
use Rattle.text.specs.Text.{line_room, text_of, text_in}
use Rattle.finite.specs.Stores.{over}
use Rattle.finite.specs.Internal.Putting.{Put}
use Rattle.text.proofs.Lines.{text_le}
use Rattle.text.specs.declared.Line.{Line}
use Rattle.program.specs.Internal.Filling.{bytes_of}

pub bytes_le : (lines : List Line) → length (bytes_of lines) ≤ length lines * line_room
unfolding flat_map
bytes_le [] = omega arith
bytes_le (line ∷ lines) = omega (arith, length-append (text_of line) (bytes_of lines), text_le line, bytes_le lines)

bytes-append : (a b : List Line) → bytes_of (a ++ b) ≡ bytes_of a ++ bytes_of b
unfolding flat_map
bytes-append [] b = refl
bytes-append (line ∷ a) b =
    ap (λ (l : List ℕ). text_of line ++ l) (bytes-append a b) ∙ sym (append_assoc (text_of line) (bytes_of a) (bytes_of b))

pub bytes_one : (line : Line) → bytes_of (line ∷ []) ≡ text_of line
unfolding flat_map
bytes_one line = append-nil (text_of line)

-- one line more
pub bytes_next : (i : ℕ) (lines : List Line) {line : Line} {after : List Line} → drop i lines ≡ line ∷ after
    → bytes_of (take (i + 1) lines) ≡ bytes_of (take i lines) ++ text_of line
bytes_next i lines {line} e =
    ap bytes_of (take-add i 1 lines ∙ ap (λ (l : List Line). take i lines ++ take 1 l) e)
    ∙ bytes-append (take i lines) (line ∷ [])
    ∙ ap (λ (l : List ℕ). bytes_of (take i lines) ++ l) (bytes_one line)

-- a line that was put into the part of a buffer from `at` on
module _ (l : List ℕ) (at : ℕ) (line : Line) (enough : at + line_room ≤ length l) where
  -- the part, as the code lends it
  abbrev part : List ℕ
  part = take (length l - at) (drop at l)

  part-is : part ≡ drop at l
  part-is = take_all (length l - at) (drop at l) (omega (arith, length-drop at l))

  whole-line : text_in (length part) line ≡ text_of line
  unfolding text_in
  whole-line = rw (le-leb line_room (length part) (omega (arith, ap length part-is, length-drop at l)))

  pub line-put-at : {n : ℕ} {after : List ℕ} → n ≡ length (text_in (length part) line) → after ≡ over (text_in (length part) line) part
      → Put l at (text_of line) (take at l ++ (after ++ drop (length l - at) (drop at l))) (at + n)
  line-put-at {after} count bytes =
      let text : List ℕ = text_of line in
      let none : drop (length l - at) (drop at l) ≡ [] =
      drop_of_length-le (drop at l) {i = length l - at} (omega (arith, length-drop at l)) in
      let rest : after ++ drop (length l - at) (drop at l) ≡ text ++ drop (at + length text) l =
      ap (λ (x : List ℕ). after ++ x) none
      ∙ append-nil after
      ∙ bytes
      ∙ ap (λ (x : List ℕ). over x part) whole-line
      ∙ ap (λ (x : List ℕ). over text x) part-is
      ∙ ap (λ (x : List ℕ). text ++ x) (drop-drop (length text) at l) in
      record {
        bytes =
            ap (λ (x : List ℕ). take at l ++ x) rest
            ∙ sym (append_assoc (take at l) text (drop (at + length text) l))
            ∙ sym (sets-eq text l at (omega (arith, text_le line)));
        end = omega (arith, count, ap length whole-line);
      }
