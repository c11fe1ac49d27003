-- Lines: each fits into the room asked for, and is put from the front of the buffer. Assumes nothing.
use mathlib.Core.Path.{◌≡◌}
use mathlib.Core.List.{List}
use Prim.Native.Nat.{ℕ, zero, suc, ◌+◌, ◌*◌, ◌≤◌, ◌<◌}
use native.Mathlib.Omega.{arith}
use lib.ListN.{length, length-append}
use borrow.Author.Tests.{lt-leb, le-leb}
use Rattle.finite.specs.Below.{each}
use Rattle.aggregate.specs.declared.Config.{Config}
use Rattle.aggregate.specs.declared.Cell.{Cell}
use Rattle.aggregate.specs.declared.Aggregate.{Aggregate}
use Rattle.aggregate.specs.Aggregate.{used, cell}
use Rattle.text.specs.declared.Line.{Line}
use Rattle.text.specs.declared.Line.TheVariants.{Wake, Pass, Answer, Report, Closing, Refused, RefusedStation}
use Rattle.text.specs.Ascii.{ascii}
use Rattle.text.specs.Text.{item, cell_text, aggregate_text, words_of, text_of, line_room, text_in}
use Rattle.finite.specs.Stores.{over}
use Rattle.finite.specs.Internal.Putting.{Room, Put}
use Rattle.text.proofs.Digits.{digits_le}
use Rattle.finite.proofs.Stores.{put_front}

item-le : (word : List ℕ) (n : ℕ) → length (item word n) ≤ length word + 20
unfolding item
item-le word n = rw length-append (omega (arith, digits_le 20 n))

cell-le : (x : Cell) → length (cell_text x) ≤ 42
unfolding cell_text
cell-le x = rw length-append (omega (arith, item-le (ascii " ") x.sum, item-le (ascii " ") x.missing))

cells-le : (v : Aggregate) (n : ℕ) → length (each (λ i. cell_text (cell v i)) n) ≤ 42 * n
unfolding each
cells-le v zero = omega arith
cells-le v (suc n) = rw length-append (omega (arith, cells-le v n, cell-le (cell v n)))

aggregate-le : (t : Config) (v : Aggregate) → length (aggregate_text t v) ≤ 336
unfolding aggregate_text
aggregate-le t v = omega (arith, cells-le v (used t))

-- every line fits
words_le : (line : Line) → length (words_of line) < line_room
words_le (Wake s r) = rw length-append (omega (arith, item-le (ascii "wake ") s, item-le (ascii " ") r))
words_le (Pass s r) = rw length-append (omega (arith, item-le (ascii "pass ") s, item-le (ascii " ") r))
words_le (Answer s r t v) =
    simp length-append (omega (arith, item-le (ascii "answer ") s, item-le (ascii " ") r, aggregate-le t v))
words_le (Report i t v) = rw length-append (omega (arith, item-le (ascii "report ") i, aggregate-le t v))
words_le (Closing l n m) =
    simp length-append (omega (arith, item-le (ascii "lot ") l, item-le (ascii " steps ") n, item-le (ascii " links ") m))
words_le (Refused n) = omega (arith, item-le (ascii "refused ") n)
words_le (RefusedStation n i) =
    rw length-append (omega (arith, item-le (ascii "refused ") n, item-le (ascii " station ") i))

pub text_le : (line : Line) → length (text_of line) ≤ line_room
unfolding text_of
text_le line = rw length-append (omega (arith, words_le line))

module _ (line : Line) where
  -- a buffer with less room than every line needs is left as it was
  pub line-left : (l : List ℕ) → length l < line_room → (0 ≡ length (text_in (length l) line)) × (l ≡ over (text_in (length l) line) l)
  unfolding text_in
  line-left l less = (rw (lt-leb line_room (length l) less), rw (lt-leb line_room (length l) less))

  pub line_room_lem : (l : List ℕ) → line_room ≤ length l → Room l 0 (text_of line)
  line_room_lem l enough = record { fits = omega (arith, text_le line) }

  -- the whole line from the front
  pub line-put : {l l' : List ℕ} {r : ℕ} → line_room ≤ length l → Put l 0 (text_of line) l' r
      → (r ≡ length (text_in (length l) line)) × (l' ≡ over (text_in (length l) line) l)
  unfolding text_in
  line-put {l} enough p = rw (le-leb line_room (length l) enough) (put_front (line_room_lem l enough) p)
