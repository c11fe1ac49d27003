-- The program reads no more of its input than it needs: where more stands there, the part read is too long already. Assumes nothing.
use mathlib.Core.Path.{◌≡◌, sym, ap, ◌∙◌}
use mathlib.Core.List.{List, [], ◌∷◌}
use Prim.Native.Nat.{ℕ, ◌<◌}
use native.Mathlib.Omega.{arith}
use lib.Dec.{leb}
use lib.ListN.{length, take, length-take}
use lib.Seq.{take_all}
use borrow.Author.Tests.{leb-true, leb-false}
use Rattle.finite.proofs.Cases.{by_bool}
use Rattle.opening.specs.declared.OpenFault.TheVariants.{TooLong}
use Rattle.opening.specs.Opening.{open_fault_numbers, most_bytes}
use Rattle.opening.specs.Refusals.{refusal_line}
use Rattle.opening.proofs.Rules.{too_long}
use Rattle.program.specs.Output.{lines_of}
use Rattle.program.specs.Internal.Filling.{bytes_of}
use Rattle.program.specs.Running.{input_room, FrontEnough}

long_refused : (s : List ℕ) → most_bytes < length s → lines_of s ≡ refusal_line (open_fault_numbers TooLong) ∷ []
unfolding lines_of
long_refused s h = rw (← too_long s h)

pub front_enough : FrontEnough
front_enough s =
    ap bytes_of
    (by_bool (leb (length s) input_room)
    (λ few. ap lines_of (take_all input_room s (leb-true (length s) input_room few)))
    (λ many.
    let more : input_room < length s = leb-false (length s) input_room many in
    long_refused (take input_room s) (omega (arith, length-take input_room s)) ∙ sym (long_refused s (omega arith))))
