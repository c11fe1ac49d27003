-- `text::Writer::put_aggregate` meets its contract: before class i the texts of the classes below it are put. Assumes nothing.
use Prim.Native.Nat.{ℕ}
use Rattle.finite.specs.Below.{each}
use Rattle.aggregate.specs.Aggregate.{cell}
use Rattle.text.specs.Text.{cell_text}
use Rattle.text.specs.Internal.Writing.{Puts}
use Rattle.text.proofs.Writer.put_aggregate.Given as goal

abbrev pub invariant-loop-class : goal.invariant-loop-class
invariant-loop-class l = Puts l.initial.self (each (λ (i : ℕ). cell_text (cell l.v i)) l.class) l.self
