-- `sheet::Sheet::put_totals` meets its contract: before class j the lines of the classes below it are put. Assumes nothing.
use Prim.Native.Nat.{ℕ}
use Rattle.finite.specs.Below.{each}
use Rattle.aggregate.specs.Aggregate.{cell}
use Rattle.sheet.specs.Internal.Laying.{Puts}
use Rattle.sheet.specs.Layout.{total_line}
use Rattle.sheet.proofs.Sheet.put_totals.Given as goal

abbrev pub invariant-loop-j : goal.invariant-loop-j
invariant-loop-j l = Puts l.initial.writer (each (λ (x : ℕ). total_line x (cell l.self.held.now x)) l.j) l.writer
