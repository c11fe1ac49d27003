-- `text::Writer::put_aggregate` meets its contract: before class i the texts of the classes below it are put. Assumes nothing.
use mathlib.Core.Path.{◌≡◌}
use mathlib.Core.List.{List}
use Prim.Native.Nat.{ℕ, ◌<◌}
use native.Mathlib.Omega.{arith}
use Rattle.finite.specs.Below.{each}
use Rattle.aggregate.specs.Aggregate.{used, cell}
use Rattle.text.specs.Text.{cell_text, aggregate_text}
use Rattle.finite.proofs.Stores.{room_piece}
use Rattle.text.proofs.Writing.{puts_none, puts_piece}
use Rattle.text.proofs.Writer.put_aggregate.Goals as goal

pub loop-class-init : goal.loop-class-init
unfolding each
loop-class-init c = puts_none c.args.self.now

pub put_cell-requires : goal.put_cell-requires
unfolding aggregate_text
put_cell-requires c =
    let l = c.loop-class in
    let texts : ℕ → List ℕ = λ i. cell_text (cell c.args.v i) in
    let low : l.class < used c.args.t = rw c.count_used-class-end.ensures at c.loop-class-test.true in
    rw c.class_of.ensures (room_piece texts low c.requires l.invariant.put)

pub loop-class-preserved : goal.loop-class-preserved
loop-class-preserved c =
    puts_piece (λ (i : ℕ). cell_text (cell c.args.v i)) c.loop-class.invariant (rw c.class_of.ensures at c.put_cell.ensures)

pub returns : goal.returns
unfolding aggregate_text
returns c =
    let end : c.loop-class.class ≡ used c.args.t = omega arith in
    rw end at c.loop-class.invariant
