-- `sheet::Sheet::put_totals` meets its contract: before class j the lines of the classes below it are put. Assumes nothing.
use mathlib.Core.Path.{◌≡◌}
use native.Mathlib.Omega.{arith}
use Rattle.sheet.specs.Layout.{total_lines}
use Rattle.sheet.proofs.Laying.{puts_none, puts_more}
use Rattle.sheet.proofs.Sheet.put_totals.Goals as goal

pub loop-j-init : goal.loop-j-init
loop-j-init c = puts_none _

pub loop-j-preserved : goal.loop-j-preserved
loop-j-preserved c = puts_more _ c.loop-j.invariant (rw c.class_of.ensures at c.put_total_line.ensures)

pub returns : goal.returns
unfolding total_lines
returns c =
    let end : c.loop-j.j ≡ c.args.self.now.map.now.classes = omega arith in
    rw end at c.loop-j.invariant
