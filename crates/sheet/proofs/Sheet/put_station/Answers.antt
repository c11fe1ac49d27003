-- `sheet::Sheet::put_station` meets its contract: before class j the lines of the classes below it are put. Assumes nothing.
use mathlib.Core.Path.{◌≡◌}
use native.Mathlib.Omega.{arith}
use Rattle.sheet.specs.Layout.{station_lines}
use Rattle.sheet.proofs.Laying.{puts_none, puts_more, below_none, below_more}
use Rattle.sheet.proofs.Sheet.put_station.Goals as goal

pub loop-j-init : goal.loop-j-init
loop-j-init c = (puts_none _, below_none)

pub loop-j-preserved : goal.loop-j-preserved
loop-j-preserved c =
    let l = c.loop-j.invariant in
    let line = c.put_count_line.ensures in
    (puts_more _ l.0 line.lays, below_more l.1 line.fits)

pub returns-clause-lays : goal.returns-clause-lays
unfolding station_lines
returns-clause-lays c =
    let end : c.loop-j.j ≡ c.args.self.now.map.now.classes = omega arith in
    rw end at c.loop-j.invariant.0
