-- `sheet::Sheet::put_stations` meets its contract: before station i the lines of the stations below it are put. Assumes nothing.
use Rattle.sheet.proofs.Laying.{puts_none, puts_more, below_none, below_more}
use Rattle.sheet.proofs.Sheet.put_stations.Goals as goal

pub loop-i-init : goal.loop-i-init
loop-i-init c = (puts_none _, below_none)

pub loop-i-preserved : goal.loop-i-preserved
loop-i-preserved c =
    let l = c.loop-i.invariant in
    let lines = c.put_station.ensures in
    (puts_more _ l.0 lines.lays, below_more l.1 lines.fits)
