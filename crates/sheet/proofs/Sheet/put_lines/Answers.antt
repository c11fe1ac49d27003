-- `sheet::Sheet::put_lines` meets its contract: the lot, the stations, the totals. Assumes nothing.
use Rattle.sheet.specs.Layout.{sheet_of}
use Rattle.sheet.proofs.Laying.{puts_then}
use Rattle.sheet.proofs.Sheet.put_lines.Goals as goal

pub returns-clause-lays : goal.returns-clause-lays
unfolding sheet_of
returns-clause-lays c = puts_then (puts_then c.put_lot.ensures c.put_stations.ensures.lays) c.put_totals.ensures
