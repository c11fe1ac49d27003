-- `station::Station::may_report` meets its contract: the two tests are the definition's. Assumes nothing.
use Rattle.station.specs.Events.{may_report}
use Rattle.station.proofs.Station.may_report.Goals as goal

pub returns : goal.returns
unfolding may_report
returns c = rw (c.root.ensures, c.is_ready.ensures)
