-- `station::Station::may_send_start` meets its contract: the two tests are the definition's. Assumes nothing.
use Rattle.station.specs.Events.{may_send_start}
use Rattle.station.proofs.Station.may_send_start.Goals as goal

pub returns : goal.returns
unfolding may_send_start
returns c = rw c.contains.ensures
