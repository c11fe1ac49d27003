-- `station::Station::may_answer` meets its contract: the two tests are the definition's. Assumes nothing.
use Rattle.station.specs.Events.{may_answer}
use Rattle.station.proofs.Station.may_answer.Goals as goal

pub returns : goal.returns
unfolding may_answer
returns c = rw (c.root.ensures, c.is_ready.ensures)
