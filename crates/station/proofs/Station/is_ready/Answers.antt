-- `station::Station::is_ready` meets its contract: the code is the definition. Assumes nothing.
use mathlib.Core.Path.{refl}
use Rattle.station.specs.Events.{ready}
use Rattle.station.proofs.Station.is_ready.Goals as goal

pub returns : goal.returns
unfolding ready
returns c = refl
