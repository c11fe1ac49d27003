-- `station::Station::started_by` meets its contract: the test of the state picks line 1 or line 4. Assumes nothing.
use borrow.Author.Tests.{eq-eqb, ne_eqb}
use Rattle.station.specs.Events.{started_by}
use Rattle.station.proofs.Station.started_by.Goals as goal

pub returns-then-self-eq-ASLEEP : goal.returns-then-self-eq-ASLEEP
unfolding started_by
returns-then-self-eq-ASLEEP c = rw (eq-eqb _ 0 c.if-self-eq-ASLEEP.true) c.woken.ensures

pub returns : goal.returns
unfolding started_by
returns c = rw (ne_eqb _ 0 c.if-self-eq-ASLEEP.false) c.start_taken.ensures
