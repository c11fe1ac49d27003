-- `aggregate::is_valid` meets its contract: the callees' tests are the definition's. Assumes nothing.
use Rattle.aggregate.specs.Aggregate.{valid}
use Rattle.aggregate.proofs.is_valid.Goals as goal

pub returns : goal.returns
unfolding valid
returns c =
    rw (c.is_station_count.ensures, c.is_class_count.ensures, c.root.ensures, c.is_way.ensures)
