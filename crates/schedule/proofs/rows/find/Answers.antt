-- `schedule::rows::find` meets its contract: each return is the arm of its tests. Assumes nothing.
use Rattle.std.proofs.Common.{le-ltb, lt-ltb}
use Rattle.schedule.specs.Rows.{entry_by_size}
use Rattle.schedule.proofs.rows.find.Goals as goal

pub returns-then-index-sizes : goal.returns-then-index-sizes
unfolding entry_by_size
returns-then-index-sizes c = rw (lt-ltb _ _ c.if-index-sizes.true) c.find_of_kind.ensures

pub returns-then-second-sizes : goal.returns-then-second-sizes
unfolding entry_by_size
returns-then-second-sizes c =
    rw (le-ltb _ _ c.if-index-sizes.false, lt-ltb _ _ c.if-second-sizes.true) c.find_of_kind-then-second-sizes.ensures

pub returns-then-third-sizes : goal.returns-then-third-sizes
unfolding entry_by_size
returns-then-third-sizes c =
    rw (le-ltb _ _ c.if-index-sizes.false, le-ltb _ _ c.if-second-sizes.false, lt-ltb _ _ c.if-third-sizes.true)
    c.find_of_kind-then-third-sizes.ensures

pub returns : goal.returns
unfolding entry_by_size
returns c =
    rw (le-ltb _ _ c.if-index-sizes.false, le-ltb _ _ c.if-second-sizes.false, le-ltb _ _ c.if-third-sizes.false) c.find_of_kind-2.ensures
