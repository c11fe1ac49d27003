-- `sheet::is_reported` meets its contract: both tests are those of the definition. Assumes nothing.
use mathlib.Core.Bool.{Bool, ◌&&◌}
use mathlib.Core.Path.{ap}
use lib.Dec.{eqb}
use Rattle.station.specs.Events.{finished}
use Rattle.sheet.specs.Sheet.{is_reported}
use Rattle.sheet.proofs.is_reported.Goals as goal

pub returns : goal.returns
unfolding is_reported
returns c = ap (λ (b : Bool). eqb c.args.desk.state finished && b) c.are_narrow.ensures
