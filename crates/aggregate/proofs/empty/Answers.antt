-- `aggregate::empty` meets its contract: the code is the definition. Assumes nothing.
use mathlib.Core.Path.{refl}
use Rattle.aggregate.specs.Aggregate.{nothing}
use Rattle.aggregate.proofs.empty.Goals as goal

pub returns : goal.returns
unfolding nothing
returns c = refl
