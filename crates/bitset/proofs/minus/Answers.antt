-- `bitset::minus` meets its contract: the code is the definition. Assumes nothing.
use mathlib.Core.Path.{refl}
use Rattle.bitset.specs.Set.{minus}
use Rattle.bitset.proofs.minus.Goals as goal

pub returns : goal.returns
unfolding minus
returns c = refl
