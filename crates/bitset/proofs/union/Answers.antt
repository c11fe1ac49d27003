-- `bitset::union` meets its contract: the language's own bits. Assumes nothing.
use mathlib.Core.Path.{refl}
use Rattle.bitset.specs.Set.{union}
use Rattle.bitset.proofs.union.Goals as goal

pub returns : goal.returns
unfolding union
returns c = refl
