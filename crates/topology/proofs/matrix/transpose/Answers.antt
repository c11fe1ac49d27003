-- `topology::matrix::transpose` meets its contract: the six passes, one after the other, transpose the matrix. Assumes nothing.
use mathlib.Core.Path.{refl}
use Rattle.topology.proofs.Transposition.{passes_transpose}
use Rattle.topology.proofs.matrix.transpose.Goals as goal

pub returns : goal.returns
returns c = passes_transpose _ _ (
  _,
  (
    _,
    (_, (_, (_, (_, refl, c.exchange.ensures), c.exchange-2.ensures), c.exchange-3.ensures), c.exchange-4.ensures),
    c.exchange-5.ensures,
  ),
  c.exchange-6.ensures,
)
