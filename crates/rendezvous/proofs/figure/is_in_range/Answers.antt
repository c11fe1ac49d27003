-- `rendezvous::figure::is_in_range` meets its contract: the callees' contracts, one in the other. Assumes nothing.
use borrow.Author.Tests.{ne_eqb}
use Rattle.rendezvous.proofs.figure.is_in_range.Goals as goal
use Rattle.rendezvous.proofs.figure.is_in_range.Goals.{then-carrying-eq-CARRYING, else-carrying-eq-CARRYING}

pub returns : goal.returns
returns c = elim c.if-carrying-eq-CARRYING.branch [
  | then-carrying-eq-CARRYING t ↦ rw (c.is_in_range.ensures, c.root.ensures, t.kinds-is, t.if-carrying-eq-CARRYING.true)
  | else-carrying-eq-CARRYING t ↦ rw (c.is_in_range.ensures, c.root.ensures, t.kinds-is, ne_eqb _ 1 t.if-carrying-eq-CARRYING.false)
]
