-- `rendezvous::form::is_told_well` meets its contract: test by test. Assumes nothing.
use Rattle.rendezvous.specs.Net.{told_well}
use Rattle.rendezvous.proofs.form.is_told_well.Goals as goal

pub returns : goal.returns
unfolding told_well
returns c = rw c.root.ensures
