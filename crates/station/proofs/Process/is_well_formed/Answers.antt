-- `station::Process::is_well_formed` meets its contract: the tests are the definition's. Assumes nothing.
use Rattle.station.specs.Form.{well_formed_process}
use Rattle.station.proofs.Process.is_well_formed.Goals as goal

pub returns : goal.returns
unfolding well_formed_process
returns c = rw (c.is_well_formed.ensures, c.is_valid.ensures, c.config-t.ensures)
