-- `station::Process::report` meets its contract: `finish` of the code is `decide` of the rules, at what the callees ensure. Assumes nothing.
use Rattle.station.specs.Process.{report}
use Rattle.station.proofs.Process.report.Goals as goal

pub returns : goal.returns
unfolding report
returns c = rw (c.may_report.ensures, c.config.ensures) at c.finish.ensures
