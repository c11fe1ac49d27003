-- `station::Process::send_answer` meets its contract: `finish` of the code is `decide` of the rules, at what the callees ensure. Assumes nothing.
use Rattle.station.specs.Process.{send_answer}
use Rattle.station.proofs.Process.send_answer.Goals as goal

pub returns : goal.returns
unfolding send_answer
returns c = rw (c.may_answer.ensures, c.config.ensures) at c.finish.ensures
