-- `station::Process::take_start` meets its contract: `decide` of the code is that of the rules, at what the callees ensure. Assumes nothing.
use mathlib.Core.Path.{sym, ◌∙◌}
use Rattle.station.specs.Events.{started_by}
use Rattle.station.specs.Process.{done, after, take_start}
use Rattle.station.proofs.Process.take_start.Goals as goal

pub returns-in-Ok : goal.returns-in-Ok
unfolding take_start
returns-in-Ok c = rw (c.started_by.ensures, c.config.ensures) at (c.done.ensures ∙ sym (c.in-Ok.ensures.accepted _))

pub returns-in-Err : goal.returns-in-Err
unfolding take_start
returns-in-Err c =
    let p = c.args.self in
    rw c.config.ensures at (c.refused.ensures ∙ sym (c.in-Err.ensures.refused (done (after p (started_by c.args.from p.station)))))
