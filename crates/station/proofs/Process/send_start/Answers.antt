-- `station::Process::send_start` meets its contract: `decide` of the code is that of the rules, at what the callees ensure. Assumes nothing.
use mathlib.Core.Path.{sym, ◌∙◌}
use Rattle.station.specs.Events.{start_sent}
use Rattle.station.specs.Process.{done, after, send_start}
use Rattle.station.proofs.Process.send_start.Goals as goal

pub returns-in-Ok : goal.returns-in-Ok
unfolding send_start
returns-in-Ok c =
    rw (c.start_sent.ensures, c.may_send_start.ensures, c.config.ensures) at (c.done.ensures ∙ sym (c.in-Ok.ensures.accepted _))

pub returns-in-Err : goal.returns-in-Err
unfolding send_start
returns-in-Err c =
    let p = c.args.self in
    rw (c.may_send_start.ensures, c.config.ensures)
    at (c.refused.ensures ∙ sym (c.in-Err.ensures.refused (done (after p (start_sent c.args.to p.station)))))
