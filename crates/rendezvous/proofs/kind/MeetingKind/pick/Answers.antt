-- `pick` of stations that meet meets its contract: the rows are those of the net, so the pick is the draw's. Assumes nothing.
use Rattle.rendezvous.proofs.Going.{read, filled}
use Rattle.rendezvous.proofs.kind.MeetingKind.pick.Goals as goal

pub invariant_of-choose : goal.invariant_of-choose
invariant_of-choose c = record { read = read c.args.net.now c.args._totals.now c.requires.formed c.config_in-t.ensures }

pub returns : goal.returns
returns c = c.choose.ensures c.args._totals.now (filled c.requires.lists c.requires.formed)
