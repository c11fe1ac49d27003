-- `pick` of stations with mail meets its contract: the rows are those of the net, so the pick is the draw's. Assumes nothing.
use Rattle.mailbox.proofs.Going.{picks}
use Rattle.mailbox.proofs.kind.MailingKind.pick.Goals as goal

pub returns : goal.returns
returns c = picks c.requires.lists c.requires.formed c.config_in.ensures c.args.d c.pick.ensures
