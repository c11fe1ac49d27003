-- `make` of stations with mail meets its contract: an allowed step, as the code makes it, is the rules'. Assumes nothing.
use Rattle.mailbox.proofs.FormAfter.{step_receives}
use Rattle.mailbox.proofs.Going.{made-is}
use Rattle.mailbox.proofs.kind.MailingKind.make.Goals as goal

pub make-requires-clause-places : goal.make-requires-clause-places
make-requires-clause-places c = (step_receives _ c.args.step c.requires.formed c.requires.may).0

pub make-requires-clause-sums : goal.make-requires-clause-sums
make-requires-clause-sums c = (step_receives _ c.args.step c.requires.formed c.requires.may).1

pub returns-clause-made : goal.returns-clause-made
returns-clause-made c = made-is _ c.args.step c.make.ensures.made
