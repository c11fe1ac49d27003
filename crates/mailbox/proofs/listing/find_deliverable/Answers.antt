-- `mailbox::listing::find_deliverable` meets its contract: call by call. Assumes nothing.
use Rattle.mailbox.specs.Internal.Receivers.{deliverable}
use Rattle.mailbox.proofs.listing.find_deliverable.Goals as goal

pub returns : goal.returns
unfolding deliverable
returns c = rw (c.without.ensures, c.union-all.ensures)
