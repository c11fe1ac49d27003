-- `mailbox::listing::retake` meets its contract: call by call. Assumes nothing.
use Rattle.mailbox.specs.Internal.Receivers.{retaken}
use Rattle.mailbox.proofs.listing.retake.Goals as goal

pub returns : goal.returns
unfolding retaken
returns c =
    rw (
      c.put-2.ensures,
      c.takes_answer.ensures,
      c.put.ensures,
      c.takes_start.ensures,
    )
