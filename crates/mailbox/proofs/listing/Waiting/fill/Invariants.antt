-- `mailbox::listing::Waiting::fill` meets its contract. Invariant: the rows of the senders below `sender` are stored and counted. Assumes nothing.
use Rattle.schedule.proofs.Counting.{Filling}
use Rattle.aggregate.specs.Aggregate.{root_of}
use Rattle.mailbox.specs.Internal.Receivers.{receivers_of}
use Rattle.mailbox.proofs.listing.Waiting.fill.Given as goal

abbrev pub invariant-loop-sender : goal.invariant-loop-sender
invariant-loop-sender l = Filling (receivers_of (root_of l.self.t) l.self.takers l.self.reports l.self.boxes.now) l.sender l.rows l.sizes
