-- `rendezvous::listing::Takable::fill` meets its contract. Invariant: the rows of the senders below `sender` are stored and counted. Assumes
-- nothing.
use Rattle.schedule.proofs.Counting.{Filling}
use Rattle.rendezvous.specs.Internal.Receivers.{kept_at, takers_in}
use Rattle.rendezvous.proofs.listing.Takable.fill.Given as goal

abbrev pub invariant-loop-sender : goal.invariant-loop-sender
invariant-loop-sender l = Filling (λ kind s. takers_in kind (kept_at l.self.kept.now s) l.self.states) l.sender l.rows l.sizes
