-- `rendezvous::listing::Takable::follow` meets its contract. Invariant: the rows are right of the senders below x and of those that may send to
-- neither station of the step. Assumes nothing.
use Rattle.rendezvous.specs.Internal.Receivers.{kept_at, HoldSome}
use Rattle.rendezvous.proofs.Following.{Passed}
use Rattle.rendezvous.proofs.listing.Takable.follow.Given as goal

abbrev pub invariant-loop-x : goal.invariant-loop-x
invariant-loop-x l = HoldSome (Passed l.both (kept_at l.self.kept.now) l.x) l.self.k l.self.states (kept_at l.self.kept.now) l.rows l.all
