-- `rendezvous::listing::Takable::fill` meets its contract. Invariant: the rows of the senders below `sender` are stored and counted. Assumes
-- nothing.
use mathlib.Core.Path.{◌≡◌}
use native.Mathlib.Omega.{arith}
use Rattle.schedule.proofs.Counting.{filling_none, filling_next, filling_all}
use Rattle.rendezvous.proofs.Following.{hold_all}
use Rattle.rendezvous.proofs.listing.Takable.fill.Goals as goal

pub loop-sender-init : goal.loop-sender-init
loop-sender-init c = filling_none _ (omega arith) c.no_sizes-sizes.ensures

pub loop-sender-preserved : goal.loop-sender-preserved
loop-sender-preserved c =
    filling_next _ c.loop-sender.invariant (omega arith) c.find_four.ensures c.store-sizes.ensures.rows c.store-sizes.ensures.sizes

pub returns : goal.returns
returns c =
    let l = c.loop-sender in
    let all : l.sender ≡ c.args.self.now.k = omega arith in
    hold_all (λ s m. tt) (record { hold = filling_all _ (rw all at l.invariant) })
