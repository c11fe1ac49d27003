-- `rendezvous::telling::Opened::fill_tells` meets its contract. Invariant: the tells to receivers below i stand in the rows. Assumes nothing.
use mathlib.Core.List.{[]}
use Rattle.rendezvous.specs.Net.{net_in}
use Rattle.rendezvous.specs.Internal.Receivers.{AreTells}
use Rattle.rendezvous.proofs.telling.Opened.fill_tells.Given as goal

abbrev pub invariant-loop-i : goal.invariant-loop-i
invariant-loop-i l = AreTells (net_in l.self.net.now []) l.i l.tells
