-- `rendezvous::listing::survey` meets its contract. Invariant: the stations below j are in form, both sets are of them, and what they may send is
-- kept; one that is not in form ends it. Assumes nothing.
use mathlib.Core.Path.{◌≡◌}
use mathlib.Core.Bool.{true}
use Prim.Native.Nat.{ℕ}
use lib.Dec.{eqb}
use Rattle.finite.specs.Below.{all_below}
use Rattle.bitset.specs.Internal.Selected.{set_of}
use Rattle.station.specs.Events as events
use Rattle.rendezvous.specs.Net.{Net, net_in, station}
use Rattle.rendezvous.specs.Internal.Receivers.{AreSends}
use Rattle.rendezvous.proofs.FormAfter.{placed}
use Rattle.rendezvous.proofs.listing.survey.Given as goal

-- those of the stations below i in a state
abbrev pub below : Net → ℕ → ℕ → ℕ
below net state i = set_of i (λ x. eqb (station net x).state state)

abbrev pub invariant-loop-j : goal.invariant-loop-j
invariant-loop-j l = (all_below l.j (placed (net_in l.net l.totals)) ≡ true)
    × (l.asleep ≡ below (net_in l.net l.totals) events.asleep l.j)
    × (l.active ≡ below (net_in l.net l.totals) events.active l.j)
    × AreSends (net_in l.net l.totals) l.j l.kept
