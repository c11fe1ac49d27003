-- What the code knows of a net of stations that meet whose steps are listed.
use Rattle.std.specs.Prelude.{◌≡◌, length}
use Rattle.rendezvous.specs.declared.kind.Listing.{Listing}
use Rattle.rendezvous.specs.Net.{Net}
use Rattle.rendezvous.specs.Internal.Receivers.{kept_at, states_of, AreSends, HoldTakers}

-- what each station may send is kept, the states are those of the net, and the rows list what stations in these states can take
pub record Lists (net : Net) (l : Listing) : Type 0 where
  pub sends_are : AreSends net net.config.k l.kept
  pub states_are : l.states ≡ states_of net
  pub full : length net.stations ≡ 64
  pub held : HoldTakers net.config.k l.states (kept_at l.kept) l.rows l.sizes
