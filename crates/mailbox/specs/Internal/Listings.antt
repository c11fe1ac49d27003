-- What the code knows of a net with mail whose steps are listed.
use Rattle.std.specs.Prelude.{◌≡◌, length}
use Rattle.mailbox.specs.declared.kind.Listing.{Listing}
use Rattle.mailbox.specs.Net.{Net}
use Rattle.mailbox.specs.Internal.Receivers.{root_reports, takers_of, HoldReceivers, AnySender}

-- who takes a message is known, and the rows list who can take what waits, and the report
pub record Lists (net : Net) (l : Listing) : Type 0 where
  pub long : length net.boxes ≡ 36992
  pub full : length net.stations ≡ 64
  pub known : l.takers ≡ takers_of net.config.k net.stations
  pub holds : HoldReceivers AnySender net.config l.takers (root_reports net.config net.stations) net.boxes l.rows l.sizes
