-- `rendezvous::listing::renew` meets its contract: call by call. Assumes nothing.
use mathlib.Core.Path.{◌∙◌, ap}
use lib.ListN.{set}
use Rattle.station.specs.declared.Station.{Station}
use Rattle.rendezvous.specs.declared.listing.Sends.{Sends}
use Rattle.rendezvous.specs.Internal.Receivers.{sends_of, restated}
use Rattle.rendezvous.proofs.listing.renew.Goals as goal

pub returns : goal.returns
returns c =
    let a = c.args in
    let is = c.read-s.ensures in (
      ap (λ (x : Sends). set a.kept.now a.j x) (c.find_sends-sends.ensures ∙ ap (sends_of a.t a.j) is),
      c.restate.ensures ∙ ap (λ (s : Station). restated a.j s.state a.states) is,
    )
