-- `mailbox::listing::root_reports` meets its contract: the root is read. Assumes nothing.
use mathlib.Core.Path.{◌∙◌, ap}
use Prim.Native.Nat.{ℕ}
use Rattle.station.specs.declared.Station.{Station}
use Rattle.stations.specs.Words.{station_read}
use Rattle.stations.proofs.Words.{station_read_lem}
use Rattle.aggregate.specs.Aggregate.{root_of}
use Rattle.mailbox.specs.Delivery.{may_report}
use Rattle.mailbox.proofs.listing.root_reports.Goals as goal

pub returns : goal.returns
returns c =
    let words = c.args.line.now in
    c.may_report.ensures
    ∙ ap (λ (s : Station). may_report s)
    (c.load-root.ensures ∙ ap (λ (i : ℕ). station_read words i) c.root.ensures ∙ station_read_lem words (root_of c.args.t) c.requires)
