-- `rendezvous::form::read` meets its contract: call by call. Assumes nothing.
use mathlib.Core.Path.{◌∙◌, ap}
use Rattle.stations.specs.Words.{station_read}
use Rattle.stations.proofs.Words.{station_read_lem}
use Rattle.rendezvous.proofs.form.read.Goals as goal

pub returns : goal.returns
returns c =
    let words = c.args.net.now in
    c.load.ensures ∙ ap (station_read words) c.place.ensures ∙ station_read_lem words c.args.i c.requires
