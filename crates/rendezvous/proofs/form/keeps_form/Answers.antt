-- `rendezvous::form::keeps_form` meets its contract: by the kind. Assumes nothing.
use mathlib.Core.Path.{◌≡◌, ◌∙◌, ap}
use borrow.Author.Tests.{ne_eqb}
use Rattle.aggregate.specs.Aggregate.{bounded}
use Rattle.station.specs.declared.Station.{Station}
use Rattle.stations.specs.Stations.{station_at}
use Rattle.stations.specs.Words.{stations_in}
use Rattle.stations.proofs.Words.{station_read_lem}
use lib.Dec.{eqb}
use Rattle.rendezvous.proofs.form.keeps_form.Goals as goal
use Rattle.rendezvous.proofs.form.keeps_form.Goals.{After-load-r}

-- what is read is the receiver
receiver : (c : After-load-r) → let a = c.args in c.load-r.result ≡ station_at (stations_in a.net.now) a.step.receiver
receiver c = c.load-r.ensures ∙ station_read_lem c.args.net.now c.args.step.receiver c.requires

pub returns-then-step-eq-TELL : goal.returns-then-step-eq-TELL
returns-then-step-eq-TELL c =
    rw c.if-step-eq-TELL.true (ap (λ (s : Station). eqb s.waits 0) (receiver (goal.at.returns-then-step-eq-TELL c).After-load-r))

pub returns : goal.returns
returns c =
    rw (ne_eqb _ 5 c.if-step-eq-TELL.false)
    (c.is_bounded.ensures ∙ ap (λ (s : Station). bounded c.args.t s.held) (receiver (goal.at.returns c).After-load-r))
