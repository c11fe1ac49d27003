-- `rendezvous::figure::is_allowed` meets its contract: by the kind, of the stations that the words hold. Assumes nothing.
use mathlib.Core.Path.{◌≡◌, ap, ◌∙◌}
use lib.Dec.{eqb}
use borrow.Author.Tests.{ne_eqb}
use Rattle.aggregate.specs.declared.Config.{Config}
use Rattle.aggregate.specs.Aggregate.{root_of}
use Rattle.station.specs.declared.Station.{Station}
use Rattle.station.specs.Events.{finished}
use Rattle.stations.specs.Stations.{station_at}
use Rattle.stations.specs.Words.{config_in, stations_in}
use Rattle.schedule.specs.declared.Step.{Step}
use Rattle.rendezvous.specs.Figure.{may_step}
use Rattle.rendezvous.specs.Telling.{may_tell}
use Rattle.rendezvous.specs.Internal.Receivers.{may_tell_of}
use Rattle.rendezvous.proofs.figure.is_allowed.Goals as goal

-- what the code reads is what the words hold
same-tell : (s : Step) {t u : Config} {d e x v y w : Station} → t ≡ u → d ≡ e → x ≡ v → y ≡ w
    → may_tell_of t s.sender s.receiver (eqb d.state finished) x y ≡ may_tell_of u s.sender s.receiver (eqb e.state finished) v w
same-tell s e f g h = rw (e, f, g, h)

same_step : (s : Step) {t u : Config} {x v y w : Station} → t ≡ u → x ≡ v → y ≡ w
    → may_step t s.kind s.sender s.receiver x y ≡ may_step u s.kind s.sender s.receiver v w
same_step s e f g = rw (e, f, g)

pub returns-then-step-eq-TELL : goal.returns-then-step-eq-TELL
unfolding may_tell
returns-then-step-eq-TELL c kept =
    let words = c.args.net.now in
    let step = c.args.step in
    let low = c.requires.places in
    let desk : c.read-desk.result ≡ station_at (stations_in words) (root_of (config_in words)) =
    c.read-desk.ensures
    ∙ ap (station_at (stations_in words)) c.root.ensures
    ∙ ap (λ (t : Config). station_at (stations_in words) (root_of t)) c.requires.config in
    rw c.if-step-eq-TELL.true
    (c.may_tell.ensures
    ∙ same-tell step c.requires.config desk
    c.read-s.ensures
    c.read-r.ensures)

pub returns : goal.returns
returns c kept =
    let words = c.args.net.now in
    let step = c.args.step in
    let low = c.requires.places in
    rw (ne_eqb _ 5 c.if-step-eq-TELL.false)
    (c.may_step.ensures
    ∙ same_step step c.requires.config
    c.read-s.ensures
    c.read-r.ensures)
