-- `mailbox::make` meets its contract: the receiver is read, and stored after the step. Assumes nothing.
use mathlib.Core.Path.{◌≡◌, ◌∙◌, ap₂}
use mathlib.Core.Bool.{true}
use mathlib.Core.List.{List}
use Prim.Native.Nat.{ℕ, ◌<◌}
use Rattle.aggregate.specs.declared.Config.{Config}
use Rattle.aggregate.specs.Aggregate.{bounded}
use Rattle.station.specs.declared.Station.{Station}
use Rattle.stations.proofs.Words.{station_read_lem}
use Rattle.schedule.specs.declared.Step.{Step}
use Rattle.mail.specs.Mail.{mailbox_bounded, box_at, brought_at}
use Rattle.mailbox.specs.Net.{Net}
use Rattle.mailbox.specs.Rules.{delivery}
use Rattle.mailbox.specs.Internal.Receivers.{receiver_made, boxes_made}
use Rattle.mailbox.proofs.make.Goals as goal

-- what the code reads is what the words hold
same_asked : (boxes : List ℕ) (s : Step) {t u : Config} {r w : Station} → t ≡ u → r ≡ w
    → ((s.sender < 64) × ((s.receiver < 64) × (w.parent < 64)))
    × ((bounded u w.held ≡ true)
    × (s.kind ≡ delivery → mailbox_bounded u (box_at boxes s.sender s.receiver) (brought_at u boxes s.sender s.receiver) ≡ true))
    → ((s.sender < 64) × ((s.receiver < 64) × (r.parent < 64)))
    × ((bounded t r.held ≡ true)
    × (s.kind ≡ delivery → mailbox_bounded t (box_at boxes s.sender s.receiver) (brought_at t boxes s.sender s.receiver) ≡ true))
same_asked boxes s e f h = rw (e, f) h

parts : {t u : Config} {l m : List Station} {a b : List ℕ} → t ≡ u → l ≡ m → a ≡ b
    → ◌≡◌ {A = Net} (record { config = t; stations = l; boxes = a }) (record { config = u; stations = m; boxes = b })
parts e f g = rw (e, f, g)

pub receive-next-requires : goal.receive-next-requires
receive-next-requires c =
    let words = c.args.line.now in
    let asked = same_asked c.args.boxes.now c.args.step c.requires.config
    (c.load-receiver.ensures ∙ station_read_lem words c.args.step.receiver c.requires.places.1.0) (c.requires.places, c.requires.sums) in
    record { places = asked.0; sums = asked.1 }

pub returns : goal.returns
returns c =
    let words = c.args.line.now in
    let step = c.args.step in
    let boxes = c.args.boxes.now in
    let read = c.load-receiver.ensures ∙ station_read_lem words step.receiver c.requires.places.1.0 in
    let received = c.receive-next.ensures in
    let stored = c.store.ensures in record {
      made = record {
        next-is = received.receiver ∙ ap₂ (λ (t : Config) (s : Station). receiver_made t boxes step s) c.requires.config read;
        after_is = parts stored.config stored.stations
            (received.boxes ∙ ap₂ (λ (t : Config) (s : Station). boxes_made t boxes step s) c.requires.config read);
      };
      spare = stored.spare;
    }
