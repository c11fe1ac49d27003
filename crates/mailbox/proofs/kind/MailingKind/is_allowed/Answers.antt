-- `is_allowed` of stations with mail meets its contract: in a net in form a step in range names places. Assumes nothing.
use Rattle.stations.proofs.Words.{station_read_lem}
use Rattle.mail.proofs.Guards.{box_read_lem}
use Rattle.mailbox.proofs.Laws.{places}
use Rattle.mailbox.proofs.kind.MailingKind.is_allowed.Goals as goal

pub returns : goal.returns
returns c =
    let low = places _ c.requires.formed c.args.step c.requires.ranged in
    rw (
      ← box_read_lem c.args.boxes.now _ low.0 _ low.1,
      ← c.box_at.ensures,
      ← station_read_lem c.args.line.now _ low.1,
      ← c.load-receiver.ensures,
    ) c.may_step.ensures
