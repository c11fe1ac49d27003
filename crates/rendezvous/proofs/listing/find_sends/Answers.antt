-- `rendezvous::listing::find_sends` meets its contract: its calls' own; a station that is not active sends nothing. Assumes nothing.
use borrow.Author.Tests.{eq-eqb}
use Rattle.rendezvous.specs.Internal.Receivers.{startable, answerable}
use Rattle.rendezvous.proofs.RowSets.{idle_sends}
use Rattle.rendezvous.proofs.listing.find_sends.Goals as goal

pub returns-then-s-eq-ACTIVE : goal.returns-then-s-eq-ACTIVE
unfolding startable answerable
returns-then-s-eq-ACTIVE c =
    rw (
      c.bit_if-then-s-eq-ACTIVE.ensures,
      c.may_report.ensures,
      c.bit_if.ensures,
      c.may_answer.ensures,
      c.without.ensures,
      eq-eqb _ 1 c.if-s-eq-ACTIVE.true,
    )

pub returns : goal.returns
returns c = idle_sends _ _ _ c.if-s-eq-ACTIVE.false
