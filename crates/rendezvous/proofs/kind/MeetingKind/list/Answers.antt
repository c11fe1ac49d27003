-- `list` of stations that meet meets its contract: what the survey finds, and the rows that are filled from it. Assumes nothing.
use Rattle.stations.proofs.Words.{length-stations}
use Rattle.rendezvous.proofs.Going.{read, held-told}
use Rattle.rendezvous.proofs.kind.MeetingKind.list.Goals as goal

pub invariant_of-fill : goal.invariant_of-fill
invariant_of-fill c = record { few = (read c.args.net.now c.args.totals.now c.in-Some.ensures.form c.config_in-k.ensures).few }

pub returns-clause-lists : goal.returns-clause-lists
returns-clause-lists c =
    let found = c.in-Some.ensures in
    λ _. record {
      sends_are = found.sends_are;
      states_are = found.states_are;
      full = length-stations c.args.net.now;
      held = held-told c.config_in-k.ensures c.fill-l.ensures;
    }
