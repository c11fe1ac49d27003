-- `list` of stations with mail meets its contract: who takes a message is found, and the rows are filled from it. Assumes nothing.
use Rattle.std.proofs.Common.{◌≡◌, ◌≤◌, ◌<◌, true, sym, ap, subst, ◌∙◌, arith}
use Rattle.aggregate.specs.declared.Config.{Config}
use Rattle.aggregate.specs.Aggregate.{root_of}
use Rattle.stations.proofs.Words.{length-stations}
use Rattle.mailbox.specs.Net.{net_of, well_formed}
use Rattle.mailbox.specs.Internal.Receivers.{takers_of, AnySender}
use Rattle.mailbox.proofs.Laws.{k_most, root-placed}
use Rattle.mailbox.proofs.Going.{held-told}
use Rattle.mailbox.proofs.kind.MailingKind.list.Goals as goal
use Rattle.mailbox.proofs.kind.MailingKind.list.Goals.{Else-not-is_well_formed}

formed : (c : Else-not-is_well_formed) → well_formed (net_of c.args.line.now c.args.boxes.now) ≡ true
formed c = sym c.is_well_formed.ensures ∙ c.if-not-is_well_formed.false

few : (c : Else-not-is_well_formed) {t : Config} → t ≡ (net_of c.args.line.now c.args.boxes.now).config → t.k ≤ 64
few c e = subst (λ (t : Config). t.k ≤ 64) (sym e) (k_most _ (formed c))

pub find_takers-takers-requires : goal.find_takers-takers-requires
find_takers-takers-requires c = few (goal.at.find_takers-takers-requires c).Else-not-is_well_formed c.config_in-t.ensures

pub root_reports-requires : goal.root_reports-requires
root_reports-requires c =
    let here = (goal.at.root_reports-requires c).Else-not-is_well_formed in
    subst (λ (t : Config). root_of t < 64) (sym c.config_in-t.ensures) (root-placed _ (formed here))

pub invariant_of-waiting : goal.invariant_of-waiting
invariant_of-waiting c = record { few = few (goal.at.invariant_of-waiting c).Else-not-is_well_formed c.config_in-t.ensures }

pub returns-clause-lists : goal.returns-clause-lists
returns-clause-lists c =
    let net = net_of c.args.line.now c.args.boxes.now in
    let config = c.config_in-t.ensures in
    λ _. record {
      long = omega arith;
      full = length-stations c.args.line.now;
      known = c.find_takers-takers.ensures ∙ ap (λ (t : Config). takers_of t.k net.stations) config;
      holds = held-told AnySender c.config_in-t.result c.find_takers-takers.result c.root_reports.result net.stations net.boxes
          config c.root_reports.ensures c.fill-l.ensures;
    }
