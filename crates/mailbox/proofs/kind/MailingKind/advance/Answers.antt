-- `advance` of stations with mail meets its contract: an allowed step, as the code makes it, is the rules', only what its receiver has gathered can
-- leave the form, and who takes a message and the rows are found anew. Assumes nothing.
use Rattle.std.proofs.Common.{sym, ◌∙◌}
use Rattle.mailbox.proofs.FormAfter.{step_receives}
use Rattle.mailbox.proofs.Going.{made-is, few-told, root-low, both_low, decides, others-held, lists_further}
use Rattle.mailbox.proofs.kind.MailingKind.advance.Goals as goal

pub make-next-requires-clause-places : goal.make-next-requires-clause-places
make-next-requires-clause-places c = (step_receives _ c.args.step c.requires.formed c.requires.may).0

pub make-next-requires-clause-sums : goal.make-next-requires-clause-sums
make-next-requires-clause-sums c = (step_receives _ c.args.step c.requires.formed c.requires.may).1

pub returns-then-not-is_bounded-clause-made : goal.returns-then-not-is_bounded-clause-made
returns-then-not-is_bounded-clause-made c = made-is _ c.args.step c.make-next.ensures.made

pub returns-then-not-is_bounded-clause-formed : goal.returns-then-not-is_bounded-clause-formed
returns-then-not-is_bounded-clause-formed c =
    sym (decides c.requires.lists c.requires.formed c.config_in-t.ensures c.args.step c.requires.may c.make-next.ensures.made
    ∙ sym c.is_bounded.ensures ∙ c.if-not-is_bounded.true)

pub root_reports-requires : goal.root_reports-requires
root_reports-requires c = root-low c.requires.lists c.requires.formed c.config_in-t.ensures

pub invariant_of-waiting : goal.invariant_of-waiting
invariant_of-waiting c = record { few = few-told c.requires.lists c.requires.formed c.config_in-t.ensures }

pub follow-l-requires-clause-places : goal.follow-l-requires-clause-places
follow-l-requires-clause-places c = both_low c.requires.lists c.requires.formed c.config_in-t.ensures c.args.step c.requires.may

pub follow-l-requires-clause-rows : goal.follow-l-requires-clause-rows
follow-l-requires-clause-rows c =
    others-held c.requires.lists c.requires.formed c.config_in-t.ensures c.args.step c.requires.may c.make-next.ensures.made c.root_reports.ensures

pub returns-clause-made : goal.returns-clause-made
returns-clause-made c = made-is _ c.args.step c.make-next.ensures.made

pub returns-clause-formed : goal.returns-clause-formed
returns-clause-formed c =
    sym (decides c.requires.lists c.requires.formed c.config_in-t.ensures c.args.step c.requires.may c.make-next.ensures.made
    ∙ sym c.is_bounded.ensures ∙ c.if-not-is_bounded.false)

pub returns-clause-lists : goal.returns-clause-lists
returns-clause-lists c =
    λ _. lists_further c.requires.lists c.requires.formed c.config_in-t.ensures c.args.step c.requires.may c.make-next.ensures.made
    c.root_reports.ensures c.retake-takers.ensures c.follow-l.ensures
