-- `advance` of stations that meet meets its contract: an allowed step, as the code makes it, is the rules', only its receiver can leave the form, and
-- what is known of its two stations and of the rows is found anew. Assumes nothing.
use Rattle.std.proofs.Common.{◌<◌, sym, ◌∙◌}
use Rattle.schedule.proofs.Answers.{allowed_parts}
use Rattle.rendezvous.specs.Rules.{rules}
use Rattle.rendezvous.proofs.Laws.{places, sums-joinable}
use Rattle.rendezvous.proofs.Going.{made-is, read, both_low, decides, agree, others_hold, lists_further}
use Rattle.rendezvous.proofs.kind.MeetingKind.advance.Goals as goal
use Rattle.rendezvous.proofs.kind.MeetingKind.advance.Goals.{Start}

low : (c : Start) → (c.args.step.sender < 64) × (c.args.step.receiver < 64)
low c = places _ c.requires.formed c.args.step (allowed_parts rules _ _ c.requires.may).0

pub make-requires-clause-places : goal.make-requires-clause-places
make-requires-clause-places c = low (goal.at.make-requires-clause-places c).Start

pub make-requires-clause-joins : goal.make-requires-clause-joins
make-requires-clause-joins c = sums-joinable _ c.requires.formed c.args.step (allowed_parts rules _ _ c.requires.may).0

pub renew-sent-requires : goal.renew-sent-requires
renew-sent-requires c = (low (goal.at.renew-sent-requires c).Start).0

pub renew-states-requires : goal.renew-states-requires
renew-states-requires c = (low (goal.at.renew-states-requires c).Start).1

pub keeps_form-requires : goal.keeps_form-requires
keeps_form-requires c = (low (goal.at.keeps_form-requires c).Start).1

pub returns-then-not-keeps_form-clause-made : goal.returns-then-not-keeps_form-clause-made
returns-then-not-keeps_form-clause-made c = c.make.ensures.made ∙ made-is _ c.args.step c.requires.may

pub returns-then-not-keeps_form-clause-formed : goal.returns-then-not-keeps_form-clause-formed
returns-then-not-keeps_form-clause-formed c =
    sym (decides c.requires.lists c.requires.formed c.config_in-t.ensures c.args.step c.requires.may c.make.ensures.made
    ∙ sym c.keeps_form.ensures ∙ c.if-not-keeps_form.true)

pub invariant_of-follow : goal.invariant_of-follow
invariant_of-follow c = record { few = (read c.args.net.now c.args.totals.now c.requires.formed c.config_in-t.ensures).few }

pub follow-l-requires-clause-places : goal.follow-l-requires-clause-places
follow-l-requires-clause-places c = both_low c.requires.lists c.requires.formed c.config_in-t.ensures c.args.step c.requires.may

pub follow-l-requires-clause-states : goal.follow-l-requires-clause-states
follow-l-requires-clause-states c =
    agree c.requires.lists c.requires.formed c.config_in-t.ensures c.args.step c.requires.may c.make.ensures.made c.renew-sent.ensures c.renew-states.ensures

pub follow-l-requires-clause-rows : goal.follow-l-requires-clause-rows
follow-l-requires-clause-rows c =
    others_hold c.requires.lists c.requires.formed c.config_in-t.ensures c.args.step c.requires.may c.make.ensures.made c.renew-sent.ensures c.renew-states.ensures

pub returns-clause-made : goal.returns-clause-made
returns-clause-made c = c.make.ensures.made ∙ made-is _ c.args.step c.requires.may

pub returns-clause-formed : goal.returns-clause-formed
returns-clause-formed c =
    sym (decides c.requires.lists c.requires.formed c.config_in-t.ensures c.args.step c.requires.may c.make.ensures.made
    ∙ sym c.keeps_form.ensures ∙ c.if-not-keeps_form.false)

pub returns-clause-lists : goal.returns-clause-lists
returns-clause-lists c =
    λ _. lists_further c.requires.lists c.requires.formed c.config_in-t.ensures c.args.step c.requires.may c.make.ensures.made
    c.renew-sent.ensures c.renew-states.ensures c.follow-l.ensures
