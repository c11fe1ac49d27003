-- `make` of stations that meet meets its contract: an allowed step, as the code makes it, is the rules'. Assumes nothing.
use Rattle.std.proofs.Common.{◌∙◌}
use Rattle.schedule.proofs.Answers.{allowed_parts}
use Rattle.rendezvous.specs.Rules.{rules}
use Rattle.rendezvous.proofs.Laws.{places, sums-joinable}
use Rattle.rendezvous.proofs.Going.{made-is}
use Rattle.rendezvous.proofs.kind.MeetingKind.make.Goals as goal

pub make-requires-clause-places : goal.make-requires-clause-places
make-requires-clause-places c = places _ c.requires.formed c.args.step (allowed_parts rules _ _ c.requires.may).0

pub make-requires-clause-joins : goal.make-requires-clause-joins
make-requires-clause-joins c = sums-joinable _ c.requires.formed c.args.step (allowed_parts rules _ _ c.requires.may).0

pub returns-clause-made : goal.returns-clause-made
returns-clause-made c = c.make.ensures.made ∙ made-is _ c.args.step c.requires.may
