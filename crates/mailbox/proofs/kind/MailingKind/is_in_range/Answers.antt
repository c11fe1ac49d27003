-- `is_in_range` of stations with mail meets its contract: what the code tests is the rules' range. Assumes nothing.
use Rattle.std.proofs.Common.{ap, ◌∙◌}
use Rattle.aggregate.specs.declared.Config.{Config}
use Rattle.aggregate.specs.Aggregate.{root_of}
use Rattle.schedule.specs.Rules.{step_in_range, in_range}
use Rattle.mailbox.specs.Rules.{report}
use Rattle.mailbox.proofs.kind.MailingKind.is_in_range.Goals as goal

pub returns : goal.returns
unfolding in_range
returns c = c.is_in_range.ensures ∙ ap (λ (t : Config). step_in_range 2 report t.k (root_of t) c.args.step) c.config_in.ensures
