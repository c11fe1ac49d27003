-- `in_range` of stations that meet meets its contract: what the code reads is what the words hold. Assumes nothing.
use Rattle.std.proofs.Common.{◌≡◌, ℕ, cond, eqb, ◌∙◌}
use Rattle.aggregate.specs.declared.Config.{Config}
use Rattle.aggregate.specs.Aggregate.{root_of}
use Rattle.schedule.specs.declared.Step.{Step}
use Rattle.schedule.specs.Rules.{step_in_range, in_range}
use Rattle.rendezvous.specs.Figure.{report}
use Rattle.rendezvous.specs.Telling.{tell}
use Rattle.rendezvous.proofs.kind.MeetingKind.is_in_range.Goals as goal

same : (s : Step) {t u : Config} {c d : ℕ} → t ≡ u → c ≡ d
    → step_in_range (cond (eqb c 1) tell report) report t.k (root_of t) s ≡ step_in_range (cond (eqb d 1) tell report) report u.k (root_of u) s
same s e f = rw (e, f)

pub returns : goal.returns
unfolding in_range
returns c = c.is_in_range.ensures ∙ same c.args.step c.config_in.ensures c.carrying_in.ensures
