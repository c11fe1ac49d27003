-- `is_allowed` of stations that meet meets its contract: in a net in form a step in range names places. Assumes nothing.
use Rattle.std.proofs.Common.{◌<◌, sym, subst}
use Rattle.aggregate.specs.declared.Config.{Config}
use Rattle.aggregate.specs.Aggregate.{root_of}
use Rattle.rendezvous.proofs.Laws.{root_most, places}
use Rattle.rendezvous.proofs.kind.MeetingKind.is_allowed.Goals as goal

pub is_allowed-requires-clause-places : goal.is_allowed-requires-clause-places
is_allowed-requires-clause-places c =
    let low = places _ c.requires.formed c.args.step c.requires.ranged in
    (low.0, low.1, subst (λ (t : Config). root_of t < 64) (sym c.config_in.ensures) (root_most _ c.requires.formed))
