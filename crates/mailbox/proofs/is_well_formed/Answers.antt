-- `mailbox::is_well_formed` meets its contract: both parts of the form, and k is in its bounds where the second is tested. Assumes nothing.
use mathlib.Core.Path.{sym, ◌∙◌, ap, subst}
use Prim.Native.Nat.{◌≤◌}
use Rattle.aggregate.specs.declared.Config.{Config}
use Rattle.aggregate.proofs.Laws.{valid-k}
use Rattle.stations.proofs.Laws.{config_valid}
use Rattle.mailbox.specs.Net.{are_bounded, well_formed}
use Rattle.mailbox.proofs.is_well_formed.Goals as goal

pub returns-then-not-are_well_formed : goal.returns-then-not-are_well_formed
unfolding well_formed
returns-then-not-are_well_formed c = rw (sym c.are_well_formed.ensures ∙ c.if-not-are_well_formed.true)

pub are_bounded-requires : goal.are_bounded-requires
are_bounded-requires c =
    let most = (valid-k _ (config_valid _ _ (sym c.are_well_formed.ensures ∙ c.if-not-are_well_formed.false))).1 in
    subst (λ (t : Config). t.k ≤ 64) (sym c.config_in-t.ensures) most

pub returns : goal.returns
unfolding well_formed
returns c =
    rw (sym c.are_well_formed.ensures ∙ c.if-not-are_well_formed.false)
    (c.are_bounded.ensures ∙ ap (λ (t : Config). are_bounded t c.args.boxes.now) c.config_in-t.ensures)
