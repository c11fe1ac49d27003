-- `rendezvous::telling::keep_total` meets its contract: by the kind and the sender. Assumes nothing.
use mathlib.Core.Path.{◌≡◌, sym, ap, ◌∙◌}
use mathlib.Core.Bool.{cond}
use lib.Dec.{eqb}
use lib.ListN.{set}
use borrow.Author.Tests.{ne_eqb, eq-eqb}
use Rattle.aggregate.specs.declared.Aggregate.{Aggregate}
use Rattle.aggregate.specs.Aggregate.{root_of, clipped}
use Rattle.stations.specs.Kept.{kept_in, kept_read}
use Rattle.rendezvous.proofs.telling.keep_total.Goals as goal
use Rattle.rendezvous.proofs.telling.keep_total.Goals.{then-step-root, else-step-root}

pub returns-after-step-root : goal.returns-after-step-root
returns-after-step-root c =
    let a = c.args in
    let root = c.root.ensures in
    -- what the sender knows
    let knows : c.if-step-root.known ≡ cond (eqb a.step.sender (root_of a.t)) a.s.held (kept_read a.totals.now a.step.sender) = elim c.if-step-root.branch [
      | then-step-root t ↦ rw (eq-eqb _ _ (t.if-step-root.true ∙ root)) t.known-is
      | else-step-root t ↦ rw (ne_eqb _ _ (λ e. t.if-step-root.false (e ∙ sym root))) (t.known-is ∙ t.load_kept-known.ensures)
    ] in
    rw c.if-step-eq-TELL.true
    (c.store_kept.ensures.kept
    ∙ ap (λ (v : Aggregate). set (kept_in a.totals.now) a.step.receiver v)
    (c.clip-given.ensures ∙ ap (clipped a.t) knows))
