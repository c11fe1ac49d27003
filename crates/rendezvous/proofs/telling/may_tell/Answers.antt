-- `rendezvous::telling::may_tell` meets its contract: test by test. Assumes nothing.
use mathlib.Core.Path.{sym, ◌∙◌}
use borrow.Author.Tests.{eq-eqb, ne_eqb}
use Rattle.rendezvous.proofs.telling.may_tell.Goals as goal
use Rattle.rendezvous.proofs.telling.may_tell.Goals.{then-step-root, else-step-root}

pub returns : goal.returns
returns c =
    let root = c.root-root.ensures in
    elim c.if-step-root.branch [
      | then-step-root t ↦ rw (root, t.knows-is, eq-eqb _ _ (t.if-step-root.true ∙ root))
      | else-step-root t ↦ rw (root, t.knows-is, ne_eqb _ _ (λ e. t.if-step-root.false (e ∙ sym root)))
    ]
