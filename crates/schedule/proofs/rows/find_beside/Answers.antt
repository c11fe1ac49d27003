-- `schedule::rows::find_beside` meets its contract: the total decides where it is looked for. Assumes nothing.
use Rattle.std.proofs.Common.{ℕ, ◌<◌, sym, ap, ◌∙◌, subst, le-ltb}
use Rattle.schedule.specs.Rows.{step_found, entry_beside}
use Rattle.schedule.proofs.Beside.{picked_low}
use Rattle.schedule.proofs.rows.find_beside.Goals as goal

pub returns-then-index-before : goal.returns-then-index-before
returns-then-index-before c =
    let a = c.args in
    let low = subst (λ (n : ℕ). a.index < n) c.total-before.ensures c.if-index-before.true in
    c.pick.ensures ∙ picked_low a.rows.now a.sizes a.more.now a.k a.index low

pub returns : goal.returns
unfolding entry_beside
returns c = rw (sym c.total-before.ensures, le-ltb _ _ c.if-index-before.false) (c.ok.ensures.value ∙ ap step_found c.find_of_kind.ensures)
