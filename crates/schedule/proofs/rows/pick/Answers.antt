-- `schedule::rows::pick` meets its contract: the total decides, and what is found. Assumes nothing.
use Rattle.std.proofs.Common.{◌≡◌, ℕ, ◌%◌, false, eqb, sym, ap, ◌∙◌, eq-eqb, ne_eqb}
use Rattle.schedule.specs.Rows.{total_of, entry_by_size, step_found, picked_by_size}
use Rattle.schedule.proofs.rows.pick.Goals as goal

pub returns-then-c-eq0 : goal.returns-then-c-eq0
unfolding picked_by_size
returns-then-c-eq0 c = rw (eq-eqb _ 0 (sym c.total-c.ensures ∙ c.if-c-eq0.true))

pub returns : goal.returns
unfolding picked_by_size
returns c =
    let a = c.args in
    let total = c.total-c.ensures in
    let some : eqb (total_of a.sizes) 0 ≡ false = ne_eqb _ 0 (λ z. c.if-c-eq0.false (total ∙ z)) in
    rw some
    (c.ok.ensures.value ∙ ap step_found (c.find.ensures ∙ ap (λ (n : ℕ). entry_by_size a.rows.now a.sizes a.k (a.d % n)) total))
