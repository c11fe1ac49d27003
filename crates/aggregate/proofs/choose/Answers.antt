-- `aggregate::choose` meets its contract: none by cases, and of two counts the way's choice. Assumes nothing.
use mathlib.Core.Path.{sym, ◌∙◌}
use Prim.Native.Nat.{ℕ, min, max}
use mathlib.Core.Bool.{cond}
use lib.Dec.{eqb}
use borrow.Author.Tests.{eq-eqb, ne_eqb}
use Rattle.aggregate.specs.Ways.{greatest}
use Rattle.aggregate.proofs.Joining.{chosen-second, chosen-first, chosen_both}
use Rattle.aggregate.proofs.choose.Goals as goal

-- the choice of a way
abbrev choice : ℕ → ℕ → ℕ → ℕ
choice way = cond (eqb way greatest) max min

pub returns-then-x-eq-NONE : goal.returns-then-x-eq-NONE
returns-then-x-eq-NONE c = let a = c.args in sym (chosen-second (choice a.way) a.x a.y c.if-x-eq-NONE.true)

pub returns-then-y-eq-NONE : goal.returns-then-y-eq-NONE
returns-then-y-eq-NONE c = let a = c.args in sym (chosen-first (choice a.way) a.x a.y c.if-y-eq-NONE.true)

pub returns-then-way-eq-GREATEST : goal.returns-then-way-eq-GREATEST
returns-then-way-eq-GREATEST c =
    let a = c.args in
    c.max.ensures ∙ sym (chosen_both (choice a.way) a.x a.y c.if-x-eq-NONE.false c.if-y-eq-NONE.false ∙ rw (eq-eqb _ greatest c.if-way-eq-GREATEST.true))

pub returns-else-way-eq-GREATEST : goal.returns-else-way-eq-GREATEST
returns-else-way-eq-GREATEST c =
    let a = c.args in
    c.min.ensures ∙ sym (chosen_both (choice a.way) a.x a.y c.if-x-eq-NONE.false c.if-y-eq-NONE.false ∙ rw (ne_eqb _ greatest c.if-way-eq-GREATEST.false))
