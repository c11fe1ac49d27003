-- `station::Process::take_answer` meets its contract: each return is one clause of `decide`, by the tests before it; in form what is held is
-- bounded, so the join's own test is that of the range. Assumes nothing.
use mathlib.Core.Path.{◌≡◌, refl, sym, ◌∙◌}
use mathlib.Core.Bool.{Bool, true, false, cond}
use borrow.Author.Tests.{eq-eqb, ne_eqb}
use Rattle.std.specs.Prelude.{Ok, Err}
use Rattle.finite.proofs.Cases.{by_bool}
use Rattle.aggregate.specs.declared.Aggregate.{Aggregate}
use Rattle.aggregate.specs.Aggregate.{bounded, joined, joinable}
use Rattle.station.specs.declared.Process.{Process}
use Rattle.station.specs.Events.{active}
use Rattle.station.specs.Form.{process_config, well_formed_process}
use Rattle.station.specs.Process.{decide, take_answer}
use Rattle.station.proofs.Formed.{facts}
use Rattle.station.proofs.Laws.{station_formed}
use Rattle.station.proofs.Process.take_answer.Goals as goal

-- the join's own test
tested : (v : Aggregate) (p : Process) → well_formed_process p ≡ true
    → joinable (process_config p) p.station.held v ≡ bounded (process_config p) v
tested v p formed = rw (facts (process_config p) p.own p.station (station_formed p formed)).held-bounded

-- what a join gave, where it gave something
given : (b : Bool) (x y z : Aggregate) → cond b (Ok x) (Err z) ≡ Ok y → (b ≡ true) × (y ≡ x)
given true x y z e = (refl, cc)
given false x y z e = cc

pub returns-then-not-is_well_formed : goal.returns-then-not-is_well_formed
unfolding take_answer decide
returns-then-not-is_well_formed c = rw (sym c.is_well_formed.ensures ∙ c.if-not-is_well_formed.true) c.refused.ensures

pub returns-in_default : goal.returns-in_default
unfolding take_answer decide
returns-in_default c =
    let p = c.args.self in
    let t = process_config p in
    let formed = sym c.is_well_formed.ensures ∙ c.if-not-is_well_formed.false in
    let both = joined t p.station.held c.args.v in
    let test : joinable t p.station.held c.args.v ≡ false =
    by_bool (joinable t p.station.held c.args.v) (λ e. absurd (c.in_default.not-Ok both (rw c.config.ensures at c.join.ensures ∙ rw e))) (λ e. e) in
    rw (formed, sym (tested c.args.v p formed) ∙ test) c.refused-in_default.ensures

pub returns-then-s-ne-ACTIVE : goal.returns-then-s-ne-ACTIVE
unfolding take_answer decide
returns-then-s-ne-ACTIVE c =
    let p = c.args.self in
    let formed = sym c.is_well_formed.ensures ∙ c.if-not-is_well_formed.false in
    let both = given _ _ _ _ (sym (rw c.config.ensures at c.join.ensures) ∙ c.in-Ok.is) in
    rw (formed, sym (tested c.args.v p formed) ∙ both.0, ne_eqb _ active c.if-s-ne-ACTIVE.true) c.refused-then-s-ne-ACTIVE.ensures

pub returns : goal.returns
unfolding take_answer decide
returns c =
    let p = c.args.self in
    let formed = sym c.is_well_formed.ensures ∙ c.if-not-is_well_formed.false in
    let both = given _ _ _ _ (sym (rw c.config.ensures at c.join.ensures) ∙ c.in-Ok.is) in
    rw (formed, sym (tested c.args.v p formed) ∙ both.0, eq-eqb _ active c.if-s-ne-ACTIVE.false) (rw (c.holding.ensures, both.1) at c.done.ensures)
