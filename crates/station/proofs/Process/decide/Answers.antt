-- `station::Process::decide` meets its contract: each return is one clause of the definition, by the tests before it. Assumes nothing.
use mathlib.Core.Path.{refl, sym, ◌∙◌}
use Rattle.station.specs.Process.{decide}
use Rattle.station.proofs.Process.decide.Goals as goal

pub returns-then-not-is_well_formed-clause-refused : goal.returns-then-not-is_well_formed-clause-refused
unfolding decide
returns-then-not-is_well_formed-clause-refused c = λ o. rw (sym c.is_well_formed.ensures ∙ c.if-not-is_well_formed.true) refl

pub returns-then-not-range-clause-refused : goal.returns-then-not-range-clause-refused
unfolding decide
returns-then-not-range-clause-refused c = λ o. rw (sym c.is_well_formed.ensures ∙ c.if-not-is_well_formed.false, c.if-not-range.true) refl

pub returns-then-not-allowed-clause-refused : goal.returns-then-not-allowed-clause-refused
unfolding decide
returns-then-not-allowed-clause-refused c =
    λ o. rw (sym c.is_well_formed.ensures ∙ c.if-not-is_well_formed.false, c.if-not-range.false, c.if-not-allowed.true) refl

pub returns-clause-accepted : goal.returns-clause-accepted
unfolding decide
returns-clause-accepted c =
    λ o. rw (sym c.is_well_formed.ensures ∙ c.if-not-is_well_formed.false, c.if-not-range.false, c.if-not-allowed.false) refl
