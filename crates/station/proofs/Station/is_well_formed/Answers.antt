-- `station::Station::is_well_formed` meets its contract: the tests are the definition's, in its order; one that fails is enough, and where all hold
-- the last decides. Assumes nothing.
use mathlib.Core.Path.{sym, ◌∙◌}
use mathlib.Core.Bool.{and-false}
use borrow.Author.Tests.{le-leb, lt-leb, lt-ltb, le-ltb}
use Rattle.station.specs.Form.{well_formed}
use Rattle.station.proofs.Station.is_well_formed.Goals as goal

pub returns-then-self-gt-FINISHED : goal.returns-then-self-gt-FINISHED
unfolding well_formed
returns-then-self-gt-FINISHED c = rw (lt-leb _ _ c.if-self-gt-FINISHED.true)

pub returns-then-t-self : goal.returns-then-t-self
unfolding well_formed
returns-then-t-self c = simp (le-ltb _ _ c.if-t-self.true, and-false)

pub returns-then-not-is_within : goal.returns-then-not-is_within
unfolding well_formed
returns-then-not-is_within c = simp (sym c.is_within.ensures ∙ c.if-not-is_within.true, and-false)

pub returns-then-self-gt64 : goal.returns-then-self-gt64
unfolding well_formed
returns-then-self-gt64 c = simp (lt-leb _ _ c.if-self-gt64.true, and-false)

pub returns-then-not-is_bounded : goal.returns-then-not-is_bounded
unfolding well_formed
returns-then-not-is_bounded c = simp (sym c.is_bounded.ensures ∙ c.if-not-is_bounded.true, and-false)

pub returns-then-contains : goal.returns-then-contains
unfolding well_formed
returns-then-contains c = simp (sym c.contains.ensures ∙ c.if-contains.true, and-false)

pub returns : goal.returns
unfolding well_formed
returns c =
    rw (
      c.root.ensures,
      le-leb _ _ c.if-self-gt-FINISHED.false,
      lt-ltb _ _ c.if-t-self.false,
      sym c.is_within.ensures ∙ c.if-not-is_within.false,
      le-leb _ _ c.if-self-gt64.false,
      sym c.is_bounded.ensures ∙ c.if-not-is_bounded.false,
      sym c.contains.ensures ∙ c.if-contains.false,
    )
