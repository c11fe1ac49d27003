-- What a call from C comes to: its answer, and what it leaves in the record or the bytes that it was lent.
use Rattle.std.specs.Prelude.{List, [], ◌∷◌, ℕ, ◌+◌, ◌*◌}
use Rattle.topology.specs.Answer.{is_accepted}
use Rattle.finite.specs.Tests.{unless}

-- document 01's number and its values ("Causes and numbers") as one number: its digits in base 256, the first lowest; only the last may be
-- 256 or more
abbrev pub packed : List ℕ → ℕ
packed [] = 0
packed (v ∷ vs) = v + 256 * packed vs

-- what a call comes to: its answer, and what it leaves in what it was lent (Causes and numbers, "Returned", "Left as it was")
pub record Called (Answer Lent : Type 0) : Type 0 where
  pub answer : Answer
  pub left : Lent

-- the two together
abbrev pub called : {Answer Lent : Type 0} → Answer → Lent → Called Answer Lent
called a x = record { answer = a; left = x }

-- a call that gives `after` where it refuses nothing, and else leaves what it was lent
abbrev pub replacing : {Lent : Type 0} → List ℕ → Lent → Lent → Called ℕ Lent
replacing numbers before after = called (packed numbers) (unless (is_accepted numbers) before after)
