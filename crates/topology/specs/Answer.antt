-- Answers by document 01's numbers ("Causes and numbers"): what is returned is a list, a number and then its values. Number 0,
-- which the table has not, stands for an answer that refuses nothing.
use Rattle.std.specs.Prelude.{Bool, false, List, [], ◌∷◌, ℕ, eqb}

-- nothing is refused, and there is no value to give
abbrev pub accepted : List ℕ
accepted = 0 ∷ []

-- number 0
abbrev pub is_accepted : List ℕ → Bool
is_accepted [] = false
is_accepted (number ∷ values) = eqb number 0
