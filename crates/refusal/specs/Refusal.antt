-- The refusals of a station or a net and their numbers (document 01, "Causes and numbers"). A number stands nowhere else.
use Rattle.std.specs.Prelude.{ℕ}
use Rattle.refusal.specs.declared.Refusal.{Refusal}
use Rattle.refusal.specs.declared.Refusal.TheVariants.{OutOfForm, OutOfRange, NotAllowed, NothingAllowed}

-- the number of each refusal, in the table's order
abbrev pub number_of : Refusal → ℕ
number_of OutOfForm = 11
number_of OutOfRange = 12
number_of NotAllowed = 13
number_of NothingAllowed = 14
