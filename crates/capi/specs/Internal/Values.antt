-- Numbers with their values, as parts of the code hand them on.
use Rattle.std.specs.Prelude.{List, ◌∷◌, ℕ, get_or, Option, Result}
use Rattle.refusal.specs.declared.Refusal.{Refusal}
use Rattle.station.specs.declared.Gives.{Gives}
use Rattle.station.specs.Process.{number_and_values, given_of}
use Rattle.schedule.specs.declared.Step.{Step}
use Rattle.schedule.specs.Outcome.{step_outcome_of}
use Rattle.capi.specs.declared.process.Given.{Given}
use Rattle.capi.specs.Answers.{packed}
use Rattle.capi.specs.Steps.{step_values}

-- the value that stands after a number
abbrev pub value_of : List ℕ → ℕ
value_of numbers = get_or numbers 1 0

-- the number and the values of an answer, whatever the net
abbrev pub answer_numbers : Result Step Refusal → List ℕ
answer_numbers a = (step_outcome_of {Net = Unit {0}} a tt).number ∷ step_values (step_outcome_of {Net = Unit {0}} a tt).made

-- the number of a reply, and what is given with it
abbrev pub reply_given : Result (Option Gives) Refusal → Given
reply_given r = record { answer = packed ((number_and_values r).0 ∷ (number_and_values r).1); held = given_of r }
