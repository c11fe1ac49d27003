-- What a single step, a draw and a run come to: document 01's number (0 is no refusal), the values given with it, and the net.
use Rattle.std.specs.Prelude.{ℕ, Bool, List, [], ◌∷◌, Result, Ok, Err}
use Rattle.refusal.specs.declared.Refusal.{Refusal}
use Rattle.refusal.specs.Refusal.{number_of}
use Rattle.schedule.specs.declared.Step.{Step}
use Rattle.schedule.specs.declared.Ran.{Ran}

-- a single step or a draw: the step made stands in `made`, and nothing where it is refused
pub record StepOutcome (Net : Type 0) : Type 0 where
  pub number : ℕ
  pub made : List Step
  pub net : Net

-- a step that was made; 0 is no number of document 01's
abbrev pub step_made : {Net : Type 0} → Step → Net → StepOutcome Net
step_made s net = record { number = 0; made = s ∷ []; net = net }

-- a refusal leaves the net as it was (Causes and numbers)
abbrev pub step_refused : {Net : Type 0} → Refusal → Net → StepOutcome Net
step_refused r net = record { number = number_of r; made = []; net = net }

-- the number and the values of each answer, with the net beside it
abbrev pub step_outcome_of : {Net : Type 0} → Result Step Refusal → Net → StepOutcome Net
step_outcome_of (Ok s) net = step_made s net
step_outcome_of (Err r) net = step_refused r net

-- a run: "it gives the net, the number of steps made and whether it is at rest" (Stations that meet), or number 11 with net and steps
pub record RunOutcome (Net : Type 0) : Type 0 where
  pub number : ℕ
  pub steps : ℕ
  pub rest : Bool
  pub net : Net

-- the number of each answer of a run
abbrev pub run_number_of : Result (Unit {0}) Refusal → ℕ
run_number_of (Ok u) = 0
run_number_of (Err r) = number_of r

-- what a run gives, with the net beside it
abbrev pub run_outcome_of : {Net : Type 0} → Ran → Net → RunOutcome Net
run_outcome_of ran net = record { number = run_number_of ran.answer; steps = ran.steps; rest = ran.at_rest; net = net }
