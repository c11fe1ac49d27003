-- Openings, steps, draws and runs from C, of either kind of net (document 01, "Stations that meet" and "Stations with mail").
use Rattle.std.specs.Prelude.{Bool, cond, List, [], ◌∷◌, ℕ}
use Rattle.linemap.specs.Openings.{Opening}
use Rattle.schedule.specs.declared.Step.{Step}
use Rattle.schedule.specs.Outcome.{StepOutcome, RunOutcome}
use Rattle.capi.specs.declared.steps.Run.{Run}
use Rattle.capi.specs.Answers.{packed, Called, called}

-- "a map handed over goes 3, 7 to 10" (Causes and numbers), then 12 for the way (document 02, request 10), else the fresh net
abbrev pub fresh_call : {Net : Type 0} → Opening Net → Called ℕ Net
fresh_call o = called (packed o.numbers) o.net

-- the values that an accepted step or draw comes with: the step made
abbrev pub step_values : List Step → List ℕ
step_values [] = []
step_values (s ∷ l) = s.kind ∷ s.sender ∷ s.receiver ∷ []

-- a step or a draw: its number and the step made, packed, and the net that it leaves
abbrev pub step_call : {Net : Type 0} → StepOutcome Net → Called ℕ Net
step_call o = called (packed (o.number ∷ step_values o.made)) o.net

-- "it gives the net, the number of steps made and whether it is at rest"
abbrev pub run_of : ℕ → ℕ → Bool → Run
run_of number steps rest = record { answer = packed (number ∷ cond rest 1 0 ∷ []); steps = steps }

-- a run: its answer, and the net that it reached
abbrev pub run_call : {Net : Type 0} → RunOutcome Net → Called Run Net
run_call o = called (run_of o.number o.steps o.rest) o.net
