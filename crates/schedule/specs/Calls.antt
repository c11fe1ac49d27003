-- Lists of calls on one net (document 01, "Lists of calls"): "steps, draws and runs on one net, mixed, with any arguments, accepted or refused".
use Rattle.std.specs.Prelude.{ℕ, List, [], ◌∷◌, ◌++◌}
use Rattle.schedule.specs.declared.Step.{Step}
use Rattle.schedule.specs.Rules.{Rules}
use Rattle.schedule.specs.Draws.{step_on, draw_on, run_made, run_on}

-- "A list holds steps, draws and runs on one net" (Lists of calls)
pub data Call : Type 0 where
  single : Step → Call
  draw : ℕ → Call
  run : List ℕ → Call

module _ {Net : Type 0} (R : Rules Net) where
  -- "The steps made, in order, are each accepted step, the entry each accepted draw picked, and, for each run, the entries its draws
  -- picked, as many as the number it gives. A refused step or draw makes none."
  unfoldable pub call_made : Net → Call → List Step
  call_made net (single s) = (step_on R net s).made
  call_made net (draw d) = (draw_on R net d).made
  call_made net (run ds) = run_made R net ds

  -- the net that a call returns, or leaves when it refuses
  unfoldable pub call_net : Net → Call → Net
  call_net net (single s) = (step_on R net s).net
  call_net net (draw d) = (draw_on R net d).net
  call_net net (run ds) = (run_on R net ds).net

  -- "Each call gets the net that the last one returned, or left when it refused"
  unfoldable pub calls_made : Net → List Call → List Step
  calls_made net [] = []
  calls_made net (c ∷ cs) = call_made net c ++ calls_made (call_net net c) cs

  -- the net that the list leaves
  unfoldable pub calls_net : Net → List Call → Net
  calls_net net [] = net
  calls_net net (c ∷ cs) = calls_net (call_net net c) cs
