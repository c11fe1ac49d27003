-- Single steps, draws and runs (document 01, "Stations that meet" and "Causes and numbers"), over every kind of net.
use Rattle.std.specs.Prelude.{ℕ, ◌%◌, false, List, [], ◌∷◌, length, slice_index_or, Option, Some, None}
use Rattle.finite.specs.Tests.{unless}
use Rattle.refusal.specs.Refusal.{number_of}
use Rattle.refusal.specs.declared.Refusal.TheVariants.{OutOfForm, OutOfRange, NotAllowed, NothingAllowed}
use Rattle.schedule.specs.declared.Step.{Step}
use Rattle.schedule.specs.Rules.{Rules, in_range}
use Rattle.schedule.specs.Listing.{listed, quiescent}
use Rattle.schedule.specs.Outcome.{StepOutcome, step_made, step_refused, RunOutcome}

-- goes on with the step made, or stops where none was
abbrev pub onward : {A : Type 0} → List Step → A → (Step → A) → A
onward [] stop go = stop
onward (s ∷ l) stop go = go s

-- "A draw d (16 bits) picks entry d mod c, counted from 0, of the c allowed steps" (Stations that meet)
unfoldable pub picked : List Step → ℕ → Option Step
picked [] d = None
picked (s ∷ l) d = Some (slice_index_or (s ∷ l) (d % length (s ∷ l)) s)

module _ {Net : Type 0} (R : Rules Net) where
  -- "a step goes 11, 12, 13" (Causes and numbers)
  unfoldable pub step_on : Net → Step → StepOutcome Net
  step_on net s =
      unless (R.well_formed net) (step_refused OutOfForm net)
      (unless (in_range R net s) (step_refused OutOfRange net)
      (unless (R.guard net s) (step_refused NotAllowed net)
      (step_made s (R.apply net s))))

  -- the step that was picked is made; "draw with nothing allowed" (Causes and numbers) makes none
  abbrev pub draw_from : Net → Option Step → StepOutcome Net
  draw_from net None = step_refused NothingAllowed net
  draw_from net (Some s) = step_made s (R.apply net s)

  -- "a draw 11, 14" (Causes and numbers)
  unfoldable pub draw_on : Net → ℕ → StepOutcome Net
  draw_on net d = unless (R.well_formed net) (step_refused OutOfForm net) (draw_from net (picked (listed R net) d))

  -- "A run takes a list of draws until they are used up or the net is at rest" (Stations that meet), or the form is left: until one is
  -- refused. The steps that it makes, in order, are "the entries its draws picked" (Lists of calls).
  unfoldable pub run_made : Net → List ℕ → List Step
  run_made net [] = []
  run_made net (d ∷ ds) = onward (draw_on net d).made [] (λ s. s ∷ run_made (draw_on net d).net ds)

  -- the net that it reaches
  unfoldable pub run_net : Net → List ℕ → Net
  run_net net [] = net
  run_net net (d ∷ ds) = onward (draw_on net d).made net (λ s. run_net (draw_on net d).net ds)

  -- "A run that starts outside the form or leaves it stops there with 11, the net reached and the steps made" (Causes and numbers);
  -- it is then not called at rest
  unfoldable pub stopped : Net → ℕ → RunOutcome Net
  stopped net n =
      unless (R.well_formed net) (record { number = number_of OutOfForm; steps = n; rest = false; net = net })
      (record { number = 0; steps = n; rest = quiescent R net; net = net })

  -- what a run gives: "the net, the number of steps made and whether it is at rest" (Stations that meet)
  unfoldable pub run_on : Net → List ℕ → RunOutcome Net
  run_on net ds = stopped (run_net net ds) (length (run_made net ds))
