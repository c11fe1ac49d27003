-- Laws of what a call comes to: an answer's numbers do not look at the net. Assumes nothing.
use mathlib.Core.Path.{◌≡◌, ap}
use Prim.Native.Nat.{ℕ}
use Rattle.std.specs.Prelude.{⊤, Result, Ok, Err}
use Rattle.linemap.specs.declared.FreshFault.{FreshFault}
use Rattle.linemap.specs.Openings.{fresh_numbers, opening_of}
use Rattle.refusal.specs.declared.Refusal.{Refusal}
use Rattle.schedule.specs.declared.Step.{Step}
use Rattle.schedule.specs.Outcome.{step_outcome_of}
use Rattle.capi.specs.Answers.{packed, called}
use Rattle.capi.specs.Steps.{fresh_call, step_call}
use Rattle.capi.specs.Internal.Values.{answer_numbers}

pub opened-call : {Net : Type 0} (a : Result ⊤ FreshFault) (n : ℕ) (net : Net) → n ≡ packed (fresh_numbers a) → called n net ≡ fresh_call (opening_of a net)
opened-call a n net number = ap (λ (x : ℕ). called x net) number

pub answer-call : {Net : Type 0} (a : Result Step Refusal) (n : ℕ) (net : Net) → n ≡ packed (answer_numbers a) → called n net ≡ step_call (step_outcome_of a net)
answer-call (Ok s) n net number = ap (λ (x : ℕ). called x net) number
answer-call (Err why) n net number = ap (λ (x : ℕ). called x net) number
