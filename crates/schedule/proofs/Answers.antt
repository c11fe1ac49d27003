-- What the code of any kind of net knows of its answers: the step that an entry or an answer holds, and that an outcome pins the answer and the
-- net, so that a contract which gives the outcome leaves nothing open. Assumes nothing.
use Rattle.std.proofs.Common.{◌≡◌, ℕ, true, [], ◌∷◌, sym, refl, ap, Some, Result, Ok, Err}
use Rattle.finite.proofs.Cases.{and_both}
use Rattle.refusal.specs.declared.Refusal.{Refusal}
use Rattle.refusal.proofs.Laws.{number_pins, number-not-zero}
use Rattle.schedule.specs.declared.Step.{Step}
use Rattle.schedule.specs.Rules.{Rules, in_range, allowed}
use Rattle.schedule.specs.Listing.{candidates, listed}
use Rattle.schedule.specs.Draws.{picked}
use Rattle.schedule.proofs.Parts.{select-passes}
use Rattle.schedule.proofs.Picks.{picked-passes}
use Rattle.schedule.specs.Outcome.{StepOutcome, step_refused, step_outcome_of, run_number_of}

module _ {A : Type 0} {a : Result Step Refusal} {o : StepOutcome A} (net : A) (e : step_outcome_of a net ≡ o) where
  pub answer-made : {s : Step} → a ≡ Ok s → (o.made ≡ s ∷ []) × (o.net ≡ net)
  answer-made q = let f = rw q at e in (sym (ap (λ (x : StepOutcome A). x.made) f), sym (ap (λ (x : StepOutcome A). x.net) f))

  pub answer_refused : {r : Refusal} → a ≡ Err r → o.made ≡ []
  answer_refused q = let f = rw q at e in sym (ap (λ (x : StepOutcome A). x.made) f)

pub outcome_refused : {A : Type 0} {net : A} {r : Result Step Refusal} {why : Refusal} → r ≡ Err why → step_outcome_of r net ≡ step_refused why net
outcome_refused {net = net} e = ap (λ (a : Result Step Refusal). step_outcome_of a net) e

pub outcome_pins : {A : Type 0} (a b : Result Step Refusal) (m n : A) → step_outcome_of a m ≡ step_outcome_of b n → (a ≡ b) × (m ≡ n)
outcome_pins (Ok s) (Ok t) m n e = let made = ap (λ (x : StepOutcome _). x.made) e in (cc, ap (λ (x : StepOutcome _). x.net) e)
outcome_pins (Ok s) (Err r) m n e = absurd (number-not-zero r (sym (ap (λ (x : StepOutcome _). x.number) e)))
outcome_pins (Err r) (Ok s) m n e = absurd (number-not-zero r (ap (λ (x : StepOutcome _). x.number) e))
outcome_pins (Err q) (Err r) m n e = (ap Err (number_pins q r (ap (λ (x : StepOutcome _). x.number) e)), ap (λ (x : StepOutcome _). x.net) e)

pub run_answer_pins : (a b : Result (Unit {0}) Refusal) → run_number_of a ≡ run_number_of b → a ≡ b
run_answer_pins (Ok u) (Ok v) e = refl
run_answer_pins (Ok u) (Err r) e = absurd (number-not-zero r (sym e))
run_answer_pins (Err r) (Ok u) e = absurd (number-not-zero r e)
run_answer_pins (Err q) (Err r) e = ap Err (number_pins q r e)

module _ {Net : Type 0} (R : Rules Net) (net : Net) (s : Step) where
  -- an allowed step is in range, and passes its guard
  pub allowed_parts : allowed R net s ≡ true → (in_range R net s ≡ true) × (R.guard net s ≡ true)
  unfolding allowed
  allowed_parts a = and_both (in_range R net s) (R.guard net s) a

  -- what a draw picks is allowed
  pub picked-allowed : (d : ℕ) → picked (listed R net) d ≡ Some s → allowed R net s ≡ true
  unfolding listed
  picked-allowed d e =
      picked-passes (allowed R net) d s (listed R net) (select-passes (allowed R net) (candidates (R.kinds net) (R.stations net))) e
