-- Laws of an outcome: the order of the refusals over any tests, and that an outcome pins the reply and the process. Assumes nothing.
use mathlib.Core.Path.{◌≡◌, refl, sym, ap, ap₂}
use mathlib.Core.Bool.{Bool, true, false}
use Prim.Native.Nat.{ℕ}
use Rattle.std.specs.Prelude.{Option, Some, None, Result, Ok, Err}
use Rattle.aggregate.specs.declared.Aggregate.{Aggregate}
use Rattle.refusal.specs.declared.Refusal.{Refusal}
use Rattle.refusal.proofs.Laws.{number_pins, number-not-zero}
use Rattle.station.specs.declared.Process.{Process}
use Rattle.station.specs.declared.Gives.{Gives}
use Rattle.station.specs.Process.{EventOutcome, number_and_values, given_of, event_outcome_of, decide}

-- what holds of a process, and of it after an accepted event, holds after the event
pub decide_holds : (P : Process → Type 0) (form range allowed : Bool) (p : Process) (o : EventOutcome)
    → P p → (form ≡ true → range ≡ true → allowed ≡ true → P o.process) → P (decide form range allowed p o).process
unfolding decide
decide_holds P false range allowed p o before then = before
decide_holds P true false allowed p o before then = before
decide_holds P true true false p o before then = before
decide_holds P true true true p o before then = then refl refl refl

-- a refusal leaves the process as it was
pub decide_leaves : (form range allowed : Bool) (p : Process) (o : EventOutcome)
    → o.number ≡ 0 → ((decide form range allowed p o).number ≡ 0 → ⊥) → (decide form range allowed p o).process ≡ p
unfolding decide
decide_leaves false range allowed p o zero refused = refl
decide_leaves true false allowed p o zero refused = refl
decide_leaves true true false p o zero refused = refl
decide_leaves true true true p o zero refused = absurd (refused zero)

-- an outcome pins the reply and the process
pub outcome_pins : (a b : Result (Option Gives) Refusal) (p q : Process) → event_outcome_of a p ≡ event_outcome_of b q → (a ≡ b) × (p ≡ q)
outcome_pins a b p q e = (
  reply_pins a b (ap (λ (o : EventOutcome). o.number) e) (ap (λ (o : EventOutcome). o.values) e) (ap (λ (o : EventOutcome). o.given) e),
  ap (λ (o : EventOutcome). o.process) e,
)
  where
    reply_pins : (a b : Result (Option Gives) Refusal) → (number_and_values a).0 ≡ (number_and_values b).0
        → (number_and_values a).1 ≡ (number_and_values b).1 → given_of a ≡ given_of b → a ≡ b
    reply_pins (Ok None) (Ok None) n v g = refl
    reply_pins (Ok None) (Ok (Some y)) n v g = cc
    reply_pins (Ok None) (Err s) n v g = absurd (number-not-zero s (sym n))
    reply_pins (Ok (Some x)) (Ok None) n v g = cc
    reply_pins (Ok (Some x)) (Ok (Some y)) n v g = ap₂ (λ (p : ℕ) (h : Aggregate). Ok (Some (record { parent = p; held = h }))) (let same : x.parent ≡ y.parent = cc in same) g
    reply_pins (Ok (Some x)) (Err s) n v g = cc
    reply_pins (Err r) (Ok None) n v g = absurd (number-not-zero r n)
    reply_pins (Err r) (Ok (Some y)) n v g = cc
    reply_pins (Err r) (Err s) n v g = ap Err (number_pins r s n)
