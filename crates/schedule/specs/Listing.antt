-- The list of allowed steps (document 01, "Stations that meet"): "Steps are listed by kind, then sender, then receiver, rising."
use Rattle.std.specs.Prelude.{ℕ, zero, suc, ◌-◌, Bool, true, false, cond, List, [], ◌∷◌, map, length}
use mathlib.Core.List.{flat_map}
use Rattle.schedule.specs.declared.Step.{Step}
use Rattle.schedule.specs.Rules.{Rules, allowed}

-- a, a + 1, .., n numbers
unfoldable pub numbers_from : ℕ → ℕ → List ℕ
numbers_from a zero = []
numbers_from a (suc n) = a ∷ numbers_from (suc a) n

-- the numbers from a up to b, b left out
unfoldable pub range : ℕ → ℕ → List ℕ
range a b = numbers_from a (b - a)

-- the entries that pass the test, in their order
unfoldable pub select : {A : Type 0} → (A → Bool) → List A → List A
select p [] = []
select p (a ∷ l) = cond (p a) (a ∷ select p l) (select p l)

-- how many steps of a list pass a test
abbrev pub how_many : (Step → Bool) → List Step → ℕ
how_many test steps = length (select test steps)

-- "A step has a kind, a sender and a receiver" (Stations that meet)
abbrev pub step : ℕ → ℕ → ℕ → Step
step kind s r = record { kind = kind; sender = s; receiver = r }

-- every step of k stations with a kind from 1 to `kinds`: by kind, then sender, then receiver, rising
unfoldable pub candidates : ℕ → ℕ → List Step
candidates kinds k =
    flat_map (λ (kind : ℕ). flat_map (λ (s : ℕ). map (step kind s) (range 0 k)) (range 0 k)) (range 1 (suc kinds))

-- nothing is listed
unfoldable pub is_empty : List Step → Bool
is_empty [] = true
is_empty (s ∷ l) = false

module _ {Net : Type 0} (R : Rules Net) where
  -- "the c allowed steps", in their order
  unfoldable pub listed : Net → List Step
  listed net = select (allowed R net) (candidates (R.kinds net) (R.stations net))

  -- "A net is at rest when no step is allowed in it" (Lists of calls)
  unfoldable pub quiescent : Net → Bool
  quiescent net = is_empty (listed net)
