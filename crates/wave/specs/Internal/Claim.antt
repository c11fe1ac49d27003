-- What the wave's theorem says of the list of steps that were made, whatever kind of net made them: the clauses of demand 3.
use Rattle.std.specs.Prelude.{◌≡◌, Bool, true, false, ◌&&◌, List, [], ◌∷◌, ◌++◌, ◌↔◌, ℕ, ◌+◌, ◌*◌, ◌≤◌, length, eqb}
use Rattle.finite.specs.Sum.{indicator}
use Rattle.finite.specs.Internal.Monoid.{CommMonoid, sum_to}
use Rattle.finite.specs.Links.{links}
use Rattle.wave.specs.Internal.Wave.{Step, message, report}

-- the same step
abbrev pub same : Step → Step → Bool
same (message a b) (message i j) = eqb a i && eqb b j
same (message a b) report = false
same report (message i j) = false
same report report = true

-- how often a step stands in a list
abbrev pub times : Step → List Step → ℕ
times t [] = 0
times t (s ∷ ss) = indicator (same t s) + times t ss

-- each step of a list is allowed where it is made: the next one in the net that this one leaves
abbrev pub Runs : {Net Move : Type 0} → (Net → Move → Type 0) → (Net → Move → Net) → Net → List Move → Type 0
Runs Allowed make n [] = Unit
Runs Allowed make n (m ∷ ms) = Allowed n m × Runs Allowed make (make n m) ms

-- the net after a list of steps
abbrev pub reached : {Net Move : Type 0} → (Net → Move → Net) → Net → List Move → Net
reached make n [] = n
reached make n (m ∷ ms) = reached make (make n m) ms

-- "A net is at rest when no step is allowed in it" (Lists of calls)
abbrev pub AtRest : {Net Move : Type 0} → (Net → Move → Type 0) → Net → Type 0
AtRest {Move = Move} Allowed n = (m : Move) → Allowed n m → ⊥

-- On k stations with these links: what holds of the steps made, of whether the net that they leave is at rest, and of the number that
-- the root then holds.
pub record WaveClaim {A : Type 0} (k : ℕ) (adj : ℕ → ℕ → Bool) (M : CommMonoid A) (counts : ℕ → A) (made : List Step) (rest : Type 0) (number : A) : Type 0 where
  -- at most one report
  pub one-report : times report made ≤ 1
  -- no link used twice in a direction
  pub one_message : (i j : ℕ) → times (message i j) made ≤ 1
  -- a message is "carried by the link of its two stations"
  pub over-links : (i j : ℕ) → adj i j ≡ false → times (message i j) made ≡ 0
  -- never more than 2m + 1 steps
  pub at_most : length made ≤ 2 * links k adj + 1
  -- the report is made just where nothing is allowed
  pub report-rest : (times report made ≡ 1) ↔ rest
  -- and just where 2m + 1 steps are
  pub report-full : (times report made ≡ 1) ↔ (length made ≡ 2 * links k adj + 1)
  -- then it is the last
  pub report_last : times report made ≡ 1 → (front : List Step) × (made ≡ front ++ (report ∷ []))
  -- the number is the sum of all counts
  pub total : times report made ≡ 1 → number ≡ sum_to M k counts
  -- each link has carried one message each way
  pub each_way : times report made ≡ 1 → (i j : ℕ) → adj i j ≡ true → times (message i j) made ≡ 1
