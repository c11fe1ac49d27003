-- Links between stations, as a relation on numbers (document 01, "The line map").
use Rattle.std.specs.Prelude.{◌≡◌, Bool, true, ℕ}
use Rattle.finite.specs.Sum.{sum, indicator}

-- "every station is joined to the desk by a chain of links": i is joined to the root
pub data Chain (adj : ℕ → ℕ → Bool) (root : ℕ) : ℕ → Type 0 where
  here : Chain adj root root
  link : {i j : ℕ} → adj i j ≡ true → Chain adj root j → Chain adj root i

-- "A link is an unordered pair; m counts them": of each pair of different stations below k one order is tried
unfoldable pub links : ℕ → (ℕ → ℕ → Bool) → ℕ
links k adj = sum k (λ i. sum i (λ j. indicator (adj i j)))
