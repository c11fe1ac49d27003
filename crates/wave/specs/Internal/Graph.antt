-- The web of stations as a graph with a root (document 01, "The line map"; document 001, Definition 3.3).
use Rattle.std.specs.Prelude.{◌≡◌, Bool, true, false, ℕ, ◌<◌}
use Rattle.finite.specs.Links.{Chain}

-- stations 0 to size − 1, a mutual relation between them that no station has to itself, and a root that a chain joins to each
pub record Graph : Type 0 where
  pub size : ℕ
  pub root : ℕ
  pub adj : ℕ → ℕ → Bool
  pub within : (i j : ℕ) → adj i j ≡ true → (i < size) × (j < size)
  pub mutual_adj : (i j : ℕ) → adj i j ≡ true → adj j i ≡ true
  pub no_loop : (i : ℕ) → adj i i ≡ false
  pub root_in : root < size
  pub joined : (i : ℕ) → i < size → Chain adj root i
