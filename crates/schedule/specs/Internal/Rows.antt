-- What the code of a net knows of its rows: which steps they list, how many, and what changes where one sender's rows are stored anew.
use Rattle.std.specs.Prelude.{◌≡◌, ℕ, suc, ◌^◌, ◌<◌, ◌≤◌, List, length, ◌≢◌}
use mathlib.Core.List.{flat_map}
use Rattle.bitset.specs.Internal.Selected.{set_of}
use Rattle.schedule.specs.declared.Step.{Step}
use Rattle.schedule.specs.declared.rows.Sizes.{Sizes}
use Rattle.schedule.specs.declared.rows.Four.{Four}
use Rattle.schedule.specs.Rules.{Rules, allowed}
use Rattle.schedule.specs.Listing.{range, select, step}
use Rattle.schedule.specs.Rows.{steps_of_kind, row_at, in_rows, size_of}

-- the steps of the kinds from `kind` on
unfoldable pub steps_of : ℕ → ℕ → ℕ → ℕ → List Step
steps_of w kinds k kind = flat_map (λ (kind : ℕ). steps_of_kind w k kind 0) (range kind (suc kinds))

-- the steps that the rows list, by kind, then sender, then receiver, rising
unfoldable pub listed_in : List ℕ → ℕ → ℕ → List Step
listed_in rows kinds k = select (in_rows rows) (steps_of 64 kinds k 1)

-- how many steps they list, of each of the four kinds that a sender has rows of
abbrev pub sizes_of : List ℕ → ℕ → Sizes
sizes_of rows k = record { first = size_of rows k 1; second = size_of rows k 2; third = size_of rows k 3; fourth = size_of rows k 4 }

-- the rows of the steps of kinds 1 to 4 that are allowed in a net; those of a kind that it does not have are empty
pub record AreRows {Net : Type 0} (R : Rules Net) (net : Net) (rows : List ℕ) : Type 0 where
  pub row : (kind s : ℕ) → 1 ≤ kind → kind ≤ 4 → s < R.stations net
      → row_at rows kind s ≡ set_of (R.stations net) (λ r. allowed R net (step kind s r))

-- what a net's code knows once its rows are filled: they are those of the steps allowed, of kinds 1 to 4, and these are their sizes
pub record Filled {Net : Type 0} (R : Rules Net) (net : Net) (rows : List ℕ) (z : Sizes) : Type 0 where
  pub few : R.stations net ≤ 64
  pub are : AreRows R net rows
  pub sizes : z ≡ sizes_of rows (R.stations net)

-- a sender's four rows, of 64 bits, are what `row` gives by kind
pub record AreFour (row : ℕ → ℕ) (f : Four) : Type 0 where
  pub first : (f.first ≡ row 1) × (f.first < 2 ^ 64)
  pub second : (f.second ≡ row 2) × (f.second < 2 ^ 64)
  pub third : (f.third ≡ row 3) × (f.third < 2 ^ 64)
  pub fourth : (f.fourth ≡ row 4) × (f.fourth < 2 ^ 64)

-- no station of the step
abbrev pub Others : Step → ℕ → Type 0
Others step s = (s ≢ step.sender) × (s ≢ step.receiver)

-- rows of 64 bits and their sizes, where those of some senders are what `row_of` gives, by kind and sender
pub record HoldRows (those : ℕ → Type 0) (k : ℕ) (row_of : ℕ → ℕ → ℕ) (rows : List ℕ) (z : Sizes) : Type 0 where
  pub sized : length rows ≡ 256
  pub small : (kind s : ℕ) → 1 ≤ kind → kind ≤ 4 → s < k → row_at rows kind s < 2 ^ 64
  pub row : (kind s : ℕ) → 1 ≤ kind → kind ≤ 4 → s < k → those s → row_at rows kind s ≡ row_of kind s
  pub sizes : z ≡ sizes_of rows k
