-- One class of a report in plain words (document 02, requests 1 and 10), of the counts of k stations.
use Rattle.std.specs.Prelude.{◌≡◌, true, false, cond, ◌⊎◌, ℕ, ◌<◌, ◌≤◌}
use Rattle.finite.specs.Sum.{sum}
use Rattle.aggregate.specs.declared.Cell.{Cell}
use Rattle.aggregate.specs.Ways.{summing, greatest, least, counting, none}
use Rattle.aggregate.specs.Aggregate.{is_missing}

-- v is the reading of a station, and that of no station comes after it
abbrev pub LastReading : (ℕ → ℕ → Type 0) → ℕ → (ℕ → ℕ) → ℕ → Type 0
LastReading Before k counts v =
    (s : ℕ) × (s < k) × (is_missing (counts s) ≡ false) × (v ≡ counts s) × ((r : ℕ) → r < k → is_missing (counts r) ≡ false → Before (counts r) v)

-- so it is, or no station has a reading, and v is none
abbrev pub Last : (ℕ → ℕ → Type 0) → ℕ → (ℕ → ℕ) → ℕ → Type 0
Last Before k counts v = LastReading Before k counts v ⊎ (((s : ℕ) → s < k → is_missing (counts s) ≡ true) × (v ≡ none))

pub record Reported (way k : ℕ) (counts : ℕ → ℕ) (report : Cell) : Type 0 where
  -- "together with how many had none" (request 1)
  pub missing : report.missing ≡ sum k (λ s. cond (is_missing (counts s)) 1 0)
  -- "the sum over heads with a reading" (request 1)
  pub sums : way ≡ summing → report.sum ≡ sum k (λ s. cond (is_missing (counts s)) 0 (counts s))
  -- "the greatest and the least count on a line" (request 10)
  pub greatest_of : way ≡ greatest → Last (λ a b. a ≤ b) k counts report.sum
  pub least_of : way ≡ least → Last (λ a b. b ≤ a) k counts report.sum
  -- "number of stations with a reading" (request 10)
  pub number : way ≡ counting → report.sum ≡ sum k (λ s. cond (is_missing (counts s)) 0 1)
