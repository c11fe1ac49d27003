-- What the examples of the crates above are made of, and a triangle of two classes by computation, of every way: three heads, the second without a
-- reading of the second class. Assumes nothing.
use mathlib.Core.Path.{◌≡◌, refl}
use mathlib.Core.Bool.{cond}
use mathlib.Core.List.{[], ◌∷◌}
use Prim.Native.Nat.{ℕ}
use lib.Dec.{eqb}
use Rattle.finite.specs.Below.{each, tabulate}
use Rattle.aggregate.specs.declared.Config.{Config}
use Rattle.aggregate.specs.declared.Reading.{Reading}
use Rattle.aggregate.specs.declared.Aggregate.{Aggregate}
use Rattle.aggregate.specs.Ways.{none, sum_joined, empty_sum}
use Rattle.aggregate.specs.Aggregate.{cell, places, zero_cell, cell_gathered, gathered, cell_joined, joined, clipped}

-- this sum in the first class, and nothing else
abbrev pub only : ℕ → Aggregate
only n = places (λ i. cond (eqb i 0) (record { sum = n; missing = 0 }) zero_cell)

abbrev line : ℕ → Config
line way = record { k = 3; classes = 2; desk = 0; way = way }

-- a head with something in the places past its classes
abbrev head : ℕ → ℕ → Reading
head a b = record { counts = a ∷ b ∷ 9 ∷ 9 ∷ 9 ∷ 9 ∷ 9 ∷ 9 ∷ [] }

-- the desk gathers its own reading and joins what the other two give
abbrev desk : ℕ → Aggregate
desk way =
    joined (line way) (joined (line way) (gathered (line way) (head 5 4)) (clipped (line way) (gathered (line way) (head 7 4294967295)))) (clipped (line way) (gathered (line way) (head 11 6)))

-- these sums, with one reading missing
abbrev held : ℕ → ℕ → Aggregate
held a b = record { sums = a ∷ b ∷ 0 ∷ 0 ∷ 0 ∷ 0 ∷ 0 ∷ 0 ∷ []; missing = 0 ∷ 1 ∷ 0 ∷ 0 ∷ 0 ∷ 0 ∷ 0 ∷ 0 ∷ [] }

desks : (desk 0 ≡ held 23 10) × (desk 1 ≡ held 11 6) × (desk 2 ≡ held 5 4) × (desk 3 ≡ held 3 2)
unfolding joined gathered clipped tabulate each cell_joined cell_gathered sum_joined empty_sum
desks = (refl, refl, refl, refl)

-- of no readings
abbrev unread : ℕ → Aggregate
unread way = joined (line way) (gathered (line way) (head 4294967295 4294967295)) (gathered (line way) (head 4294967295 0))

none_read : ((cell (unread 1) 0).sum ≡ none) × ((cell (unread 2) 0).sum ≡ none) × ((cell (unread 0) 0).sum ≡ 0) × ((cell (unread 3) 0).sum ≡ 0)
unfolding joined gathered tabulate each cell_joined cell_gathered sum_joined empty_sum
none_read = (refl, refl, refl, refl)
