-- The ways of joining counts (document 02, request 10): "The wave takes its way of joining counts as a number: 0 sum, 1 greatest, 2 least, 3 number of
-- stations with a reading".
use Rattle.std.specs.Prelude.{Bool, cond, ◌||◌, ℕ, ◌+◌, min, max, eqb, leb}

-- "0 sum"
abbrev pub summing : ℕ
summing = 0

-- "1 greatest"
abbrev pub greatest : ℕ
greatest = 1

-- "2 least"
abbrev pub least : ℕ
least = 2

-- "3 number of stations with a reading"
abbrev pub counting : ℕ
counting = 3

-- "one above 3 .. is out of form"
abbrev pub is_way : ℕ → Bool
is_way way = leb way counting

-- "Greatest and least have a value `none` for no readings": 2^64 − 1, which is no sum, as these are below 2^62
abbrev pub none : ℕ
none = 18446744073709551615

-- the ways that have it
abbrev pub has_none : ℕ → Bool
has_none way = eqb way greatest || eqb way least

-- "none joined with a count is that count"; of two counts one is chosen
abbrev pub chosen_of : (ℕ → ℕ → ℕ) → ℕ → ℕ → ℕ
chosen_of choice x y = cond (eqb x none) y (cond (eqb y none) x (choice x y))

-- how two sums are joined: the greater, the lesser, or, "such sums are then added" under 3 too, both together
unfoldable pub sum_joined : ℕ → ℕ → ℕ → ℕ
sum_joined way = cond (eqb way greatest) (chosen_of max) (cond (eqb way least) (chosen_of min) (λ x y. x + y))

-- the joining of no counts
unfoldable pub empty_sum : ℕ → ℕ
empty_sum way = cond (has_none way) none 0

-- "A fresh sum is the joining of that station's one count: under 3 it is 1 with a reading ..; under 1 and 2 it is the count": of a reading
abbrev pub read_sum : ℕ → ℕ → ℕ
read_sum way count = cond (eqb way counting) 1 count
