-- What a net is opened with, and what its stations gather and join, class by class (documents 01 and 02). Nothing above this crate looks
-- inside these records.
use Rattle.std.specs.Prelude.{ℕ, ◌+◌, ◌^◌, min, Bool, ◌&&◌, ◌||◌, cond, List, [], eqb, ltb, leb, get_or, replicate}
use Rattle.finite.specs.Below.{all_below, tabulate}
use Rattle.finite.specs.Numbers.{number, bytes}
use Rattle.bitset.specs.Set.{is_station_count}
use Rattle.aggregate.specs.declared.Config.{Config}
use Rattle.aggregate.specs.declared.Reading.{Reading}
use Rattle.aggregate.specs.declared.Cell.{Cell}
use Rattle.aggregate.specs.declared.Aggregate.{Aggregate}
use Rattle.aggregate.specs.Ways.{is_way, none, has_none, sum_joined, empty_sum, read_sum}

-- "A net or station record carries its desk" (document 02, request 5)
abbrev pub root_of : Config → ℕ
root_of t = t.desk

-- "c counts, 1 to 8" (document 02, request 2)
abbrev pub is_class_count : ℕ → Bool
is_class_count c = ltb 0 c && leb c 8

-- "k 1 to 64" (Causes and numbers, form); "a net or station with such a c is out of form" (document 02, request 2), and so is a desk "not
-- below k" (request 5); "A net or station carries its way; one above 3 .. is out of form" (request 10)
unfoldable pub valid : Config → Bool
valid t = is_station_count t.k && is_class_count t.classes && ltb (root_of t) t.k && is_way t.way

-- the classes in use: c, of eight places
abbrev pub used : Config → ℕ
used t = min t.classes 8

-- class i, counted from 0
abbrev pub cell : Aggregate → ℕ → Cell
cell a i = record { sum = get_or a.sums i 0; missing = get_or a.missing i 0 }

-- the eight places given by f
abbrev pub places : (ℕ → Cell) → Aggregate
places f = record { sums = tabulate 8 (λ i. (f i).sum); missing = tabulate 8 (λ i. (f i).missing) }

-- zero in a class: what stands past c
abbrev pub zero_cell : Cell
zero_cell = record { sum = 0; missing = 0 }

-- zero in every class
unfoldable pub nothing : Aggregate
nothing = record { sums = replicate 8 0; missing = replicate 8 0 }

-- "sums and posted sums below 2^62" (Causes and numbers, form), but for none, which "under 0 or 3, is out of form" (document 02, request 10)
unfoldable pub sum_bounded : ℕ → ℕ → Bool
sum_bounded way x = ltb x (2 ^ 62) || has_none way && eqb x none

-- "A missing number above 64 is out of form" (document 02, request 1)
unfoldable pub cell_bounded : ℕ → Cell → Bool
cell_bounded way x = sum_bounded way x.sum && leb x.missing 64

-- so in every class in use: "places past c go as those past k" (document 02, request 2)
unfoldable pub bounded : Config → Aggregate → Bool
bounded t a = all_below (used t) (λ i. cell_bounded t.way (cell a i))

-- "sends 4294967295 when its lamp failed and it has no reading" (document 02, request 1)
abbrev pub is_missing : ℕ → Bool
is_missing count = eqb count 4294967295

-- "sums are the counts" (Stations that meet, fresh): what one count gives; a missing one "adds nothing to a sum and one to a number of
-- missing readings" (document 02, request 1), "under 1 and 2 it is .. `none` without a reading" (request 10)
unfoldable pub cell_gathered : ℕ → ℕ → Cell
cell_gathered way count =
    cond (is_missing count) (record { sum = empty_sum way; missing = 1 }) (record { sum = read_sum way count; missing = 0 })

-- what a reading gives, class by class; zero past c
unfoldable pub gathered : Config → Reading → Aggregate
gathered t r = places (λ i. cond (ltb i (used t)) (cell_gathered t.way (get_or r.counts i 0)) zero_cell)

-- "v is added" (One station), "joined its way; missing numbers are still added" (document 02, request 10)
unfoldable pub cell_joined : ℕ → Cell → Cell → Cell
cell_joined way x y = record { sum = sum_joined way x.sum y.sum; missing = x.missing + y.missing }

-- of no readings, "a neutral value" (document 02, request 10)
abbrev pub empty_cell : ℕ → Cell
empty_cell way = record { sum = empty_sum way; missing = 0 }

-- class by class; the first's places past c stay
unfoldable pub joined : Config → Aggregate → Aggregate → Aggregate
joined t a b = places (λ i. cond (ltb i (used t)) (cell_joined t.way (cell a i) (cell b i)) (cell a i))

-- both are bounded, so their join is made of numbers of 64 and of 8 bits
abbrev pub joinable : Config → Aggregate → Aggregate → Bool
joinable t a b = bounded t a && bounded t b

-- "what a station gives or posts has zero there" (document 02, request 2): past c
unfoldable pub clipped : Config → Aggregate → Aggregate
clipped t a = places (λ i. cond (ltb i (used t)) (cell a i) zero_cell)

-- the missing numbers in one word, a byte each, class 0 lowest
unfoldable pub missing_word : Aggregate → ℕ
missing_word a = number a.missing 0 8

-- the aggregate of a sum for each class in use and of such a word
unfoldable pub from_words : Config → (ℕ → ℕ) → ℕ → Aggregate
from_words t sums word = places (λ i. cond (ltb i (used t)) (record { sum = sums i; missing = get_or (bytes 8 word) i 0 }) zero_cell)

-- the aggregate of eight sums and of such a word, in every place
abbrev pub of_words : List ℕ → ℕ → Aggregate
of_words sums word = record { sums = sums; missing = bytes 8 word }

-- what stands past the end of a list of these: the language's default, which no rule speaks of
abbrev pub absent : Aggregate
absent = record { sums = []; missing = [] }
