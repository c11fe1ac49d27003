-- Sets of stations (document 01, "The line map"): "a set of neighbours (64 bits; bit j, worth 2^j, is station j)".
use Rattle.std.specs.Prelude.{ℕ, zero, suc, ◌+◌, ◌-◌, ◌/◌, ◌%◌, ◌^◌, Bool, ◌&&◌, cond, eqb, leb, ltb}
use Rattle.std.specs.Int.Bits.{bit_and, bit_or}

-- "There are k stations, 1 to 64"
abbrev pub is_station_count : ℕ → Bool
is_station_count k = ltb 0 k && leb k 64

-- bit j of s, 0 or 1
abbrev pub bit : ℕ → ℕ → ℕ
bit j s = s / 2 ^ j % 2

-- station j is in the set s
unfoldable pub member : ℕ → ℕ → Bool
member j s = eqb (bit j s) 1

-- how many stations below n are in the set s
unfoldable pub members_below : ℕ → ℕ → ℕ
members_below zero s = 0
members_below (suc n) s = members_below n s + bit n s

-- "The size of a set" (One station): how many stations are in it
unfoldable pub size : ℕ → ℕ
size s = members_below 64 s

-- "j leaves the set" (One station): the set s without station j
unfoldable pub without : ℕ → ℕ → ℕ
without j s = cond (member j s) (s - 2 ^ j) s

-- "set members below k" (Causes and numbers, form): every station in the set s is below k
unfoldable pub within : ℕ → ℕ → Bool
within k s = ltb s (2 ^ k)

-- what station j is worth in a set of 64 bits, if it passes a test
unfoldable pub bit_if : Bool → ℕ → ℕ
bit_if b j = cond (ltb j 64 && b) (2 ^ j) 0

-- the stations of either set
unfoldable pub union : ℕ → ℕ → ℕ
union s t = bit_or s t

-- the stations of s that are not in t
unfoldable pub minus : ℕ → ℕ → ℕ
minus s t = s - bit_and s t

-- the set s, where station j stands in it just where b says so
unfoldable pub put : ℕ → Bool → ℕ → ℕ
put j b s = union (without j s) (bit_if b j)
