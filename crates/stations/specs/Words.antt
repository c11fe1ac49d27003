-- The stations of a net of either kind in the words that a caller lends, in the layout that C has: k, the class count, the desk and the way in the
-- four lowest bytes of the first word; then eleven words for each of the 64 places, eight sums, a word of eight missing numbers, the set, and
-- a word with parent, waits and state in its lowest bytes. Every list of words is such; what else stands in these words says nothing, and
-- stays.
use Rattle.std.specs.Prelude.{◌≡◌, cond, List, ◌∷◌, ℕ, zero, suc, ◌+◌, ◌*◌, ◌/◌, ◌%◌, ◌^◌, ◌<◌, length, get_or, set, ltb}
use Rattle.finite.specs.Below.{tabulate}
use Rattle.aggregate.specs.declared.Config.{Config}
use Rattle.aggregate.specs.declared.Aggregate.{Aggregate}
use Rattle.aggregate.specs.Aggregate.{cell, missing_word, of_words}
use Rattle.station.specs.declared.Station.{Station}
use Rattle.stations.specs.Stations.{blank}

-- byte j of a word, the lowest first
abbrev pub byte_of : ℕ → ℕ → ℕ
byte_of j w = w / 2 ^ (8 * j) % 2 ^ 8

-- what the net was opened with
unfoldable pub config_in : List ℕ → Config
config_in words = let w = get_or words 0 0 in record { k = byte_of 0 w; classes = byte_of 1 w; desk = byte_of 2 w; way = byte_of 3 w }

-- where the words of station i start
abbrev pub first_word : ℕ → ℕ
first_word i = 1 + 11 * i

-- eight sums, from the words that start there
unfoldable pub sums_in : List ℕ → ℕ → List ℕ
sums_in words at = tabulate 8 (λ j. get_or words (at + j) 0)

-- eight sums and a word of missing numbers, from the words that start there
abbrev pub aggregate_from : List ℕ → ℕ → Aggregate
aggregate_from words at = of_words (sums_in words at) (get_or words (at + 8) 0)

-- the station whose words start there
unfoldable pub station_from : List ℕ → ℕ → Station
station_from words at =
    let w = get_or words (at + 10) 0 in
    record { held = aggregate_from words at; unstarted = get_or words (at + 9) 0; parent = byte_of 0 w; waits = byte_of 1 w; state = byte_of 2 w }

-- all 64 places
unfoldable pub stations_in : List ℕ → List Station
stations_in words = tabulate 64 (λ i. station_from words (first_word i))

-- what stands beside the fields, in the first word and in the last of each station
unfoldable pub spare_in : List ℕ → List ℕ
spare_in words = get_or words 0 0 / 2 ^ 32 ∷ tabulate 64 (λ i. get_or words (first_word i + 10) 0 / 2 ^ 24)

-- station i; past the places, a blank one
abbrev pub station_read : List ℕ → ℕ → Station
station_read words i = cond (ltb i 64) (station_from words (first_word i)) blank

-- a first word with other fields
abbrev pub config_word : ℕ → Config → ℕ
config_word w t = (((w / 2 ^ 32 * 2 ^ 8 + t.way) * 2 ^ 8 + t.desk) * 2 ^ 8 + t.classes) * 2 ^ 8 + t.k

-- the words of a net opened with t
unfoldable pub with_config : List ℕ → Config → List ℕ
with_config words t = set words 0 (config_word (get_or words 0 0) t)

-- a station's last word with other fields
abbrev pub fields_word : ℕ → Station → ℕ
fields_word w s = ((w / 2 ^ 24 * 2 ^ 8 + s.state) * 2 ^ 8 + s.waits) * 2 ^ 8 + s.parent

-- the words with the first n sums of v in those that start there
unfoldable pub with_sums : List ℕ → ℕ → Aggregate → ℕ → List ℕ
with_sums words at v zero = words
with_sums words at v (suc n) = set (with_sums words at v n) (at + n) (cell v n).sum

-- the words with v in the nine that start there
abbrev pub with_aggregate : List ℕ → ℕ → Aggregate → List ℕ
with_aggregate words at v = set (with_sums words at v 8) (at + 8) (missing_word v)

-- the words with s in those that start there
unfoldable pub with_station : List ℕ → ℕ → Station → List ℕ
with_station words at s =
    set (set (with_aggregate words at s.held) (at + 9) s.unstarted) (at + 10) (fields_word (get_or words (at + 10) 0) s)

-- the words with s for station i; past the places, as they were
abbrev pub station_written : List ℕ → ℕ → Station → List ℕ
station_written words i s = cond (ltb i 64) (with_station words (first_word i) s) words

-- words of 64 bits hold the net and what stands beside it, and nothing else: contracts that give both give all words. `words_pinned`
-- (proofs/Pins) proves it.
pub record WordsPinned : Type 0 where
  pub pinned : (l m : List ℕ) → length l ≡ 705 → length m ≡ 705 → ((p : ℕ) → (get_or l p 0 < 2 ^ 64) × (get_or m p 0 < 2 ^ 64))
      → config_in l ≡ config_in m → stations_in l ≡ stations_in m → spare_in l ≡ spare_in m → l ≡ m
