-- What the stations of a net keep beside their own (document 02, request 8: "keeps the total its sender knows, sums and missing numbers, beside
-- its own"), in the words that a caller lends, in the layout that C has: nine words for each of the 64 places, eight sums and a word of eight
-- missing numbers.
use Rattle.std.specs.Prelude.{cond, List, ℕ, ◌*◌, ltb}
use Rattle.finite.specs.Below.{tabulate}
use Rattle.aggregate.specs.declared.Aggregate.{Aggregate}
use Rattle.aggregate.specs.Aggregate.{nothing}
use Rattle.stations.specs.Words.{aggregate_from, with_aggregate}

-- all 64 places
unfoldable pub kept_in : List ℕ → List Aggregate
kept_in words = tabulate 64 (λ i. aggregate_from words (9 * i))

-- what is kept in place i; past the places, nothing
abbrev pub kept_read : List ℕ → ℕ → Aggregate
kept_read words i = cond (ltb i 64) (aggregate_from words (9 * i)) nothing

-- the words with v in place i; past the places, as they were
abbrev pub kept_written : List ℕ → ℕ → Aggregate → List ℕ
kept_written words i v = cond (ltb i 64) (with_aggregate words (9 * i) v) words
