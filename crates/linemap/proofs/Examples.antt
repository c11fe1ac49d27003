-- Document 01's examples on reading and writing ("The program" and "Edges"), one of two classes, one with a long lot, and one with another
-- desk, computed. Assumes nothing.
use Rattle.std.proofs.Common.{◌≡◌, ℕ, List, [], ◌∷◌, ◌++◌, drop, replicate, refl}
use Rattle.finite.specs.Sum.{fold_to, indicator}
use Rattle.finite.specs.Links.{links}
use Rattle.bitset.specs.Set.{member, within}
use Rattle.aggregate.specs.Ways.{sum_joined, empty_sum}
use Rattle.aggregate.specs.Aggregate.{cell_gathered, cell_joined}
use Rattle.topology.specs.Answer.{accepted}
use Rattle.topology.specs.Acceptance.{any_below, near, first_from, verdict_of, links_of}
use Rattle.finite.specs.Numbers.{number, bytes}
use Rattle.linemap.specs.Words.{sum_words}
use Rattle.finite.specs.Below.{each, tabulate}
use Rattle.linemap.specs.Maps.{acceptance, links_in, totals}
use Rattle.linemap.specs.Stored.{count_bytes, row_bytes, trailer_bytes, body_of, check_word, stored_of}
use Rattle.linemap.specs.Reading.{read_as, column, grid, empty_map, reading}
use Rattle.linemap.specs.Writing.{writing, written}
use Rattle.linemap.specs.Openings.{openable}
use Rattle.linemap.specs.declared.Map.{Map}

-- "15 bytes: 1"
fifteen : reading (replicate 15 0) ≡ record { numbers = 1 ∷ []; map = empty_map }
unfolding reading
fifteen = refl

-- "28 zero bytes: 2"
zeros : reading (replicate 28 0) ≡ record { numbers = 2 ∷ []; map = empty_map }
unfolding reading number
zeros = refl

-- "counts 5, 7, 11; sets 6, 5, 3; lot 42; check word 4294180746"
abbrev at-desk : ℕ → Map
at-desk desk =
    record {
      k = 3;
      classes = 1;
      desk = desk;
      lot = 42;
      counts = 5 ∷ replicate 7 0 ++ 7 ∷ replicate 7 0 ++ 11 ∷ replicate 495 0;
      neighbours = 6 ∷ 5 ∷ 3 ∷ replicate 61 0;
    }

abbrev triangle : Map
triangle = at-desk 0

abbrev triangle-rows : List ℕ
triangle-rows =
    5 ∷ 0 ∷ 0 ∷ 0 ∷ 6 ∷ 0 ∷ 0 ∷ 0 ∷ 0 ∷ 0 ∷ 0 ∷ 0
    ∷ 7 ∷ 0 ∷ 0 ∷ 0 ∷ 5 ∷ 0 ∷ 0 ∷ 0 ∷ 0 ∷ 0 ∷ 0 ∷ 0
    ∷ 11 ∷ 0 ∷ 0 ∷ 0 ∷ 3 ∷ 0 ∷ 0 ∷ 0 ∷ 0 ∷ 0 ∷ 0 ∷ 0 ∷ []

abbrev triangle-bytes : List ℕ
triangle-bytes = triangle-rows ++ (3 ∷ 0 ∷ 12 ∷ 0 ∷ 36 ∷ 0 ∷ 0 ∷ 0 ∷ 42 ∷ 0 ∷ 0 ∷ 0 ∷ 138 ∷ 255 ∷ 243 ∷ 255 ∷ [])

check_word_lem : number triangle-bytes 48 4 ≡ 4294180746
unfolding number
check_word_lem = refl

triangle-stored : stored_of triangle ≡ triangle-bytes
unfolding stored_of body_of trailer_bytes row_bytes count_bytes each bytes check_word sum_words number
triangle-stored = refl

-- after a byte that is not read
triangle-reads : reading (9 ∷ triangle-bytes) ≡ read_as triangle
unfolding reading grid column tabulate each sum_words number verdict_of first_from member within any_below near
triangle-reads = refl

triangle-links : links_in triangle ≡ 0 ∷ 3 ∷ []
unfolding links_of verdict_of first_from member within any_below near links fold_to indicator
triangle-links = refl

-- one byte too few, and one more than needed, which stays
no_room : (writing triangle 51 ≡ 15 ∷ 52 ∷ []) × (written triangle (replicate 51 9) ≡ replicate 51 9)
unfolding writing written verdict_of first_from member within any_below near
no_room = (refl, refl)

room : (writing triangle 53 ≡ 0 ∷ 52 ∷ []) × (written triangle (replicate 53 9) ≡ triangle-bytes ++ 9 ∷ [])
unfolding writing written verdict_of first_from member within any_below near stored_of body_of trailer_bytes row_bytes count_bytes each bytes check_word sum_words number
room = (refl, refl)

-- a byte changed
changed : reading (6 ∷ drop 1 triangle-bytes) ≡ record { numbers = 6 ∷ []; map = empty_map }
unfolding reading sum_words number
changed = refl

-- two classes (document 02, request 2): a row length of 16, and 12 words
abbrev pair : Map
pair =
    record {
      k = 2;
      classes = 2;
      desk = 0;
      lot = 7;
      counts = 3 ∷ 4294967295 ∷ replicate 6 0 ++ 4 ∷ 9 ∷ replicate 502 0;
      neighbours = 2 ∷ 1 ∷ replicate 62 0;
    }

abbrev pair-bytes : ℕ → List ℕ
pair-bytes row =
    3 ∷ 0 ∷ 0 ∷ 0 ∷ 255 ∷ 255 ∷ 255 ∷ 255 ∷ 2 ∷ 0 ∷ 0 ∷ 0 ∷ 0 ∷ 0 ∷ 0 ∷ 0
    ∷ 4 ∷ 0 ∷ 0 ∷ 0 ∷ 9 ∷ 0 ∷ 0 ∷ 0 ∷ 1 ∷ 0 ∷ 0 ∷ 0 ∷ 0 ∷ 0 ∷ 0 ∷ 0
    ∷ 2 ∷ 0 ∷ row ∷ 0 ∷ 32 ∷ 0 ∷ 0 ∷ 0 ∷ 7 ∷ 0 ∷ 0 ∷ 0 ∷ 197 ∷ 255 ∷ 239 ∷ 255 ∷ []

pair-stored : stored_of pair ≡ pair-bytes 16
unfolding stored_of body_of trailer_bytes row_bytes count_bytes each bytes check_word sum_words number
pair-stored = refl

pair_reads : reading (pair-bytes 16) ≡ read_as pair
unfolding reading grid column tabulate each sum_words number verdict_of first_from member within any_below near
pair_reads = refl

-- each class has its own total, of every way; the second misses a reading
pair-totals : (totals 0 pair 0 ≡ record { sum = 7; missing = 0 }) × (totals 0 pair 1 ≡ record { sum = 9; missing = 1 })
    × (totals 1 pair 0 ≡ record { sum = 4; missing = 0 }) × (totals 2 pair 0 ≡ record { sum = 3; missing = 0 })
    × (totals 2 pair 1 ≡ record { sum = 9; missing = 1 }) × (totals 3 pair 1 ≡ record { sum = 1; missing = 1 })
unfolding fold_to cell_gathered cell_joined sum_joined empty_sum
pair-totals = (refl, refl, refl, refl, refl, refl)

-- "Opening with a way above 3 gets 12, after the map's numbers" (document 02, request 10)
pair-opens : (openable 3 pair ≡ accepted) × (openable 4 pair ≡ 12 ∷ []) × (openable 4 empty_map ≡ 2 ∷ [])
unfolding openable verdict_of first_from member within any_below near
pair-opens = (refl, refl, refl)

-- a row length of 12 leaves another distance, and one of 18 or 44 is refused
other-rows : ((reading (pair-bytes 12)).numbers ≡ 4 ∷ []) × ((reading (pair-bytes 18)).numbers ≡ 2 ∷ []) × ((reading (pair-bytes 44)).numbers ≡ 2 ∷ [])
unfolding reading number
other-rows = (refl, refl, refl)

-- the longest lot (document 02, request 4): its upper part stands beside the distance
abbrev unlinked : (k lot : ℕ) → Map
unlinked k lot = record { k = k; classes = 1; desk = 0; lot = lot; counts = 9 ∷ replicate 511 0; neighbours = replicate 64 0 }

abbrev longest : List ℕ
longest =
    9 ∷ 0 ∷ 0 ∷ 0 ∷ 0 ∷ 0 ∷ 0 ∷ 0 ∷ 0 ∷ 0 ∷ 0 ∷ 0
    ∷ 1 ∷ 0 ∷ 12 ∷ 0 ∷ 12 ∷ 0 ∷ 255 ∷ 255 ∷ 255 ∷ 255 ∷ 255 ∷ 255 ∷ 235 ∷ 255 ∷ 244 ∷ 255 ∷ []

longest-stored : stored_of (unlinked 1 281474976710655) ≡ longest
unfolding stored_of body_of trailer_bytes row_bytes count_bytes each bytes check_word sum_words number
longest-stored = refl

longest-reads : reading longest ≡ read_as (unlinked 1 281474976710655)
unfolding reading grid column tabulate each sum_words number verdict_of first_from member within any_below near
longest-reads = refl

-- "18 when a map handed over for writing has a lot of 2^48 or more, after 10 and before 15"
too_long : (writing (unlinked 1 281474976710656) 0 ≡ 18 ∷ []) × (writing (unlinked 2 281474976710656) 0 ≡ 10 ∷ 1 ∷ [])
unfolding writing verdict_of first_from member within any_below near
too_long = (refl, refl)

-- which only writing looks at
still_accepted : acceptance (unlinked 1 281474976710656) ≡ 0 ∷ []
unfolding verdict_of first_from member within any_below near
still_accepted = refl

-- "A map handed over with c not 1 to 8 gets 2, before 3"
no_classes : (acceptance empty_map ≡ 2 ∷ []) × (links_in empty_map ≡ 2 ∷ [])
no_classes = (refl, refl)

-- "The upper byte of the trailer's 2-byte field for k names the desk; k is the lower byte" (document 02, request 5)
abbrev desk_trailer : (k desk back : ℕ) → List ℕ
desk_trailer k desk back = k ∷ desk ∷ 12 ∷ 0 ∷ back ∷ 0 ∷ 0 ∷ 0 ∷ 42 ∷ 0 ∷ 0 ∷ 0 ∷ 138 ∷ 253 ∷ 243 ∷ 255 ∷ []

desk-stored : stored_of (at-desk 2) ≡ triangle-rows ++ desk_trailer 3 2 36
unfolding stored_of body_of trailer_bytes row_bytes count_bytes each bytes check_word sum_words number
desk-stored = refl

desk-reads : reading (triangle-rows ++ desk_trailer 3 2 36) ≡ read_as (at-desk 2)
unfolding reading grid column tabulate each sum_words number verdict_of first_from member within any_below near
desk-reads = refl

-- "19 when the desk is not below k, after 3": read, before 4; handed over
no_desk : ((reading (triangle-rows ++ desk_trailer 3 3 35)).numbers ≡ 19 ∷ []) × ((reading (triangle-rows ++ desk_trailer 0 3 36)).numbers ≡ 3 ∷ [])
    × (acceptance (at-desk 3) ≡ 19 ∷ [])
unfolding reading number verdict_of
no_desk = (refl, refl, refl)
