-- The stored form of a line map (document 01, "The line map", second paragraph; document 02, request 2: c counts in a row;
-- request 4: longer lots; request 5: the desk).
use Rattle.std.specs.Prelude.{ℕ, ◌+◌, ◌-◌, ◌*◌, ◌/◌, ◌%◌, ◌^◌, List, ◌++◌, slice_index}
use Rattle.finite.specs.Numbers.{bytes}
use Rattle.linemap.specs.Words.{sum_words}
use Rattle.finite.specs.Below.{each}
use Rattle.linemap.specs.Maps.{place}
use Rattle.linemap.specs.declared.Map.{Map}

-- "the row length is 8 + 4 × c" (document 02, request 2)
abbrev pub row_length : ℕ → ℕ
row_length c = 8 + 4 * c

-- "a trailer of 16 bytes"
abbrev pub trailer_length : ℕ
trailer_length = 16

-- k rows and the trailer, in bytes; "4, 5 and 15 use the row length found" (document 02, request 2)
abbrev pub stored_length : ℕ → ℕ → ℕ
stored_length c k = row_length c * k + trailer_length

-- the bytes that a map fills
abbrev pub length_of : Map → ℕ
length_of m = stored_length m.classes m.k

-- "(c + 2) × k + 4 words" (document 02, request 2): all the words of 32 bits
abbrev pub word_count : ℕ → ℕ → ℕ
word_count c k = stored_length c k / 4

-- "c counts, 1 to 8, before its set" (document 02, request 2): those of station i
unfoldable pub count_bytes : ℕ → List ℕ → ℕ → List ℕ
count_bytes c counts i = each (λ j. bytes 4 (slice_index counts (place i j))) c

-- row i: "count 4, set 8", with c counts
unfoldable pub row_bytes : ℕ → List ℕ → List ℕ → ℕ → List ℕ
row_bytes c counts neighbours i = count_bytes c counts i ++ bytes 8 (slice_index neighbours i)

-- the trailer, but for the check word: "k (2 bytes), row length 12 (2), distance back from the trailer's first byte to the first
-- row", for rows of w bytes "the row length times k" (document 02, request 2), which "keeps the lower 2 bytes of its field. The upper 2
-- bytes become bits 32 to 47 of the lot" (request 4), "lot (4)". "The upper byte of the trailer's 2-byte field for k names the desk; k is the
-- lower byte" (request 5)
unfoldable pub trailer_bytes : ℕ → ℕ → ℕ → ℕ → List ℕ
trailer_bytes w k desk lot = bytes 1 k ++ bytes 1 desk ++ bytes 2 w ++ bytes 2 (w * k) ++ bytes 2 (lot / 2 ^ 32) ++ bytes 4 (lot % 2 ^ 32)

-- all but the check word
unfoldable pub body_of : Map → List ℕ
body_of m =
    each (row_bytes m.classes m.counts m.neighbours) m.k ++ trailer_bytes (row_length m.classes) m.k m.desk m.lot

-- what takes a sum of words to zero
unfoldable pub check_word : ℕ → ℕ
check_word sum = (2 ^ 32 - sum) % 2 ^ 32

-- "check word (4)": all words "added with wrap at 2^32, give zero"
unfoldable pub stored_of : Map → List ℕ
stored_of m = body_of m ++ bytes 4 (check_word (sum_words (body_of m) 0 (word_count m.classes m.k - 1)))
