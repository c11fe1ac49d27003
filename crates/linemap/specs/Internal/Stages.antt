-- What the parts of the reader and the writer say.
use Rattle.std.specs.Prelude.{ℕ, ◌+◌, ◌-◌, ◌*◌, List, length, slice_index, ◌==◌, nat_le, nat_lt, ⊤, Option, Some, None, Result, Ok, Err}
use Rattle.std.proofs.lemmas.List.Edits.{sets}
use Rattle.finite.specs.Tests.{unless}
use Rattle.finite.specs.Below.{each}
use Rattle.bitset.specs.Set.{is_station_count}
use Rattle.topology.specs.declared.Fault.TheVariants.{Classes, Stations, Desk}
use Rattle.finite.specs.Numbers.{number, bytes}
use Rattle.linemap.specs.Words.{sum_words}
use Rattle.linemap.specs.Stored.{trailer_length, stored_length, word_count}
use Rattle.linemap.specs.Reading.{ReadOutcome, read_refused, is_row_length, map_at, judged}
use Rattle.linemap.specs.Reading.{stations_in, desk_in, row_length_in, distance_in, lot_in}
use Rattle.linemap.specs.declared.ReadFault.{ReadFault}
use Rattle.linemap.specs.declared.ReadFault.TheVariants.{Distance, Rows, CheckWord, Unfit}
use Rattle.linemap.specs.declared.reading.Trailer.{Trailer}
use Rattle.linemap.specs.declared.reading.Row.{Row}

-- the list l with vs stored from `at` on
unfoldable pub put : List ℕ → ℕ → List ℕ → List ℕ
put l at vs = sets l at vs

-- the counts of a row, "count 4"
unfoldable pub bytes_of_counts : List ℕ → List ℕ
bytes_of_counts counts = each (λ j. bytes 4 (slice_index counts j)) (length counts)

-- the trailer's fields
abbrev pub fields_of : List ℕ → Trailer
fields_of s =
    record { stations = stations_in s; desk = desk_in s; row_length = row_length_in s; distance = distance_in s; lot = lot_in s }

-- the trailer, unless there are fewer bytes than it has
unfoldable pub trailer_of : List ℕ → Option Trailer
trailer_of s = unless (nat_le trailer_length (length s)) None (Some (fields_of s))

-- the rules 2, 3, 19 and 4 on the row length, k, the desk and the distance
unfoldable pub trailer_answer : Trailer → Result ⊤ ReadFault
trailer_answer t =
    unless (is_row_length t.row_length) (Err (Unfit Classes))
    (unless (is_station_count t.stations) (Err (Unfit Stations))
    (unless (nat_lt t.desk t.stations) (Err (Unfit Desk))
    (unless (t.distance == t.row_length * t.stations) (Err Distance) (Ok tt))))

-- the row of w bytes that starts so many bytes before the end, if that is within the bytes: its place, and its set, the last 8 bytes
unfoldable pub row_of : List ℕ → ℕ → ℕ → Option Row
row_of s w back =
    unless (nat_le back (length s)) None (Some (record { at = length s - back; set = number s (length s - back + (w - 8)) 8 }))

-- the rules 5 to 10 on the rows of k stations, with c counts each
unfoldable pub rows_outcome : List ℕ → ℕ → ℕ → ℕ → ℕ → ReadOutcome
rows_outcome s c k desk lot =
    unless (nat_le (stored_length c k) (length s)) (read_refused Rows)
    (unless (sum_words s (length s - stored_length c k) (word_count c k) == 0) (read_refused CheckWord)
    (judged (map_at s c k desk lot (length s - stored_length c k))))
