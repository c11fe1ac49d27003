-- What reading gives (document 01, "The line map" and "Causes and numbers": "Reading goes 1 to 10"; document 02, request 2: c counts in a
-- row; request 4: longer lots; request 5: the desk).
use Rattle.std.specs.Prelude.{ℕ, ◌+◌, ◌-◌, ◌*◌, ◌/◌, ◌%◌, ◌^◌, Bool, ◌&&◌, List, [], ◌∷◌, ◌++◌, length, replicate, ◌==◌, nat_le, nat_lt, Result, Ok, Err}
use Rattle.topology.specs.Answer.{accepted, is_accepted}
use Rattle.finite.specs.Tests.{unless}
use Rattle.topology.specs.Acceptance.{fault_numbers}
use Rattle.bitset.specs.Set.{is_station_count}
use Rattle.topology.specs.declared.Fault.TheVariants.{Classes, Stations, Desk}
use Rattle.finite.specs.Numbers.{number}
use Rattle.linemap.specs.Words.{sum_words}
use Rattle.finite.specs.Below.{each, tabulate}
use Rattle.linemap.specs.Maps.{acceptance}
use Rattle.linemap.specs.Stored.{row_length, trailer_length, stored_length, word_count}
use Rattle.linemap.specs.declared.Map.{Map}
use Rattle.linemap.specs.declared.ReadFault.{ReadFault}
use Rattle.linemap.specs.declared.ReadFault.TheVariants.{Short, Distance, Rows, CheckWord, Unfit}

-- "Causes and numbers": the number of each refusal, with its values. `read_pins` (proofs/Answers) says that the numbers tell the
-- answers apart.
abbrev pub read_fault_numbers : ReadFault → List ℕ
read_fault_numbers Short = 1 ∷ []
read_fault_numbers Distance = 4 ∷ []
read_fault_numbers Rows = 5 ∷ []
read_fault_numbers CheckWord = 6 ∷ []
read_fault_numbers (Unfit fault) = fault_numbers fault

-- 0 where nothing is refused
abbrev pub read_numbers : Result Map ReadFault → List ℕ
read_numbers (Ok m) = accepted
read_numbers (Err fault) = read_fault_numbers fault

-- what a reading comes to: the number with its values, and the map
pub record ReadOutcome : Type 0 where
  pub numbers : List ℕ
  pub map : Map

-- the map of a refused reading: all zero
abbrev pub empty_map : Map
empty_map = record { k = 0; classes = 0; desk = 0; lot = 0; counts = replicate 512 0; neighbours = replicate 64 0 }

-- a refusal hands back the empty map
abbrev pub read_refused : ReadFault → ReadOutcome
read_refused fault = record { numbers = read_fault_numbers fault; map = empty_map }

-- the map that was read
abbrev pub read_as : Map → ReadOutcome
read_as m = record { numbers = accepted; map = m }

-- what a read answers, as numbers, and its map: the empty one where it is refused
abbrev pub read_outcome_of : Result Map ReadFault → ReadOutcome
read_outcome_of (Ok m) = record { numbers = read_numbers (Ok m); map = m }
read_outcome_of (Err fault) = record { numbers = read_numbers (Err fault); map = empty_map }

-- "The map is the last one in the lent bytes and ends with them: the last 16 are its trailer"
abbrev pub trailer_in : List ℕ → ℕ
trailer_in s = length s - trailer_length

-- the trailer's fields: "k (2 bytes), row length 12 (2), distance back .. (4), lot (4)"
-- of the first "k is the lower byte" (document 02, request 5)
abbrev pub stations_in : List ℕ → ℕ
stations_in s = number s (trailer_in s) 1

-- "The upper byte of the trailer's 2-byte field for k names the desk" (document 02, request 5)
abbrev pub desk_in : List ℕ → ℕ
desk_in s = number s (trailer_in s + 1) 1

-- "row length 12 (2)"
abbrev pub row_length_in : List ℕ → ℕ
row_length_in s = number s (trailer_in s + 2) 2

-- "row length not one of 12, 16, .. 40" is refused (document 02, request 2)
abbrev pub is_row_length : ℕ → Bool
is_row_length w = w % 4 == 0 && nat_le 12 w && nat_le w 40

-- "the row length is 8 + 4 × c" (document 02, request 2): c of a row length
abbrev pub classes_of : ℕ → ℕ
classes_of w = (w - 8) / 4

-- the class count of the row length found
abbrev pub classes_in : List ℕ → ℕ
classes_in s = classes_of (row_length_in s)

-- "it keeps the lower 2 bytes of its field"; 4 "tests the lower half only" (document 02, request 4)
abbrev pub distance_in : List ℕ → ℕ
distance_in s = number s (trailer_in s + 4) 2

-- "lot (4)"; "The upper 2 bytes become bits 32 to 47 of the lot" (document 02, request 4)
abbrev pub lot_in : List ℕ → ℕ
lot_in s = number s (trailer_in s + 8) 4 + 2 ^ 32 * number s (trailer_in s + 6) 2

-- where the first row starts; "what stands before it is not read"
abbrev pub start_in : List ℕ → ℕ
start_in s = length s - stored_length (classes_in s) (stations_in s)

-- so many places, f of each place below n: "Reading gives zero in places k and above"
unfoldable pub column : ℕ → (ℕ → ℕ) → ℕ → List ℕ
column size f n = tabulate n f ++ replicate (size - n) 0

-- 64 stations of 8 places, f i j in place j of station i below c and k: "places past c go as those past k" (document 02, request 2)
unfoldable pub grid : (ℕ → ℕ → ℕ) → ℕ → ℕ → List ℕ
grid f c k = each (λ i. column 8 (f i) c) k ++ replicate (8 * (64 - k)) 0

-- count j of the row from `at`: "count 4"
abbrev pub count_in : List ℕ → ℕ → ℕ → ℕ
count_in s at j = number s (at + 4 * j) 4

-- the map of k rows with c counts from `start`: c counts "before its set" (document 02, request 2), "set 8"
abbrev pub map_at : List ℕ → ℕ → ℕ → ℕ → ℕ → ℕ → Map
map_at s c k desk lot start =
    let counts = grid (λ i. count_in s (start + row_length c * i)) c k in
    let neighbours = column 64 (λ i. number s (start + row_length c * i + 4 * c) 8) k in
    record { k = k; classes = c; desk = desk; lot = lot; counts = counts; neighbours = neighbours }

-- 7 to 10 (2, 3 and 19 are tested before)
abbrev pub judged : Map → ReadOutcome
judged m = unless (is_accepted (acceptance m)) (record { numbers = acceptance m; map = empty_map }) (read_as m)

-- "Reading goes 1 to 10"; 19 "after 3" (document 02, request 5)
unfoldable pub reading : List ℕ → ReadOutcome
reading s =
    unless (nat_le trailer_length (length s)) (read_refused Short)
    (unless (is_row_length (row_length_in s)) (read_refused (Unfit Classes))
    (unless (is_station_count (stations_in s)) (read_refused (Unfit Stations))
    (unless (nat_lt (desk_in s) (stations_in s)) (read_refused (Unfit Desk))
    (unless (distance_in s == row_length_in s * stations_in s) (read_refused Distance)
    (unless (nat_le (stored_length (classes_in s) (stations_in s)) (length s)) (read_refused Rows)
    (unless (sum_words s (start_in s) (word_count (classes_in s) (stations_in s)) == 0) (read_refused CheckWord)
    (judged (map_at s (classes_in s) (stations_in s) (desk_in s) (lot_in s) (start_in s)))))))))
