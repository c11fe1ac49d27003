-- Writing and reading undo each other (document 01, "The line map": "the bytes it fills are what reads back. Equal maps agree in k,
-- lot and all places below k"; document 02, request 2: "Equal maps agree in c too"; request 5: "Equal maps agree in the desk too").
-- `round_trips` (proofs/RoundTrips) proves both halves.
use Rattle.std.specs.Prelude.{◌≡◌, ℕ, ◌-◌, ◌^◌, ◌<◌, ◌≤◌, List, ◌++◌, length, drop, slice_index, Ok}
use Rattle.topology.specs.Answer.{accepted}
use Rattle.linemap.specs.Maps.{count_at, acceptance}
use Rattle.linemap.specs.Stored.{length_of, stored_of}
use Rattle.linemap.specs.Reading.{read_as, column, grid, reading}
use Rattle.linemap.specs.Writing.{write_numbers, writing}
use Rattle.linemap.specs.declared.Map.{Map}

-- counts and sets fit their fields, as in every map that code holds; the lot may be any number
pub record Fits (m : Map) : Type 0 where
  pub counts : (p : ℕ) → slice_index m.counts p < 2 ^ 32
  pub neighbours : (i : ℕ) → slice_index m.neighbours i < 2 ^ 64

-- "Equal maps agree in k, lot and all places below k"; "Equal maps agree in c too" (document 02, request 2), "in the
-- desk too" (request 5)
pub record Equal (m n : Map) : Type 0 where
  pub k : m.k ≡ n.k
  pub classes : m.classes ≡ n.classes
  pub desk : m.desk ≡ n.desk
  pub lot : m.lot ≡ n.lot
  pub counts : (i j : ℕ) → i < m.k → j < m.classes → count_at m i j ≡ count_at n i j
  pub neighbours : (i : ℕ) → i < m.k → slice_index m.neighbours i ≡ slice_index n.neighbours i

-- m with zero in the places past k and past c
abbrev pub cleared_of : Map → Map
cleared_of m =
    let counts = grid (count_at m) m.classes m.k in
    let neighbours = column 64 (λ i. slice_index m.neighbours i) m.k in
    record { k = m.k; classes = m.classes; desk = m.desk; lot = m.lot; counts = counts; neighbours = neighbours }

-- "the bytes it fills are what reads back. Equal maps agree in k, lot and all places below k" (The line map)
pub record RoundTrips : Type 0 where
  -- what is written reads back, whatever stands before it: the same k, c, desk and lot, the same places below them, zero above; "a lot of 2^48 or
  -- more" is not written (document 02, request 4)
  pub written-reads : (m : Map) → Fits m → m.lot < 2 ^ 48 → acceptance m ≡ accepted → (before : List ℕ)
      → reading (before ++ stored_of m) ≡ read_as (cleared_of m)
  -- which is a map equal to the one written
  pub cleared_equal : (m : Map) → acceptance m ≡ accepted → Equal (cleared_of m) m
  -- equal maps are written the same
  pub equal_written : (m n : Map) → Equal m n → stored_of m ≡ stored_of n
  -- what is read can be written, given the bytes for it
  pub read_writable : (s : List ℕ) (m : Map) → ((i : ℕ) → slice_index s i < 2 ^ 8) → reading s ≡ read_as m → (n : ℕ) → length_of m ≤ n
      → writing m n ≡ write_numbers (Ok (length_of m))
  -- and is written back as the bytes it was read from
  pub read_writes : (s : List ℕ) (m : Map) → ((i : ℕ) → slice_index s i < 2 ^ 8) → reading s ≡ read_as m
      → stored_of m ≡ drop (length s - length_of m) s
