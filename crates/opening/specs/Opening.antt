-- What the program's input opens (document 01, "The program": "Standard input is draws, 2 bytes each, then a map").
use Rattle.std.specs.Prelude.{List, [], ◌∷◌, ℕ, ◌*◌, ◌-◌, ◌/◌, ◌%◌, leb, eqb, length, Result, Ok, Err}
use Rattle.finite.specs.Below.{tabulate}
use Rattle.topology.specs.Answer.{is_accepted}
use Rattle.finite.specs.Tests.{unless}
use Rattle.linemap.specs.declared.Map.{Map}
use Rattle.finite.specs.Numbers.{number}
use Rattle.linemap.specs.Stored.{length_of}
use Rattle.linemap.specs.Reading.{read_fault_numbers, ReadOutcome, empty_map, reading}
use Rattle.opening.specs.declared.OpenFault.{OpenFault}
use Rattle.opening.specs.declared.OpenFault.TheVariants.{TooLong, Unread, Odd}
use Rattle.opening.specs.declared.Opening.{Opening}

-- "Causes and numbers": the number of each refusal, with its values
abbrev pub open_fault_numbers : OpenFault → List ℕ
open_fault_numbers TooLong = 17 ∷ []
open_fault_numbers (Unread fault) = read_fault_numbers fault
open_fault_numbers Odd = 16 ∷ []

-- a refusal opens no map
abbrev pub open_refused : List ℕ → ReadOutcome
open_refused numbers = record { numbers = numbers; map = empty_map }

-- 0 and the number of draws where nothing is refused
abbrev pub open_numbers : Result Opening OpenFault → List ℕ
open_numbers (Ok o) = 0 ∷ o.draws ∷ []
open_numbers (Err fault) = open_fault_numbers fault

-- what an opening comes to: the number with its values, and the map
abbrev pub open_outcome_of : Result Opening OpenFault → ReadOutcome
open_outcome_of (Ok o) = record { numbers = open_numbers (Ok o); map = o.map }
open_outcome_of (Err fault) = open_refused (open_fault_numbers fault)

-- "input above 65,536 bytes"
abbrev pub most_bytes : ℕ
most_bytes = 65536

-- the bytes before the map, which ends the input
abbrev pub bytes_before : List ℕ → Map → ℕ
bytes_before s m = length s - length_of m

-- "Order: 17, 1 to 10, 16"; reading has 19 after 3 (document 02, request 5)
unfoldable pub input_opening : List ℕ → ReadOutcome
input_opening s =
    unless (leb (length s) most_bytes) (open_refused (open_fault_numbers TooLong))
    (unless (is_accepted (reading s).numbers) (open_refused (reading s).numbers)
    (unless (eqb (bytes_before s (reading s).map % 2) 0) (open_refused (open_fault_numbers Odd))
    (record { numbers = 0 ∷ bytes_before s (reading s).map / 2 ∷ []; map = (reading s).map })))

-- "draws, 2 bytes each": draw i, counted from 0, lowest byte first
unfoldable pub draw_at : List ℕ → ℕ → ℕ
draw_at s i = number s (2 * i) 2

-- the first n draws
abbrev pub draws_in : List ℕ → ℕ → List ℕ
draws_in s n = tabulate n (draw_at s)
