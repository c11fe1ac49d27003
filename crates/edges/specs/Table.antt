-- The thirteen examples of document 01's "Edges" that are marked *, typed from there, with what it says of each. `table_holds` (proofs/Holds)
-- is the theorem that the rules give each row.
use Rattle.std.specs.Prelude.{◌≡◌, false, ℕ, length, replicate}
use mathlib.Core.List.{List, [], ◌∷◌, ◌++◌, map, flat_map}
use Prim.Native.String.{String}
use Rattle.aggregate.specs.Ways.{summing}
use Rattle.linemap.specs.declared.Map.{Map}
use Rattle.finite.specs.Numbers.{bytes}
use Rattle.linemap.specs.Stored.{body_of, stored_of}
use Rattle.schedule.specs.declared.Step.{Step}
use Rattle.schedule.specs.Listing.{step}
use Rattle.schedule.specs.Draws.{step_on, draw_on, run_on}
use Rattle.rendezvous.specs.Net.{Net}
use Rattle.rendezvous.specs.Figure.{report}
use Rattle.rendezvous.specs.Rules.{rules}
use Rattle.rendezvous.specs.Opening.{fresh_on}
use Rattle.text.specs.Ascii.{ascii}
use Rattle.program.specs.Output.{output_of}

-- what an example gives: the program's input, or a single step or a draw in the net that a run leaves
pub data Given : Type 0 where
  input : List ℕ → Given
  step_after : Map → List ℕ → Step → Given
  draw_after : Map → List ℕ → ℕ → Given

-- the net that a run of a map leaves
abbrev pub net_after : Map → List ℕ → Net
net_after m draws = (run_on rules (fresh_on false summing m) draws).net

-- what the rules make of it: the bytes written, or the number of the call
abbrev pub outcome : Given → List ℕ
outcome (input s) = output_of s
outcome (step_after m draws s) = (step_on rules (net_after m draws) s).number ∷ []
outcome (draw_after m draws d) = (draw_on rules (net_after m draws) d).number ∷ []

-- "draws, 2 bytes each, then a map"
abbrev pub runs : List ℕ → Map → Given
runs draws m = input (flat_map (bytes 2) draws ++ stored_of m)

-- a map of one class, of these counts and sets: a station's count is the first of its eight places
abbrev pub map_of : List ℕ → List ℕ → Map
map_of counts sets =
    record { k = length counts; classes = 1; desk = 0; lot = 42; counts = flat_map (λ (n : ℕ). n ∷ replicate 7 0) counts; neighbours = sets }

-- "counts 5, 7, 11; sets 6, 5, 3; lot 42"
abbrev pub triangle : Map
triangle = map_of (5 ∷ 7 ∷ 11 ∷ []) (6 ∷ 5 ∷ 3 ∷ [])

-- "seven draws of 0"
abbrev pub zeros : ℕ → List ℕ
zeros n = replicate n 0

-- lines of output, each with its line feed
abbrev pub lines : List String → List ℕ
lines = flat_map (λ (line : String). ascii line ++ ascii "\n")

-- an example: what it gives, and what document 01 says comes of it
pub record Row : Type 0 where
  pub given : Given
  pub expected : List ℕ

-- the two together
abbrev pub row : Given → List ℕ → Row
row given expected = record { given = given; expected = expected }

-- the thirteen, in document 01's order (Edges)
abbrev pub table : List Row
table =
    -- "k = 1, count 9, one draw: report 9, 1 step, 0 links"; answer and report lines end with the missing number (document 02, request 1)
    row (runs (zeros 1) (map_of (9 ∷ []) (0 ∷ []))) (lines ("report 0 9 0" ∷ "lot 42 steps 1 links 0" ∷ []))
    -- "k = 2, link 0–1, counts 3 and 4: 7 in 3 steps"
    ∷ row (runs (zeros 3) (map_of (3 ∷ 4 ∷ []) (2 ∷ 1 ∷ [])))
    (lines ("wake 0 1" ∷ "answer 1 0 4 0" ∷ "report 0 7 0" ∷ "lot 42 steps 3 links 1" ∷ []))
    -- "The triangle above": seven draws of 0, check word 4294180746
    ∷ row (input (flat_map (bytes 2) (zeros 7) ++ body_of triangle ++ bytes 4 4294180746))
    (lines ("wake 0 1" ∷ "wake 0 2" ∷ "pass 1 2" ∷ "pass 2 1" ∷ "answer 1 0 7 0" ∷ "answer 2 0 11 0" ∷ "report 0 23 0" ∷ "lot 42 steps 7 links 3" ∷ []))
    -- "The triangle with draws 0, 1, 0, 0, 0, 0, 0: wake 0 1, wake 1 2, pass 0 2, pass 2 0, answer 2 1 11, answer 1 0 18, report 0 23"
    ∷ row (runs (0 ∷ 1 ∷ zeros 5) triangle)
    (lines ("wake 0 1" ∷ "wake 1 2" ∷ "pass 0 2" ∷ "pass 2 0" ∷ "answer 2 1 11 0" ∷ "answer 1 0 18 0" ∷ "report 0 23 0" ∷ "lot 42 steps 7 links 3" ∷ []))
    -- "Six zero draws on it: 6 steps, no report"
    ∷ row (runs (zeros 6) triangle)
    (lines ("wake 0 1" ∷ "wake 0 2" ∷ "pass 1 2" ∷ "pass 2 1" ∷ "answer 1 0 7 0" ∷ "answer 2 0 11 0" ∷ "lot 42 steps 6 links 3" ∷ []))
    -- "No draws: 0 steps"
    ∷ row (runs [] triangle) (lines ("lot 42 steps 0 links 3" ∷ []))
    -- "Set 1 for k = 1: 8"
    ∷ row (runs [] (map_of (9 ∷ []) (1 ∷ []))) (lines ("refused 8 station 0" ∷ []))
    -- "Two empty sets: 10 with station 1"
    ∷ row (runs [] (map_of (3 ∷ 4 ∷ []) (0 ∷ 0 ∷ []))) (lines ("refused 10 station 1" ∷ []))
    -- "Sets 2 and 0: 9 with station 0"
    ∷ row (runs [] (map_of (3 ∷ 4 ∷ []) (2 ∷ 0 ∷ []))) (lines ("refused 9 station 0" ∷ []))
    -- "Set 4 at station 0 of two: 7"
    ∷ row (runs [] (map_of (3 ∷ 4 ∷ []) (4 ∷ 0 ∷ []))) (lines ("refused 7 station 0" ∷ []))
    -- "15 bytes: 1"
    ∷ row (input (zeros 15)) (lines ("refused 1" ∷ []))
    -- "A report on the fresh triangle: 13"
    ∷ row (step_after triangle [] (step report 0 0)) (13 ∷ [])
    -- "A draw after its report: 14"
    ∷ row (draw_after triangle (zeros 7) 0) (14 ∷ [])
    ∷ []

-- the rules give each of them
abbrev pub TableHolds : Type 0
TableHolds = map (λ (r : Row). outcome r.given) table ≡ map (λ (r : Row). r.expected) table
