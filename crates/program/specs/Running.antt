-- What a whole run of the program says of its input. What was read is the outside's: no definition gives it.
use Rattle.std.specs.Prelude.{◌≡◌, List, ℕ, suc, ◌≤◌, take, Option, Some, None}
use Rattle.opening.specs.Opening.{most_bytes}
use Rattle.program.specs.Output.{output_of}

-- "input above 65,536 bytes" (Causes and numbers): at most one byte more is read, so that it is seen
abbrev pub input_room : ℕ
input_room = suc most_bytes

-- so many bytes were read, at most n, or a read failed
abbrev pub Within : Option ℕ → ℕ → Type 0
Within (Some m) n = m ≤ n
Within None n = Unit {0}

-- what stands past those bytes changes nothing of the output: `front_enough` (proofs/Inputs) proves it
abbrev pub FrontEnough : Type 0
FrontEnough = (s : List ℕ) → output_of (take input_room s) ≡ output_of s
