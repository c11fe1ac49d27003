-- What the parts of `put_output` ask of each other and leave.
use Rattle.std.specs.Prelude.{◌≡◌, ℕ, ◌≤◌, length, take, drop}
use mathlib.Core.List.{List, [], ◌∷◌, flat_map}
use Rattle.topology.specs.Answer.{accepted}
use Rattle.linemap.specs.Maps.{acceptance}
use Rattle.finite.specs.Internal.Putting.{Room, Put}
use Rattle.text.specs.declared.Line.{Line}
use Rattle.text.specs.Text.{text_of}
use Rattle.opening.specs.declared.Opening.{Opening}
use Rattle.opening.specs.Opening.{input_opening}
use Rattle.program.specs.Output.{closing_line, lines_of, output_of, most_lines, output_room}

-- the bytes of these lines
abbrev pub bytes_of : List Line → List ℕ
bytes_of = flat_map text_of

-- the input s opens this map, which is accepted, with so many draws
pub record Opens (s : List ℕ) (o : Opening) : Type 0 where
  pub opens : input_opening s ≡ record { numbers = 0 ∷ o.draws ∷ []; map = o.map }
  pub good : acceptance o.map ≡ accepted

-- the lines for the input s are no more than the buffer l has room for
pub record Roomy (s l : List ℕ) : Type 0 where
  pub few : length (lines_of s) ≤ most_lines
  pub room : output_room ≤ length l

-- the lines of all steps for the input s stand at the front of the buffer, which was l: `made` lines, up to `end`; only the closing line
-- is left
pub record StepsPut (s l : List ℕ) (made end : ℕ) (l' : List ℕ) : Type 0 where
  pub closing : drop made (lines_of s) ≡ closing_line (input_opening s).map made ∷ []
  pub put : Put l 0 (bytes_of (take made (lines_of s))) l' end

-- the whole output for the input s has room in the buffer l, and stands at its front, up to r
pub record Filled (s l l' : List ℕ) (r : ℕ) : Type 0 where
  pub room : Room l 0 (output_of s)
  pub put : Put l 0 (output_of s) l' r
