-- What the parts of `put_sheet` ask of each other and leave.
use Rattle.std.specs.Prelude.{◌≡◌, ℕ, ◌^◌, ◌≤◌, ◌<◌, List, get_or}
use Rattle.finite.specs.Internal.Putting.{Room, Put}
use Rattle.aggregate.specs.declared.Cell.{Cell}
use Rattle.aggregate.specs.declared.Aggregate.{Aggregate}
use Rattle.aggregate.specs.Aggregate.{cell}
use Rattle.linemap.specs.declared.Map.{Map}
use Rattle.linemap.specs.Maps.{place}
use Rattle.sheet.specs.declared.Writer.{Writer}

-- vs was put into l from `at` on, if there was room for it
pub record Lays (l : List ℕ) (at : ℕ) (vs l' : List ℕ) (r : ℕ) : Type 0 where
  pub put : Room l at vs → Put l at vs l' r

-- so it was from a writer's place on, the place is the one after it, and the buffer is the same
pub record Puts (w : Writer) (vs : List ℕ) (w' : Writer) : Type 0 where
  pub same : w'.buf.ghost_name ≡ w.buf.ghost_name
  pub lays : Lays w.buf.now w.at vs w'.buf.now w'.at

-- a number fits its columns
pub record Narrow (width n : ℕ) : Type 0 where
  pub some : 1 ≤ width
  pub few : width ≤ 20
  pub below : n < 10 ^ width

-- a class's total and missing number fit theirs
pub record NarrowCell (x : Cell) : Type 0 where
  pub total : x.sum < 10 ^ 12
  pub missing : x.missing ≤ 64

-- the numbers of a sheet fit theirs: a map's, and those of the totals, one a class
pub record NarrowSheet (m : Map) (held : Aggregate) : Type 0 where
  pub lot : m.lot < 2 ^ 48
  pub stations : m.k ≤ 64
  pub classes : m.classes ≤ 8
  pub cells : (j : ℕ) → j < m.classes → NarrowCell (cell held j)

-- P holds of every number below n
pub record AllBelow (n : ℕ) (P : ℕ → Type 0) : Type 0 where
  pub at : (i : ℕ) → i < n → P i

-- the first n counts of station i have 32 bits
abbrev pub FitStation : List ℕ → ℕ → ℕ → Type 0
FitStation counts i n = AllBelow n (λ j. get_or counts (place i j) 0 < 2 ^ 32)

-- those of the first n stations have, c of each
abbrev pub FitStations : List ℕ → ℕ → ℕ → Type 0
FitStations counts c n = AllBelow n (λ i. FitStation counts i c)
