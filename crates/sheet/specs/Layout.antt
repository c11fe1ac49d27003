-- The lines of the grower sheet, byte by byte (document 02, request 7): "Each line is exactly 40 bytes and a line feed. Numbers are
-- right-aligned in the columns given; blanks fill the line."
use Rattle.std.specs.Prelude.{cond, List, ◌++◌, ℕ, ◌+◌, ◌-◌, length, replicate}
use Prim.Native.Char.{code}
use Rattle.finite.specs.Below.{each}
use Rattle.aggregate.specs.declared.Cell.{Cell}
use Rattle.aggregate.specs.declared.Aggregate.{Aggregate}
use Rattle.aggregate.specs.Aggregate.{is_missing, cell}
use Rattle.text.specs.Ascii.{ascii}
use Rattle.text.specs.Text.{digits, padded}
use Rattle.linemap.specs.declared.Map.{Map}
use Rattle.linemap.specs.Maps.{count_at}

-- "Numbers are right-aligned in the columns given": all digits of n, in w columns. Nothing is cut, and no number of a sheet needs more
-- columns than it is given: `Sheets` (specs/Adding) says so.
unfoldable pub column : ℕ → ℕ → List ℕ
column w n = padded w (digits 20 n)

-- a number and the "blank" after it
unfoldable pub spaced : ℕ → ℕ → List ℕ
spaced w n = column w n ++ ascii " "

-- "Each line is exactly 40 bytes and a line feed"; "blanks fill the line"
unfoldable pub line : List ℕ → List ℕ
line text = text ++ (replicate (40 - length text) (code " ") ++ ascii "\n")

-- "First the lot (15)"
unfoldable pub lot_line : ℕ → List ℕ
lot_line lot = line (column 15 lot)

-- "count (10). A missing count shows ten hyphens."
unfoldable pub count_column : ℕ → List ℕ
count_column count = cond (is_missing count) (ascii "----------") (column 10 count)

-- "station (2), blank, class from 1 (1), blank, count (10)": station i, class j counted from 0
unfoldable pub count_line : ℕ → ℕ → ℕ → List ℕ
count_line i j count = line (spaced 2 i ++ spaced 1 (j + 1) ++ count_column count)

-- "letter T, two blanks, class (1), blank, total (12), blank, missing number (2)"
unfoldable pub total_line : ℕ → Cell → List ℕ
total_line j x = line (ascii "T  " ++ spaced 1 (j + 1) ++ spaced 12 x.sum ++ column 2 x.missing)

-- of one station "each class in rising order"
unfoldable pub station_lines : Map → ℕ → List ℕ
station_lines m i = each (λ j. count_line i j (count_at m i j)) m.classes

-- "Last, one line a class", of what the desk holds
unfoldable pub total_lines : ℕ → Aggregate → List ℕ
total_lines c held = each (λ j. total_line j (cell held j)) c

-- "First the lot", "Then for each station in rising order, and within it each class in rising order", "Last, one line a class"
unfoldable pub sheet_of : Map → Aggregate → List ℕ
sheet_of m held = lot_line m.lot ++ each (station_lines m) m.k ++ total_lines m.classes held
