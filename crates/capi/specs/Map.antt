-- Line maps from C: a reading into a lent map, a writing into lent bytes (document 01, "The line map"), and a grower sheet (document 02,
-- request 7).
use Rattle.std.specs.Prelude.{List, ℕ, length}
use Rattle.linemap.specs.declared.Map.{Map}
use Rattle.linemap.specs.Reading.{reading}
use Rattle.linemap.specs.Writing.{writing, written}
use Rattle.sheet.specs.Sheet.{SheetOutcome}
use Rattle.capi.specs.Answers.{packed, Called, called, replacing}

-- "Reading goes 1 to 10" (Causes and numbers), with 19 after 3 (document 02, request 5)
abbrev pub read_call : List ℕ → Map → Called ℕ Map
read_call s before = replacing (reading s).numbers before (reading s).map

-- "a map handed over goes 3, 7 to 10, and to be written then 15" (Causes and numbers), with 19 after 3 and 18 before 15 (document 02, requests
-- 5 and 4)
abbrev pub write_call : Map → List ℕ → Called ℕ (List ℕ)
write_call m s = called (packed (writing m (length s))) (written m s)

-- a grower sheet: its number with its values, packed, and the bytes that it leaves (document 02, request 7)
abbrev pub sheet_call : SheetOutcome → Called ℕ (List ℕ)
sheet_call o = called (packed o.numbers) o.buffer
