-- The lines of the program's output, byte by byte (document 01, "The program").
use Rattle.std.specs.Prelude.{cond, List, [], ◌∷◌, ◌++◌, ℕ, zero, suc, ◌+◌, ◌-◌, ◌/◌, ◌%◌, ltb, leb, length, replicate}
use Prim.Native.Char.{code}
use Rattle.finite.specs.Below.{each}
use Rattle.aggregate.specs.declared.Config.{Config}
use Rattle.aggregate.specs.declared.Cell.{Cell}
use Rattle.aggregate.specs.declared.Aggregate.{Aggregate}
use Rattle.aggregate.specs.Aggregate.{used, cell}
use Rattle.text.specs.declared.Line.{Line}
use Rattle.text.specs.Ascii.{ascii}
use Rattle.text.specs.declared.Line.TheVariants.{Wake, Pass, Answer, Report, Closing, Refused, RefusedStation}

-- the digit of a number below ten
abbrev pub digit : ℕ → List ℕ
digit n = (code "0" + n) ∷ []

-- "Figures are in base ten": a number of at most f digits
unfoldable pub digits : ℕ → ℕ → List ℕ
digits zero n = []
digits (suc f) n = cond (ltb n 10) (digit n) (digits f (n / 10) ++ digit (n % 10))

-- a text "right-aligned in the columns given; blanks fill the line" (document 02, request 7): in w columns
unfoldable pub padded : ℕ → List ℕ → List ℕ
padded w text = replicate (w - length text) (code " ") ++ text

-- a word, then a number; a number of 64 bits has at most 20 digits
unfoldable pub item : List ℕ → ℕ → List ℕ
item word n = word ++ digits 20 n

-- one class: the sum, then "Answer and report lines end with" the missing number (document 02, request 1)
unfoldable pub cell_text : Cell → List ℕ
cell_text x = item (ascii " ") x.sum ++ item (ascii " ") x.missing

-- what an answer or a report carries: "Lines show sum and missing number for each class in turn" (document 02, request 2)
unfoldable pub aggregate_text : Config → Aggregate → List ℕ
aggregate_text t v = each (λ i. cell_text (cell v i)) (used t)

-- a line, but for its line feed:
-- "Wake and pass show sender, receiver; answer adds the sum; report shows the desk, the total."
-- "a closing line with the lot, the steps made and m"
-- "A refusal prints `refused N`, for 7 to 10 `refused N station I`"
abbrev pub words_of : Line → List ℕ
words_of (Wake sender receiver) = item (ascii "wake ") sender ++ item (ascii " ") receiver
words_of (Pass sender receiver) = item (ascii "pass ") sender ++ item (ascii " ") receiver
words_of (Answer sender receiver config held) = item (ascii "answer ") sender ++ item (ascii " ") receiver ++ aggregate_text config held
words_of (Report root config held) = item (ascii "report ") root ++ aggregate_text config held
words_of (Closing lot steps links) = item (ascii "lot ") lot ++ item (ascii " steps ") steps ++ item (ascii " links ") links
words_of (Refused number) = item (ascii "refused ") number
words_of (RefusedStation number station) = item (ascii "refused ") number ++ item (ascii " station ") station

-- a line ends with a line feed
unfoldable pub text_of : Line → List ℕ
text_of line = words_of line ++ ascii "\n"

-- every line fits into so many bytes
abbrev pub line_room : ℕ
line_room = 400

-- what is put into a buffer of n bytes: the line, or nothing where not every line would fit
unfoldable pub text_in : ℕ → Line → List ℕ
text_in n line = cond (leb line_room n) (text_of line) []
