-- The line of a refusal (document 01, "The program": "A refusal prints `refused N`, for 7 to 10 `refused N station I`, and nothing else").
use Rattle.std.specs.Prelude.{List, [], ◌∷◌, ℕ}
use Rattle.text.specs.declared.Line.{Line}
use Rattle.text.specs.declared.Line.TheVariants.{Refused, RefusedStation}

-- a number alone, or with its station; every answer has a number
abbrev pub refusal_line : List ℕ → Line
refusal_line [] = Refused 0
refusal_line (number ∷ []) = Refused number
refusal_line (number ∷ station ∷ more) = RefusedStation number station
