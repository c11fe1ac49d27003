-- What the program writes for its input (document 01, "The program").
use Rattle.std.specs.Prelude.{false, cond, ℕ, ◌+◌, ◌*◌, eqb, leb, length, get_or}
use mathlib.Core.List.{List, [], ◌∷◌, ◌++◌, flat_map}
use Rattle.finite.specs.Tests.{unless}
use Rattle.aggregate.specs.Ways.{summing}
use Rattle.aggregate.specs.declared.Aggregate.{Aggregate}
use Rattle.topology.specs.Answer.{is_accepted}
use Rattle.linemap.specs.declared.Map.{Map}
use Rattle.linemap.specs.Maps.{link_count}
use Rattle.schedule.specs.declared.Step.{Step}
use Rattle.schedule.specs.Draws.{run_made}
use Rattle.rendezvous.specs.Net.{Net, station}
use Rattle.rendezvous.specs.Figure.{wake, pass, answer}
use Rattle.rendezvous.specs.Rules.{rules}
use Rattle.rendezvous.specs.Opening.{fresh_on}
use Rattle.text.specs.declared.Line.{Line}
use Rattle.text.specs.declared.Line.TheVariants.{Wake, Pass, Answer, Report, Closing}
use Rattle.text.specs.Text.{text_of, line_room}
use Rattle.opening.specs.Opening.{input_opening, draws_in}
use Rattle.opening.specs.Refusals.{refusal_line}

-- the line of a step: "Wake and pass show sender, receiver; answer adds the sum; report shows the desk, the total." The sum and the total are
-- what the sender holds in the net
unfoldable pub step_line : Net → Step → Line
step_line net s =
    let held : Aggregate = (station net s.sender).held in
    cond (eqb s.kind wake) (Wake s.sender s.receiver)
    (cond (eqb s.kind pass) (Pass s.sender s.receiver)
    (cond (eqb s.kind answer) (Answer s.sender s.receiver net.config held) (Report s.sender net.config held)))

-- "one line a step": the line of each step, in the net in which it is made
unfoldable pub step_lines : Net → List Step → List Line
step_lines net [] = []
step_lines net (s ∷ made) = step_line net s ∷ step_lines (rules.apply net s) made

-- "a closing line with the lot, the steps made and m"
abbrev pub closing_line : Map → ℕ → Line
closing_line m steps = Closing m.lot steps (link_count m)

-- "It runs stations that meet"; "The program keeps way 0" (document 02, request 10). "Output is one line a step, then, also when the draws run out, a closing line"
unfoldable pub lot_lines : Map → List ℕ → List Line
lot_lines m draws =
    step_lines (fresh_on false summing m) (run_made rules (fresh_on false summing m) draws) ++ (closing_line m (length (run_made rules (fresh_on false summing m) draws)) ∷ [])

-- the lines for an input; "A refusal prints .. and nothing else"
unfoldable pub lines_of : List ℕ → List Line
lines_of s =
    unless (is_accepted (input_opening s).numbers) (refusal_line (input_opening s).numbers ∷ [])
    (lot_lines (input_opening s).map (draws_in s (get_or (input_opening s).numbers 1 0)))

-- the bytes written
abbrev pub output_of : List ℕ → List ℕ
output_of s = flat_map text_of (lines_of s)

-- "64 stations all linked: 2,016 links, 4,033 steps" (Edges): a line for each step, and the closing line
abbrev pub most_lines : ℕ
most_lines = 2 * 2016 + 1 + 1

-- every output fits into so many bytes
abbrev pub output_room : ℕ
output_room = most_lines * line_room

-- what is put into a buffer of n bytes: the output, or nothing where not every output would fit
unfoldable pub output_in : ℕ → List ℕ → List ℕ
output_in n s = cond (leb output_room n) (output_of s) []
