-- `linemap::read` meets its contract: there is no trailer, its fields are refused, or the rows are left. Assumes nothing.
use Rattle.std.proofs.Common.{◌≡◌, ℕ, ◌<◌, ◌≤◌, true, Result, sym, ap, ◌∙◌, arith}
use Rattle.std.specs.Prelude.{⊤}
use Rattle.std.proofs.lemmas.Result.{err_from_is_err_and}
use Rattle.linemap.specs.Reading.{ReadOutcome, is_row_length, classes_of, reading}
use Rattle.linemap.specs.Internal.Stages.{rows_outcome}
use Rattle.linemap.specs.declared.ReadFault.{ReadFault}
use Rattle.linemap.proofs.Rules.{row_classes, answered, ruled, reading-ruled, trailer_few}
use Rattle.linemap.proofs.read.Goals as goal
use Rattle.linemap.proofs.read.Goals.{After-judge, In_ok-judge}

-- the rows, at the trailer's fields
abbrev rest : After-judge → ReadOutcome
rest c =
    let t = c.in-Some.trailer in
    rows_outcome c.args.s.now (classes_of t.row_length) t.stations t.desk t.lot

-- the answer on the fields, and what it leaves
so_far : (c : After-judge) → reading c.args.s.now ≡ answered c.judge.result (rest c)
so_far c =
    let s = c.args.s.now in
    reading-ruled s
    ∙ ap (ruled s) (sym c.read_trailer.ensures ∙ c.in-Some.is)
    ∙ ap (λ (a : Result ⊤ ReadFault). answered a (rest c)) (sym c.judge.ensures)

few : (c : In_ok-judge)
    → let t = c.in-Some.trailer in
    (is_row_length t.row_length ≡ true) × (0 < t.stations) × (t.stations ≤ 64) × (t.desk < t.stations)
few c = trailer_few _ _ (sym c.judge.ensures ∙ c.in_ok-judge.was)

pub returns-in_default : goal.returns-in_default
returns-in_default c =
    let s = c.args.s.now in
    sym (reading-ruled s ∙ ap (ruled s) (sym c.read_trailer.ensures ∙ c.in_default.is))

pub returns-in_err-judge : goal.returns-in_err-judge
returns-in_err-judge c =
    let at = (goal.at.returns-in_err-judge c).After-judge in
    let p = err_from_is_err_and c.from_residual.result c.from_residual.ensures.1 in
    rw (p.1, p.2) (sym (so_far at ∙ ap (λ (a : Result ⊤ ReadFault). answered a (rest at)) c.in_err-judge.was))

pub classes-requires : goal.classes-requires
classes-requires c = (few (goal.at.classes-requires c).In_ok-judge).0

pub overflow_cast-trailer : goal.overflow_cast-trailer
overflow_cast-trailer c = omega (arith, (few (goal.at.overflow_cast-trailer c).In_ok-judge).2)

pub overflow_cast-trailer-2 : goal.overflow_cast-trailer-2
overflow_cast-trailer-2 c =
    let left = few (goal.at.overflow_cast-trailer-2 c).In_ok-judge in
    omega (arith, left.2, left.3)

pub read_rows-requires : goal.read_rows-requires
read_rows-requires c =
    let left = few (goal.at.read_rows-requires c).In_ok-judge in
    let classes = row_classes c.in-Some.trailer.row_length left.0 in
    (omega (arith, c.classes.ensures, classes.1), omega (arith, c.classes.ensures, classes.2), left.1, left.2)

pub returns : goal.returns
returns c =
    let at = (goal.at.returns c).After-judge in
    let t = c.in-Some.trailer in
    c.read_rows.ensures
    ∙ ap (λ (n : ℕ). rows_outcome c.args.s.now n t.stations t.desk t.lot) c.classes.ensures
    ∙ sym (so_far at ∙ ap (λ (a : Result ⊤ ReadFault). answered a (rest at)) c.in_ok-judge.was)
