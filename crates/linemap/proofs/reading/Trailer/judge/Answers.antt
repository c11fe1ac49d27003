-- `linemap::reading::Trailer::judge` meets its contract: each test is the next of the rules 2, 3, 19 and 4. Assumes nothing.
use Rattle.std.proofs.Common.{◌≡◌, ◌*◌, true, sym, ◌∙◌, le-ltb, lt-ltb, eq-eqb, ne_eqb}
use Rattle.bitset.specs.Set.{is_station_count}
use Rattle.linemap.specs.Reading.{is_row_length}
use Rattle.linemap.specs.Internal.Stages.{trailer_answer}
use Rattle.linemap.proofs.reading.Trailer.judge.Goals as goal
use Rattle.linemap.proofs.reading.Trailer.judge.Goals.{Else-not-is_row_length, Else-not-is_station_count}

row : (c : Else-not-is_row_length) → is_row_length c.args.self.row_length ≡ true
row c = sym c.is_row_length.ensures ∙ c.if-not-is_row_length.false

counted : (c : Else-not-is_station_count) → is_station_count c.args.self.stations ≡ true
counted c = sym c.is_station_count.ensures ∙ c.if-not-is_station_count.false

pub returns-then-not-is_row_length : goal.returns-then-not-is_row_length
unfolding trailer_answer
returns-then-not-is_row_length c = rw (sym c.is_row_length.ensures ∙ c.if-not-is_row_length.true)

pub returns-then-not-is_station_count : goal.returns-then-not-is_station_count
unfolding trailer_answer
returns-then-not-is_station_count c =
    let at = goal.at.returns-then-not-is_station_count c in
    rw (row at.Else-not-is_row_length, sym c.is_station_count.ensures ∙ c.if-not-is_station_count.true)

pub returns-then-self : goal.returns-then-self
unfolding trailer_answer
returns-then-self c =
    let at = goal.at.returns-then-self c in
    rw (row at.Else-not-is_row_length, counted at.Else-not-is_station_count, le-ltb _ _ c.if-self.true)

pub returns-then-self-2 : goal.returns-then-self-2
unfolding trailer_answer
returns-then-self-2 c =
    let a = c.args.self in
    let at = goal.at.returns-then-self-2 c in
    rw (
      row at.Else-not-is_row_length,
      counted at.Else-not-is_station_count,
      lt-ltb a.desk a.stations c.if-self.false,
      ne_eqb a.distance (a.row_length * a.stations) c.if-self-2.true,
    )

pub returns : goal.returns
unfolding trailer_answer
returns c =
    let a = c.args.self in
    let at = goal.at.returns c in
    rw (
      row at.Else-not-is_row_length,
      counted at.Else-not-is_station_count,
      lt-ltb a.desk a.stations c.if-self.false,
      eq-eqb a.distance (a.row_length * a.stations) c.if-self-2.false,
    )
