-- The triangle's sheet (document 01, "The program": counts 5, 7, 11; lot 42), also with a head that saw nothing, and that it is laid out after the
-- report, by computation. Assumes nothing.
use mathlib.Core.Path.{◌≡◌, refl}
use mathlib.Core.List.{List, [], ◌∷◌, ◌++◌}
use Prim.Native.Nat.{ℕ}
use lib.ListN.{replicate}
use Rattle.finite.specs.Below.{all_below, each, tabulate}
use Rattle.bitset.specs.Set.{member, members_below, size, without, within}
use Rattle.aggregate.specs.declared.Aggregate.{Aggregate}
use Rattle.aggregate.specs.Ways.{sum_joined, empty_sum}
use Rattle.aggregate.specs.Aggregate.{valid, nothing, sum_bounded, cell_bounded, bounded, cell_gathered, gathered, cell_joined, joined}
use Rattle.station.specs.Form as form
use Rattle.station.specs.Events as events
use Rattle.topology.specs.Acceptance.{verdict_of, first_from, any_below, near}
use Rattle.linemap.specs.declared.Map.{Map}
use Rattle.schedule.specs.Listing.{select, step}
use Rattle.schedule.specs.Calls as calls
use Rattle.schedule.specs.Draws.{step_on}
use Rattle.schedule.specs.Rules.{in_range}
use Rattle.stations.specs.Stations.{are_well_formed, reading_at, fresh_station, fresh_stations}
use Rattle.rendezvous.specs.Net.{well_formed, fresh_net}
use Rattle.rendezvous.specs.Figure.{wake, pass, answer, report, may_step, assigned}
use Rattle.demand.specs.Kinds.{meeting, left, reports}
use Rattle.text.specs.Ascii.{ascii}
use Rattle.text.specs.Text.{digits, padded}
use Rattle.sheet.specs.Sheet.{agrees, are_narrow, is_reported, sheet_on}
use Rattle.sheet.specs.Adding.{LaidOut}
use Rattle.sheet.specs.Layout.{column, spaced, line, lot_line, count_column, count_line, total_line, station_lines, total_lines, sheet_of}

abbrev triangle : ℕ → Map
triangle last =
    let counts : List ℕ = 5 ∷ replicate 7 0 ++ (7 ∷ replicate 7 0) ++ (last ∷ replicate 495 0) in
    record { k = 3; classes = 1; desk = 0; lot = 42; counts = counts; neighbours = 6 ∷ 5 ∷ 3 ∷ replicate 61 0 }

abbrev reported : ℕ → ℕ → Aggregate
reported sum missing = record { sums = sum ∷ replicate 7 0; missing = missing ∷ replicate 7 0 }

first-lines : List ℕ
first-lines =
    ascii "             42                         \n"
    ++ ascii " 0 1          5                         \n"
    ++ ascii " 1 1          7                         \n"

triangle_sheet : sheet_of (triangle 11) (reported 23 0)
    ≡ first-lines ++ ascii " 2 1         11                         \n" ++ ascii "T  1           23  0                    \n"
unfolding sheet_of lot_line station_lines total_lines count_line total_line count_column line spaced column padded digits each first-lines
triangle_sheet = refl

missing_sheet : sheet_of (triangle 4294967295) (reported 12 1)
    ≡ first-lines ++ ascii " 2 1 ----------                         \n" ++ ascii "T  1           12  1                    \n"
unfolding sheet_of lot_line station_lines total_lines count_line total_line count_column line spaced column padded digits each first-lines
missing_sheet = refl

-- the steps of document 01's example lead to the report, and then the sheet is laid out: the premises of `adds_up` are met
abbrev seven : List calls.Call
seven =
    calls.single (step wake 0 1)
    ∷ calls.single (step wake 0 2)
    ∷ calls.single (step pass 1 2)
    ∷ calls.single (step pass 2 1)
    ∷ calls.single (step answer 1 0)
    ∷ calls.single (step answer 2 0)
    ∷ calls.single (step report 0 0)
    ∷ []

triangle-laid : (reports (meeting 0) (triangle 11) seven ≡ 1) × LaidOut (triangle 11) (left (meeting 0) (triangle 11) seven) (replicate 205 0)
unfolding sheet_on agrees is_reported are_narrow verdict_of first_from any_below near well_formed are_well_formed form.well_formed all_below calls.call_made calls.call_net calls.calls_made calls.calls_net select step_on in_range may_step assigned events.may_send_start events.started_by events.ready events.may_report events.may_answer fresh_net fresh_stations fresh_station reading_at tabulate each member members_below size without within valid bounded cell_bounded sum_bounded gathered cell_gathered empty_sum joined cell_joined sum_joined nothing
triangle-laid = (refl, refl)
