-- The rules give every row of the table: antt computes them. Assumes nothing.
use mathlib.Core.Path.{refl}
use mathlib.Core.List.{flat_map}
use Rattle.finite.specs.Below.{all_below, tabulate, each}
use Rattle.finite.specs.Numbers.{number, bytes}
use Rattle.finite.specs.Sum.{fold_to, indicator}
use Rattle.finite.specs.Links.{links}
use Rattle.bitset.specs.Set.{member, size, without, within}
use Rattle.bitset.specs.Set as bitset
use Rattle.aggregate.specs.Ways.{sum_joined, empty_sum}
use Rattle.aggregate.specs.Aggregate.{valid, sum_bounded, cell_bounded, bounded, cell_gathered, gathered, cell_joined, joined}
use Rattle.topology.specs.Acceptance.{any_below, near, first_from, verdict_of}
use Rattle.linemap.specs.Words.{sum_words}
use Rattle.linemap.specs.Stored.{count_bytes, row_bytes, trailer_bytes, body_of, check_word, stored_of}
use Rattle.linemap.specs.Reading.{column, grid, reading}
use Rattle.station.specs.Form as form
use Rattle.schedule.specs.Rules.{in_range, allowed}
use Rattle.schedule.specs.Listing.{range, select, candidates, listed}
use Rattle.schedule.specs.Listing as listing
use Rattle.schedule.specs.Draws.{step_on, picked, draw_on, run_made, run_net, stopped, run_on}
use Rattle.stations.specs.Stations.{are_well_formed, reading_at, fresh_station, fresh_stations}
use Rattle.rendezvous.specs.Net.{well_formed, fresh_net}
use Rattle.rendezvous.specs.Figure.{may_step, assigned}
use Rattle.text.specs.Text.{digits, item, cell_text, aggregate_text, text_of}
use Rattle.opening.specs.Opening.{input_opening, draw_at}
use Rattle.program.specs.Output.{step_line, step_lines, lot_lines, lines_of}
use Rattle.edges.specs.Table.{TableHolds}

pub table_holds : TableHolds
unfolding all_below tabulate each number bytes fold_to indicator links member size without within bitset.members_below valid
    cell_bounded sum_bounded bounded cell_gathered empty_sum gathered cell_joined sum_joined joined any_below near first_from verdict_of sum_words count_bytes row_bytes
    trailer_bytes body_of check_word stored_of column grid reading form.well_formed in_range allowed range select candidates listed
    listing.numbers_from step_on picked draw_on run_made run_net stopped run_on are_well_formed reading_at fresh_station fresh_stations well_formed
    fresh_net may_step assigned digits item cell_text aggregate_text text_of input_opening draw_at step_line step_lines lot_lines lines_of flat_map
table_holds = refl
