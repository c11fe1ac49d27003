-- Two trees of one map in either kind of net, computed. Assumes nothing.
use mathlib.Core.Path.{refl}
use mathlib.Core.List.{flat_map}
use Rattle.finite.specs.Below.{all_below, tabulate, each}
use Rattle.finite.specs.Numbers.{number, bytes}
use Rattle.bitset.specs.Set.{member, members_below, size, without, within, union, minus, put, bit_if}
use Rattle.aggregate.specs.Ways.{sum_joined, empty_sum}
use Rattle.aggregate.specs.Aggregate.{valid, nothing, sum_bounded, cell_bounded, bounded, cell_gathered, gathered, cell_joined, joined, clipped, missing_word, from_words}
use Rattle.station.specs.Form as form
use Rattle.schedule.specs.Rules.{in_range, allowed}
use Rattle.schedule.specs.Listing.{numbers_from, range, select, candidates, listed}
use Rattle.schedule.specs.Draws.{picked, draw_on, run_net, stopped, run_on}
use Rattle.schedule.specs.Calls.{call_net, calls_net}
use Rattle.stations.specs.Stations.{are_well_formed, reading_at, fresh_station, fresh_stations}
use Rattle.rendezvous.specs.Net as meeting-net
use Rattle.rendezvous.specs.Figure as figure
use Rattle.mail.specs.Mail.{box_at, brought_at, starts_posted, with_box, with_message, with_answer, with_sums, with_waiting}
use Rattle.mailbox.specs.Net as mailing-net
use Rattle.mailbox.specs.Delivery.{boxes_after, boxes_settled, delivered, reported}
use Rattle.mailbox.specs.Rules.{may_step, net_after}
use Rattle.demand.specs.Kinds.{meeting, mailing}
use Rattle.tree.specs.Tree.{AnyTree}

pub any_tree : AnyTree (meeting 0) × AnyTree (mailing 0)
unfolding flat_map all_below tabulate each number bytes member members_below size without within union minus put bit_if valid nothing
    cell_bounded sum_bounded bounded cell_gathered empty_sum gathered cell_joined sum_joined joined clipped missing_word from_words form.well_formed in_range allowed numbers_from range
    select candidates listed picked draw_on run_net stopped run_on call_net calls_net are_well_formed reading_at fresh_station fresh_stations
    meeting-net.well_formed meeting-net.fresh_net figure.may_step figure.assigned box_at brought_at starts_posted with_box with_message with_answer
    with_sums with_waiting mailing-net.are_bounded mailing-net.well_formed mailing-net.fresh_net boxes_after boxes_settled delivered reported may_step net_after
any_tree = (record { chain = refl; star = refl }, record { chain = refl; star = refl })
