-- `mailbox::listing::find_takers` meets its contract. Invariant: both sets of the stations below i. Assumes nothing.
use mathlib.Core.Path.{◌≡◌}
use Rattle.bitset.specs.Internal.Selected.{set_of}
use Rattle.stations.specs.Stations.{station_at}
use Rattle.stations.specs.Words.{stations_in}
use Rattle.mailbox.specs.Internal.Receivers.{takes_start, takes_answer}
use Rattle.mailbox.proofs.listing.find_takers.Given as goal

abbrev pub invariant-loop-i : goal.invariant-loop-i
invariant-loop-i l = (l.starts ≡ set_of l.i (λ x. takes_start (station_at (stations_in l.line) x)))
    × (l.answers ≡ set_of l.i (λ x. takes_answer (station_at (stations_in l.line) x)))
