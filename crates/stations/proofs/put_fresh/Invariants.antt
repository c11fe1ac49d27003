-- `stations::put_fresh` meets its contract. The invariant: the first i places are those of the table, the rest of the words stays. Assumes nothing.
use mathlib.Core.Path.{◌≡◌}
use lib.ListN.{take, get_or}
use Rattle.finite.specs.Below.{tabulate}
use Rattle.stations.specs.Stations.{reading_at, fresh_station}
use Rattle.stations.specs.Words.{config_in, stations_in, spare_in}
use Rattle.stations.proofs.put_fresh.Given as goal

abbrev pub invariant-loop-i : goal.invariant-loop-i
invariant-loop-i l = (take l.i (stations_in l.words) ≡ tabulate l.i (λ j. fresh_station l.t (reading_at l.t l.counts j) (get_or l.neighbours j 0) j))
    × (config_in l.words ≡ config_in l.initial.words)
    × (spare_in l.words ≡ spare_in l.initial.words)
