-- The stations of a net, of either kind: 64 places, of which those below k are used (document 01, "Stations that meet").
use Rattle.std.specs.Prelude.{Bool, ◌&&◌, cond, List, ℕ, ◌+◌, ◌*◌, get_or, eqb, ltb}
use Rattle.finite.specs.Sum.{fold_to}
use Rattle.finite.specs.Below.{all_below, tabulate}
use Rattle.bitset.specs.Set.{size}
use Rattle.aggregate.specs.declared.Config.{Config}
use Rattle.aggregate.specs.declared.Reading.{Reading}
use Rattle.aggregate.specs.declared.Cell.{Cell}
use Rattle.aggregate.specs.Aggregate.{root_of, valid, used, cell, cell_joined, empty_cell, gathered, nothing, absent}
use Rattle.station.specs.declared.Station.{Station}
use Rattle.station.specs.Events.{asleep, active, finished}
use Rattle.station.specs.Form.{well_formed}

-- "places past k zero and asleep" (Stations that meet)
abbrev pub blank : Station
blank = record { held = nothing; unstarted = 0; parent = 0; waits = 0; state = asleep }

-- what stands past the end of a list of these: the language's default, which no rule speaks of
abbrev pub no_station : Station
no_station = record { held = absent; unstarted = 0; parent = 0; waits = 0; state = asleep }

-- station i
abbrev pub station_at : List Station → ℕ → Station
station_at stations i = get_or stations i no_station

-- "Form (11): k 1 to 64", the class count, the desk and the way with it (`valid`), and every station below k is in form (Causes and numbers)
unfoldable pub are_well_formed : Config → List Station → Bool
are_well_formed t stations = valid t && all_below t.k (λ i. well_formed t i (station_at stations i))

-- the counts of station i, of a map's counts: eight places a station, "places past c" read as zero (document 02, request 2)
unfoldable pub reading_at : Config → List ℕ → ℕ → Reading
reading_at t counts i = record { counts = tabulate 8 (λ j. cond (ltb j (used t)) (get_or counts (8 * i + j) 0) 0) }

-- "Fresh: sums are the counts, sets the neighbours, parents 0, waits the set sizes, the desk active, others asleep", and in fresh nets "the
-- desk takes the place of station 0" (document 02, request 5): station i, of its counts and its neighbours
unfoldable pub fresh_station : Config → Reading → ℕ → ℕ → Station
fresh_station t reading neighbours i =
    let state = cond (eqb i (root_of t)) active asleep in
    let held = gathered t reading in
    cond (ltb i t.k) (record { held = held; unstarted = neighbours; parent = root_of t; waits = size neighbours; state = state }) blank

-- all 64 places, of a map's counts and neighbours
unfoldable pub fresh_stations : Config → List ℕ → List ℕ → List Station
fresh_stations t counts neighbours = tabulate 64 (λ i. fresh_station t (reading_at t counts i) (get_or neighbours i 0) i)

-- "the sums of stations not finished" (Stations that meet), "joined its way" (document 02, request 10), and their missing numbers: of k
-- stations, in one class
abbrev pub unfinished : ℕ → ℕ → (ℕ → Station) → ℕ → Cell
unfinished way k station j =
    fold_to (cell_joined way) (empty_cell way) k (λ i. cond (eqb (station i).state finished) (empty_cell way) (cell (station i).held j))
