-- `stations::store` meets its contract: below 64 by the laws, else nothing is stored. Assumes nothing.
use mathlib.Core.Path.{sym}
use native.Mathlib.Omega.{arith}
use lib.Seq.{set_out}
use Rattle.stations.specs.Words.{stations_in, with_station}
use Rattle.stations.specs.Internal.Fitting.{Fits}
use Rattle.stations.proofs.Words.{length-stations, stations-stored, stored_config, stored_spare}
use Rattle.stations.proofs.store.Goals as goal
use Rattle.stations.proofs.store.Goals.{After-store_aggregate}

fits : (c : After-store_aggregate) → Fits c.args.s
fits c = record { held_fits = c.store_aggregate.ensures.fits; parent_byte = omega arith; waits_byte = omega arith; state_byte = omega arith }

pub returns-then-i-lt64-clause-stations : goal.returns-then-i-lt64-clause-stations
unfolding with_station
returns-then-i-lt64-clause-stations c =
    let a = c.args in
    rw (c.store_aggregate.ensures.words, c.fields_word-w.ensures) (stations-stored a.words.now c.told-words a.i (omega arith) a.s (fits (goal.at.returns-then-i-lt64-clause-stations c).After-store_aggregate))

pub returns-then-i-lt64-clause-config : goal.returns-then-i-lt64-clause-config
unfolding with_station
returns-then-i-lt64-clause-config c =
    let a = c.args in
    rw (c.store_aggregate.ensures.words, c.fields_word-w.ensures) (stored_config a.words.now c.told-words a.i (omega arith) a.s (fits (goal.at.returns-then-i-lt64-clause-config c).After-store_aggregate))

pub returns-then-i-lt64-clause-spare : goal.returns-then-i-lt64-clause-spare
unfolding with_station
returns-then-i-lt64-clause-spare c =
    let a = c.args in
    rw (c.store_aggregate.ensures.words, c.fields_word-w.ensures) (stored_spare a.words.now c.told-words a.i (omega arith) a.s (fits (goal.at.returns-then-i-lt64-clause-spare c).After-store_aggregate))

pub returns-else-i-lt64-clause-stations : goal.returns-else-i-lt64-clause-stations
returns-else-i-lt64-clause-stations c =
    let a = c.args in
    sym (set_out (stations_in a.words.now) a.i a.s (omega (arith, length-stations a.words.now, c.if-i-lt64.false)))
