-- `stations::put_fresh` meets its contract. The invariant: the first i places are those of the table, the rest of the words stays. Assumes nothing.
use mathlib.Core.Path.{◌≡◌, refl, ap, ◌∙◌}
use Prim.Native.Nat.{◌+◌, ◌<◌}
use native.Mathlib.Omega.{arith}
use lib.ListN.{length, take, get_or}
use Rattle.finite.specs.Below.{each, tabulate}
use Rattle.finite.proofs.Below.{tabulate_more, tabulate-all}
use Rattle.aggregate.specs.declared.Reading.{Reading}
use Rattle.stations.specs.Stations.{fresh_station, fresh_stations}
use Rattle.stations.specs.Words.{stations_in}
use Rattle.stations.proofs.Words.{length-stations}
use Rattle.stations.proofs.put_fresh.Goals as goal

pub loop-i-init : goal.loop-i-init
unfolding tabulate each
loop-i-init c = (refl, refl, refl)

pub loop-i-preserved : goal.loop-i-preserved
loop-i-preserved c =
    let a = c.args in
    let l = c.loop-i in
    let stored = c.store.ensures in
    let inside : l.i < length (stations_in l.words) = omega (arith, length-stations l.words) in
    let s = c.fresh_station-s.ensures ∙ ap (λ (r : Reading). fresh_station a.t r (get_or a.neighbours l.i 0) l.i) c.reading_at-reading.ensures in (
      ap (take (l.i + 1)) stored.stations ∙ tabulate_more _ (stations_in l.words) l.i c.fresh_station-s.result inside l.invariant.0 s,
      stored.config ∙ l.invariant.1,
      stored.spare ∙ l.invariant.2,
    )

pub returns : goal.returns
unfolding fresh_stations
returns c =
    let l = c.loop-i in
    let put = c.put_config.ensures in
    let end : l.i ≡ 64 = omega arith in
    record { config = l.invariant.1 ∙ put.config; stations = tabulate-all _ (stations_in l.words) l.i 64 end (length-stations l.words) l.invariant.0; spare = l.invariant.2 ∙ put.spare }
