-- `sheet::Sheet::put_stations` meets its contract: before station i the lines of the stations below it are put. Assumes nothing.
use Rattle.finite.specs.Below.{each}
use Rattle.sheet.specs.Layout.{station_lines}
use Rattle.sheet.specs.Internal.Laying.{Puts, FitStations}
use Rattle.sheet.proofs.Sheet.put_stations.Given as goal

abbrev pub invariant-loop-i : goal.invariant-loop-i
invariant-loop-i l = Puts l.initial.writer (each (station_lines l.self.map.now) l.i) l.writer × FitStations l.self.map.now.counts l.self.map.now.classes l.i
