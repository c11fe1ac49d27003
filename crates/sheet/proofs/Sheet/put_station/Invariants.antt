-- `sheet::Sheet::put_station` meets its contract: before class j the lines of the classes below it are put. Assumes nothing.
use Prim.Native.Nat.{ℕ}
use lib.ListN.{get_or}
use Rattle.finite.specs.Below.{each}
use Rattle.linemap.specs.Maps.{place}
use Rattle.sheet.specs.Layout.{count_line}
use Rattle.sheet.specs.Internal.Laying.{Puts, FitStation}
use Rattle.sheet.proofs.Sheet.put_station.Given as goal

abbrev pub invariant-loop-j : goal.invariant-loop-j
invariant-loop-j l =
    Puts l.initial.writer (each (λ (x : ℕ). count_line l.i x (get_or l.self.map.now.counts (place l.i x) 0)) l.j) l.writer × FitStation l.self.map.now.counts l.i l.j
