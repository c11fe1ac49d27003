-- `linemap::reading::read_counts` meets its contract. Invariant: the first j counts are read. Assumes nothing.
use Rattle.std.proofs.Common.{◌≡◌, take}
use Rattle.finite.specs.Below.{tabulate}
use Rattle.linemap.specs.Reading.{count_in}
use Rattle.linemap.proofs.reading.read_counts.Given as goal

abbrev pub invariant-loop-j : goal.invariant-loop-j
invariant-loop-j l = take l.j l.counts ≡ tabulate l.j (count_in l.s l.at)
