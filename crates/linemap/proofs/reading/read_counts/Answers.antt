-- `linemap::reading::read_counts` meets its contract. Invariant: the first j counts are read. Assumes nothing.
use Rattle.std.proofs.Common.{length, refl, arith}
use Rattle.finite.specs.Below.{each, tabulate}
use Rattle.finite.proofs.Below.{tabulate_more, tabulate-all}
use Rattle.linemap.specs.Reading.{count_in}
use Rattle.linemap.proofs.reading.read_counts.Goals as goal

pub loop-j-init : goal.loop-j-init
unfolding tabulate each
loop-j-init c = refl

pub loop-j-preserved : goal.loop-j-preserved
loop-j-preserved c =
    let a = c.args in
    tabulate_more (count_in a.s.now a.at) c.loop-j.counts c.loop-j.j c.get.result (omega arith) c.loop-j.invariant c.get.ensures.0

pub returns : goal.returns
returns c =
    let a = c.args in
    tabulate-all (count_in a.s.now a.at) c.loop-j.counts c.loop-j.j (length a.counts.now) (omega arith) c.loop-j.auto.counts c.loop-j.invariant
