-- `topology::over_all` meets its contract. Invariant: the first offender from i on is the first of all. Assumes nothing.
use mathlib.Core.Path.{◌≡◌, sym, ◌∙◌}
use native.Mathlib.Omega.{arith}
use borrow.Author.Tests.{lt-leb, le-leb}
use Rattle.std.proofs.Common.{of_calls}
use Rattle.topology.specs.Acceptance.{lowest}
use Rattle.topology.proofs.Searches.{first-here, first-later, first-end}
use Rattle.topology.proofs.over_all.Goals as goal

pub returns-then-breaks : goal.returns-then-breaks
returns-then-breaks g c = λ rule cause told caused.
    let i = c.loop-i.i in
    let k = c.args.k in
    let is : lowest k rule ≡ i =
    sym (c.loop-i.invariant rule told)
    ∙ first-here rule i k c.loop-i-test.true (sym (told i _ c.loop-i-test.true (search of_calls)) ∙ c.if-breaks.true) in
    rw (is, lt-leb k i c.loop-i-test.true, caused i c.fault.result c.loop-i-test.true (search of_calls))

pub loop-i-preserved : goal.loop-i-preserved
loop-i-preserved g c = λ rule told.
    let i = c.loop-i.i in
    sym (first-later rule i c.args.k c.loop-i-test.true (sym (told i _ c.loop-i-test.true (search of_calls)) ∙ c.if-breaks.false))
    ∙ c.loop-i.invariant rule told

pub returns : goal.returns
returns g c = λ rule cause told caused.
    let k = c.args.k in
    let all : c.loop-i.i ≡ k = omega arith in
    let none : k ≡ lowest k rule = sym (first-end rule k) ∙ (rw all at c.loop-i.invariant rule told) in
    rw (le-leb k (lowest k rule) (omega (arith, none)))
