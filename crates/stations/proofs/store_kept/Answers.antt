-- `stations::store_kept` meets its contract: below 64 by the law, else nothing is stored. Assumes nothing.
use mathlib.Core.Path.{sym, ap, ◌∙◌}
use native.Mathlib.Omega.{arith}
use lib.Seq.{set_out}
use Rattle.stations.specs.Kept.{kept_in}
use Rattle.stations.proofs.Kept.{length_kept, kept_stored}
use Rattle.stations.proofs.store_kept.Goals as goal

pub returns-then-i-lt64-clause-kept : goal.returns-then-i-lt64-clause-kept
returns-then-i-lt64-clause-kept c =
    let a = c.args in
    let stored = c.store_aggregate.ensures in
    ap kept_in stored.words ∙ kept_stored a.words.now c.told-words a.i c.if-i-lt64.true a.v stored.fits

pub returns-else-i-lt64-clause-kept : goal.returns-else-i-lt64-clause-kept
returns-else-i-lt64-clause-kept c =
    let a = c.args in
    sym (set_out (kept_in a.words.now) a.i a.v (omega (arith, length_kept a.words.now, c.if-i-lt64.false)))
