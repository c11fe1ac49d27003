-- `bitset::is_within` meets its contract: no member is k or more just where a shift by k leaves nothing. Assumes nothing.
use mathlib.Core.Path.{sym}
use Rattle.bitset.proofs.Laws.{within_shift, within_width}
use Rattle.bitset.proofs.is_within.Goals as goal

pub returns-then-k-ge64 : goal.returns-then-k-ge64
returns-then-k-ge64 c = sym (within_width 64 c.args.k c.args.set c.ranges.set.fits c.if-k-ge64.true)

pub returns : goal.returns
returns c = within_shift c.args.k c.args.set
