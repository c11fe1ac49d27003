-- `bitset::contains` meets its contract: a shift and a remainder are the definition, and past 63 there is no member.
-- Assumes nothing.
use mathlib.Core.Path.{refl, sym}
use Rattle.bitset.specs.Set.{member}
use Rattle.bitset.proofs.Laws.{no_member-from}
use Rattle.bitset.proofs.contains.Goals as goal

pub returns-then-j-ge64 : goal.returns-then-j-ge64
returns-then-j-ge64 c = sym (no_member-from 64 c.args.j c.args.set c.ranges.set.fits c.if-j-ge64.true)

pub returns : goal.returns
unfolding member
returns c = refl
