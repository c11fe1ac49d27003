-- `bitset::bit_if` meets its contract: below 64 the shift of 1 is exact. Assumes nothing.
use native.Mathlib.Nat.{one-mul, mod-eq_of_lt}
use lib.Pow.{pow-lt}
use borrow.Author.Tests.{le-ltb, lt-ltb}
use Rattle.bitset.specs.Set.{bit_if}
use Rattle.bitset.proofs.bit_if.Goals as goal

pub returns-then-j-ge64 : goal.returns-then-j-ge64
unfolding bit_if
returns-then-j-ge64 c = rw (le-ltb _ _ c.if-j-ge64.true)

pub returns-then-b : goal.returns-then-b
unfolding bit_if
returns-then-b c = rw (c.if-b.true, lt-ltb _ _ c.if-j-ge64.false, one-mul, mod-eq_of_lt (pow-lt c.if-j-ge64.false))

pub returns-else-b : goal.returns-else-b
unfolding bit_if
returns-else-b c = rw (lt-ltb _ _ c.if-j-ge64.false, c.if-b.false)
