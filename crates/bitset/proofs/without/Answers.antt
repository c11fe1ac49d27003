-- `bitset::without` meets its contract: a member's bit is in the number, so taking away what it is worth does not wrap.
-- Assumes nothing.
use mathlib.Core.Path.{◌≡◌, sym, ◌∙◌}
use mathlib.Core.Bool.{true}
use Prim.Native.Nat.{◌*◌, ◌%◌, ◌^◌, ◌<◌}
use native.Mathlib.Nat.{one-mul, mod-eq_of_lt}
use native.Mathlib.Omega.{arith}
use lib.Pow.{pow-lt}
use Rattle.bitset.specs.Set.{member, without}
use Rattle.bitset.proofs.Bits.{member_worth}
use Rattle.bitset.proofs.Laws.{member_below}
use Rattle.bitset.proofs.without.Goals as goal

-- where the test holds, j is a member, so it is below 64 and the shift is exact
is_member : (c : goal.Then-contains) → member c.args.j c.args.set ≡ true
is_member c = sym c.contains.ensures ∙ c.if-contains.true

is_below : (c : goal.Then-contains) → c.args.j < 64
is_below c = member_below 64 _ c.args.set c.ranges.set.fits (is_member c)

exact : (c : goal.Then-contains) → 1 * 2 ^ c.args.j % 2 ^ 64 ≡ 2 ^ c.args.j
exact c = rw one-mul (mod-eq_of_lt (pow-lt (is_below c)))

pub overflow_shl-result : goal.overflow_shl-result
overflow_shl-result c = is_below c

pub overflow_sub-result : goal.overflow_sub-result
overflow_sub-result c = omega (arith, exact c, member_worth _ c.args.set (is_member c))

pub returns-then-contains : goal.returns-then-contains
unfolding without
returns-then-contains c = rw (exact c, is_member c)

pub returns-else-contains : goal.returns-else-contains
unfolding without
returns-else-contains c = rw (sym c.contains.ensures ∙ c.if-contains.false)
