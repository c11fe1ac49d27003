-- `schedule::rows::pick_beside` meets its contract: the total of both decides. Assumes nothing.
use Rattle.std.proofs.Common.{◌+◌, ◌%◌, ◌^◌, sym, arith, eq-eqb, ne_eqb}
use native.Mathlib.Nat.{mod-le}
use Rattle.schedule.specs.Rows.{picked_beside}
use Rattle.schedule.proofs.rows.pick_beside.Goals as goal

pub returns-then-c-eq0 : goal.returns-then-c-eq0
unfolding picked_beside
returns-then-c-eq0 c = rw (sym c.total.ensures, sym c.count_of_kind.ensures, eq-eqb _ 0 c.if-c-eq0.true)

pub find_beside-requires : goal.find_beside-requires
find_beside-requires c = omega (arith, mod-le c.args.d ((c.total.result + c.count_of_kind.result) % 2 ^ 32))

pub returns : goal.returns
unfolding picked_beside
returns c = rw (sym c.total.ensures, sym c.count_of_kind.ensures, ne_eqb _ 0 c.if-c-eq0.false) c.find_beside.ensures
