-- `schedule::rows::add` meets its contract: an empty row adds nothing. Assumes nothing.
use Rattle.std.proofs.Common.{◌≡◌, ℕ, ◌+◌, ◌%◌, ◌^◌, ◌<◌, ◌&&◌, eqb, sym, ap, ◌∙◌, mod-eq_of_lt, arith, eqb-true}
use Rattle.finite.proofs.Cases.{and_both}
use Rattle.bitset.specs.Set.{size}
use Rattle.bitset.proofs.Laws.{size_empty}
use Rattle.schedule.specs.Rows.{added}
use Rattle.schedule.proofs.rows.add.Goals as goal

-- an empty row adds nothing
nothing : (x a : ℕ) → x < 2 ^ 32 → a ≡ 0 → (x + size a) % 2 ^ 32 ≡ x
nothing x a h e =
    let z : size a ≡ 0 = ap size e ∙ size_empty in
    let same : x + size a ≡ x = omega arith in
    rw same (mod-eq_of_lt h)

pub returns-then-a-b : goal.returns-then-a-b
unfolding added
returns-then-a-b c =
    let a = c.args in
    let three = and_both (eqb a.a 0 && eqb a.b 0 && eqb a.c 0) (eqb a.d 0) c.if-a-b.true in
    let two = and_both (eqb a.a 0 && eqb a.b 0) (eqb a.c 0) three.0 in
    let one = and_both (eqb a.a 0) (eqb a.b 0) two.0 in
    sym (rw (
      nothing a.sizes.first a.a (omega arith) (eqb-true a.a 0 one.0),
      nothing a.sizes.second a.b (omega arith) (eqb-true a.b 0 one.1),
      nothing a.sizes.third a.c (omega arith) (eqb-true a.c 0 two.1),
      nothing a.sizes.fourth a.d (omega arith) (eqb-true a.d 0 three.1),
    ))

pub returns : goal.returns
unfolding added
returns c = rw (c.row_size-4.ensures, c.row_size-3.ensures, c.row_size-2.ensures, c.row_size.ensures)
