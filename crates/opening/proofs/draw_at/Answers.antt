-- `opening::draw_at` meets its contract: a number of two bytes, lowest first. Assumes nothing.
use native.Mathlib.Omega.{arith}
use Rattle.finite.specs.Numbers.{number}
use Rattle.opening.specs.Opening.{draw_at}
use Rattle.opening.proofs.draw_at.Goals as goal

pub returns : goal.returns
unfolding draw_at number
returns c = omega (arith, c.byte_at.ensures, c.byte_at-2.ensures)
