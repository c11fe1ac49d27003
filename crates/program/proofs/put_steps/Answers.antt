-- `program::put_steps` meets its contract. The invariant: the lines of the steps made stand at the front of the buffer, and those left are
-- those of the net reached, by the draws that are left. Assumes nothing.
use mathlib.Core.Path.{◌≡◌}
use native.Mathlib.Omega.{arith}
use Rattle.rendezvous.specs.Net.{net_in}
use Rattle.program.proofs.Standing.{stands_first, stands_next, step_room, sender-below, used_up_closes, refused_closes}
use Rattle.program.proofs.put_steps.Goals as goal

pub loop-made-init : goal.loop-made-init
loop-made-init c = stands_first _ c.fresh.result c.requires.opens c.fresh.ensures.opening

pub step_line-requires : goal.step_line-requires
step_line-requires c =
    sender-below (net_in c.loop-made.net c.loop-made.totals) c.draw_at.result _ _ c.draw-answer.ensures.outcome c.in-Ok.is

pub put_line_at-end-requires : goal.put_line_at-end-requires
put_line_at-end-requires c =
    step_room c.loop-made.invariant c.loop-made-test.true c.draw_at.ensures _ _
    c.draw-answer.ensures.outcome c.in-Ok.is
    c.requires.roomy

pub loop-made-preserved : goal.loop-made-preserved
loop-made-preserved c =
    stands_next c.loop-made.invariant c.loop-made-test.true c.draw_at.ensures _ _
    c.draw-answer.ensures.outcome c.in-Ok.is
    (rw (c.step_line.ensures c.loop-made.totals) at c.put_line_at-end.ensures)

pub returns-in_default : goal.returns-in_default
returns-in_default c =
    refused_closes c.loop-made.invariant c.loop-made-test.true
    c.draw_at.ensures _ _ c.draw-answer.ensures.outcome c.in_default.is

pub returns : goal.returns
returns c =
    let end : c.loop-made.made ≡ c.args.opened.draws = omega arith in
    rw end at (used_up_closes c.loop-made.invariant c.loop-made-test.false)
