-- `schedule::calls::run` meets its contract. Invariant: the run is one from the net reached, by the draws that are left, and that net's steps
-- are listed. Assumes nothing.
use Rattle.std.proofs.Common.{◌≡◌}
use Rattle.schedule.proofs.Running.{Running}
use Rattle.schedule.proofs.calls.run.Given as goal

abbrev pub invariant-loop-made : goal.invariant-loop-made
invariant-loop-made g l =
    let kind = g.K.Kind in
    let here = kind.view l.line l.beside in
    Running kind.rules (kind.view l.initial.line l.initial.beside) l.draws here l.made
    × kind.Lists here l.listing
    × (kind.rest l.line ≡ kind.rest l.initial.line)
