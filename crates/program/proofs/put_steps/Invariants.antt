-- `program::put_steps` meets its contract. The invariant: the lines of the steps made stand at the front of the buffer, and those left are
-- those of the net reached, by the draws that are left. Assumes nothing.
use Rattle.rendezvous.specs.Net.{net_in}
use Rattle.program.proofs.Standing.{Stands}
use Rattle.program.proofs.put_steps.Given as goal

abbrev pub invariant-loop-made : goal.invariant-loop-made
invariant-loop-made l = Stands l.input l.opened.draws l.initial.out l.out (net_in l.net l.totals) l.made l.end
