-- `rendezvous::form::is_well_formed` meets its contract. Invariant: the places below i are in form; one that is not ends it. Assumes nothing.
use mathlib.Core.Path.{◌≡◌}
use mathlib.Core.Bool.{true}
use Rattle.finite.specs.Below.{all_below}
use Rattle.rendezvous.specs.Net.{net_in}
use Rattle.rendezvous.proofs.FormAfter.{placed}
use Rattle.rendezvous.proofs.form.is_well_formed.Given as goal

abbrev pub invariant-loop-i : goal.invariant-loop-i
invariant-loop-i l = all_below l.i (placed (net_in l.net l.totals)) ≡ true
