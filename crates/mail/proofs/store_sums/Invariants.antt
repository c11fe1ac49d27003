-- `mail::store_sums` meets its contract: the invariant is the definition, class by class. Assumes nothing.
use mathlib.Core.Path.{◌≡◌}
use Rattle.mail.specs.Mail.{with_sums}
use Rattle.mail.proofs.store_sums.Given as goal

abbrev pub invariant-loop-j : goal.invariant-loop-j
invariant-loop-j l = l.boxes ≡ with_sums l.initial.boxes l.p.from l.p.to l.v l.j
