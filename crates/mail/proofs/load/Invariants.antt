-- `mail::load` meets its contract: class by class, the sum is copied out. Assumes nothing.
use mathlib.Core.Path.{◌≡◌}
use lib.ListN.{get_or, replicate}
use Rattle.finite.proofs.Below.{stored}
use Rattle.mail.specs.Mail.{sum_place}
use Rattle.mail.proofs.load.Given as goal

abbrev pub invariant-loop-j : goal.invariant-loop-j
invariant-loop-j l = l.sums ≡ stored (replicate 8 0) l.j (λ i. get_or l.boxes (sum_place i l.p.from l.p.to) 0)
