-- `mailbox::is_row_bounded` meets its contract. Invariant: the mailboxes passed are bounded. Where no answer waits there is no sum. Assumes nothing.
use mathlib.Core.Path.{◌≡◌}
use mathlib.Core.Bool.{true, ◌||◌}
use Prim.Native.Nat.{ℕ, ◌-◌, ◌<◌}
use lib.Dec.{eqb}
use Rattle.mail.specs.Mail.{answers_of, mailbox_bounded, box_at, brought_at}
use Rattle.mailbox.proofs.is_row_bounded.Given as goal

abbrev pub invariant-loop-r : goal.invariant-loop-r
invariant-loop-r l = (l.answers ≡ answers_of l.boxes l.s)
    × ((i : ℕ) → i < l.r → (eqb l.s i || mailbox_bounded l.t (box_at l.boxes l.s i) (brought_at l.t l.boxes l.s i)) ≡ true)

abbrev pub decreases-loop-r : goal.decreases-loop-r
decreases-loop-r l = l.t.k - l.r
