-- The fresh net, at each mailbox, and the lengths of its lists. Assumes nothing.
use mathlib.Core.Path.{◌≡◌, ◌∙◌, ap}
use mathlib.Core.Bool.{cond, ◌&&◌}
use mathlib.Core.List.{List}
use Prim.Native.Nat.{ℕ, ◌+◌, ◌<◌}
use native.Mathlib.Omega.{arith}
use lib.ListN.{length, get_or, length-replicate, get_or-replicate}
use lib.Dec.{eqb}
use Rattle.finite.proofs.Below.{length-tabulate}
use Rattle.bitset.specs.Set.{member}
use Rattle.aggregate.specs.declared.Config.{Config}
use Rattle.aggregate.specs.Aggregate.{root_of}
use Rattle.stations.specs.Stations.{reading_at, fresh_station, fresh_stations}
use Rattle.mail.specs.declared.Message.TheVariants.{Start}
use Rattle.mail.specs.declared.Mailbox.TheVariants.{Empty, Full}
use Rattle.mail.specs.Mail.{box_at, no_mail}
use Rattle.mail.proofs.Laws.{length-starts, box_after-starts}
use Rattle.bitset.proofs.Laws.{member_empty}
use Rattle.mailbox.specs.Net.{fresh_net}
use Rattle.mailbox.proofs.Delivered.{Shaped}

module _ (t : Config) (counts neighbours : List ℕ) where
  empty_long : length no_mail ≡ 36992
  empty_long = length-replicate {A = ℕ} 36992 0

  pub fresh_shaped : Shaped (fresh_net t counts neighbours)
  unfolding fresh_net fresh_stations
  fresh_shaped =
      record {
        stations = length-tabulate (λ i. fresh_station t (reading_at t counts i) (get_or neighbours i 0) i) 64;
        boxes = length-starts no_mail (root_of t) (get_or neighbours (root_of t) 0) ∙ empty_long;
      }

  none : (x y : ℕ) → x < 64 → box_at no_mail x y ≡ Empty
  unfolding box_at
  none x y hx = rw (get_or-replicate {A = ℕ} 36992 x 0 0 (omega arith), get_or-replicate {A = ℕ} 36992 (64 + x) 0 0 (omega arith), member_empty y)

  -- a start from the root to each of its neighbours, and all other mailboxes empty
  pub fresh_box : root_of t < 64 → (x y : ℕ) → x < 64 → y < 64
      → box_at (fresh_net t counts neighbours).boxes x y ≡ cond (eqb x (root_of t) && member y (get_or neighbours (root_of t) 0)) (Full Start) Empty
  unfolding fresh_net
  fresh_box low x y hx hy =
      box_after-starts no_mail empty_long (root_of t) low x hx (get_or neighbours (root_of t) 0) y
      ∙ ap (cond (eqb x (root_of t) && member y (get_or neighbours (root_of t) 0)) (Full Start)) (none x y hx)
