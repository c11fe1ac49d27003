-- Rows that follow a step: it leaves those of all senders but its two stations. Assumes nothing.
use mathlib.Core.Path.{◌≡◌, ◌∙◌}
use mathlib.Core.List.{List}
use Prim.Native.Nat.{ℕ, ◌+◌, ◌≤◌, ◌<◌}
use native.Mathlib.Omega.{arith}
use lib.ListN.{get_or, set}
use lib.Seq.{get_or-set_other}
use lib.Dec.{eqb}
use borrow.Author.Tests.{ne_eqb}
use Rattle.finite.proofs.Cases.{by_bool, by_eq}
use Rattle.aggregate.specs.declared.Config.{Config}
use Rattle.aggregate.specs.Aggregate.{root_of, nothing}
use Rattle.station.specs.declared.Station.{Station}
use Rattle.station.specs.Events.{asleep}
use Rattle.stations.specs.Stations.{no_station}
use Rattle.schedule.specs.declared.Step.{Step}
use Rattle.schedule.specs.declared.rows.Sizes.{Sizes}
use Rattle.schedule.specs.Internal.Rows.{Others}
use Rattle.mail.specs.declared.Mailbox.TheVariants.{Empty}
use Rattle.mail.specs.Mail.{with_box}
use Rattle.mail.proofs.Laws.{word_box, word_starts}
use Rattle.mailbox.specs.declared.listing.Takers.{Takers}
use Rattle.mailbox.specs.Delivery.{must_answer, boxes_after, boxes_settled}
use Rattle.mailbox.specs.Internal.Receivers.{root_reports, receivers_of, HoldReceivers, AnySender, boxes_made}
use Rattle.mailbox.specs.Rules.{delivery}

-- ---- a step leaves the sets of every sender but its two stations
module _ (t : Config) (boxes : List ℕ) (s : Step) (receiver : Station) (i : ℕ) (low : i < 128) (n : i ≡ s.sender → ⊥) (m : i ≡ 64 + s.sender → ⊥)
    (n' : i ≡ s.receiver → ⊥) (m' : i ≡ 64 + s.receiver → ⊥) where
  word_after : get_or (boxes_after boxes s.sender s.receiver receiver) i 0 ≡ get_or boxes i 0
  unfolding boxes_after
  word_after =
      let emptied = word_box boxes s.sender i low n m s.receiver Empty nothing in
      by_bool (eqb receiver.state asleep)
      (λ e. rw e (word_starts (with_box boxes s.sender s.receiver Empty nothing) s.receiver i low n' m' _ ∙ emptied))
      (λ e. rw e emptied)

  word_settled : (l : List ℕ) (u : Station) → get_or (boxes_settled t l s.receiver u) i 0 ≡ get_or l i 0
  unfolding boxes_settled
  word_settled l u =
      by_bool (must_answer t s.receiver u)
      (λ e. rw e (word_box l s.receiver i low n' m' u.parent _ _))
      (λ e. rw e)

  pub word_made : get_or (boxes_made t boxes s receiver) i 0 ≡ get_or boxes i 0
  word_made =
      by_bool (eqb s.kind delivery)
      (λ e. rw e (word_settled _ _ ∙ word_after))
      (λ e. rw e)

-- ---- so their rows hold after it
module _ (t : Config) (takers : Takers) (stations : List Station) (boxes : List ℕ) (s : Step) (receiver next : Station) where
  abbrev stations' : List Station
  stations' = set stations s.receiver next

  receivers_kept : (kind x : ℕ) → x < 64 → s.sender < 64 → s.receiver < 64 → (x ≡ s.sender → ⊥) → (x ≡ s.receiver → ⊥)
      → receivers_of (root_of t) takers (root_reports t stations) boxes kind x
      ≡ receivers_of (root_of t) takers (root_reports t stations') (boxes_made t boxes s receiver) kind x
  unfolding receivers_of
  receivers_kept kind x low hs hr n m =
      let starts = word_made t boxes s receiver x (omega arith) n (λ e. omega arith) m (λ e. omega arith) in
      let answers = word_made t boxes s receiver (64 + x) (omega arith) (λ e. omega arith) (λ e. n (omega arith)) (λ e. omega arith) (λ e. m (omega arith)) in
      by_eq x (root_of t)
      (λ (e : x ≡ root_of t).
      let root : get_or stations' (root_of t) no_station ≡ get_or stations (root_of t) no_station = get_or-set_other stations s.receiver (root_of t) next no_station (λ q. m (e ∙ q)) in
      rw (starts, answers, root))
      (λ q. rw (starts, answers, ne_eqb x (root_of t) q))

  pub others_hold : {rows : List ℕ} {z : Sizes} → t.k ≤ 64 → s.sender < t.k → s.receiver < t.k
      → HoldReceivers AnySender t takers (root_reports t stations) boxes rows z
      → HoldReceivers (Others s) t takers (root_reports t stations') (boxes_made t boxes s receiver) rows z
  others_hold few hs hr H =
      record {
        sized = H.sized;
        small = H.small;
        row = λ kind x h l low o. H.row kind x h l low tt ∙ receivers_kept kind x (omega arith) (omega arith) (omega arith) o.0 o.1;
        sizes = H.sizes;
      }
