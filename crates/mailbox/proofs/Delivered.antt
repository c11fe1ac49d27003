-- The net after a delivery and after a report, at each station, at each mailbox, and in what an answer brings: what was written last stands,
-- and nothing else changed. Assumes nothing.
use mathlib.Core.Path.{◌≡◌, refl, sym, ◌∙◌}
use mathlib.Core.Bool.{false, not, cond, ◌&&◌, and_comm, and-false}
use mathlib.Core.List.{List}
use Prim.Native.Nat.{ℕ, ◌<◌}
use native.Mathlib.Omega.{arith}
use lib.ListN.{length, set, length-set}
use lib.Seq.{get_or-set_same, get_or-set_other}
use lib.Dec.{eqb}
use borrow.Author.Tests.{eqb-true, eq-eqb, ne_eqb}
use Rattle.finite.proofs.Cases.{by_bool, by_eq, and_both}
use Rattle.bitset.specs.Set.{member, without}
use Rattle.bitset.proofs.Laws.{member-without}
use Rattle.aggregate.specs.declared.Config.{Config}
use Rattle.aggregate.specs.Aggregate.{nothing, clipped}
use Rattle.aggregate.proofs.Words.{FitsWord}
use Rattle.station.specs.declared.Station.{Station}
use Rattle.station.specs.Events.{asleep, ended}
use Rattle.stations.specs.Stations.{no_station, station_at}
use Rattle.mail.specs.declared.Message.TheVariants.{Start, Answer}
use Rattle.mail.specs.declared.Mailbox.TheVariants.{Empty, Full}
use Rattle.mail.specs.Mail.{box_at, brought_at, with_box}
use Rattle.mail.proofs.Laws.{length_box, length-starts, box_after, box_after-starts, brought_emptied, brought_starts, brought_posted}
use Rattle.mailbox.specs.Net.{Net, station}
use Rattle.mailbox.specs.Delivery.{taken, boxes_after, must_answer, settled, boxes_settled, boxes_delivered, delivered, reported}

-- the lists of a net have the arrays' lengths
pub record Shaped (net : Net) : Type 0 where
  pub stations : length net.stations ≡ 64
  pub boxes : length net.boxes ≡ 36992

-- every station after one is written: that one, or as it was
pub station-after-set : (stations : List Station) (i : ℕ) (s : Station) → i < length stations → (x : ℕ)
    → station_at (set stations i s) x ≡ cond (eqb x i) s (station_at stations x)
station-after-set stations i s h x =
    by_eq x i
    (λ e. rw (e, eq-eqb i i refl) (get_or-set_same stations i s no_station h))
    (λ ne. rw (ne_eqb x i ne) (get_or-set_other stations i x s no_station ne))

-- ---- the mailboxes after a delivery
module _ (t : Config) (boxes : List ℕ) (from to : ℕ) (receiver : Station) where
  -- the receiver after it took the message
  abbrev pub after : Station
  after = taken t from (box_at boxes from to) (brought_at t boxes from to) receiver

  abbrev emptied : List ℕ
  emptied = with_box boxes from to Empty nothing

  length-after : length (boxes_after boxes from to receiver) ≡ length boxes
  unfolding boxes_after
  length-after =
      by_bool (eqb receiver.state asleep)
      (λ e. rw e (length-starts emptied to (without from receiver.unstarted) ∙ length_box boxes from to Empty nothing))
      (λ e. rw e (length_box boxes from to Empty nothing))

  pub length-delivered : length (boxes_delivered t boxes from to receiver) ≡ length boxes
  unfolding boxes_settled
  length-delivered =
      by_bool (must_answer t to after)
      (λ e. rw e (length_box (boxes_after boxes from to receiver) to _ _ _ ∙ length-after))
      (λ e. rw e length-after)

  module _ (long : length boxes ≡ 36992) (hf : from < 64) (ht : to < 64) (x y : ℕ) (hx : x < 64) (hy : y < 64) where
    -- the delivered one is empty, and a receiver that was asleep has posted a start to every neighbour but the sender
    box_after_taking : box_at (boxes_after boxes from to receiver) x y
        ≡ cond (eqb x to && (eqb receiver.state asleep && (member y receiver.unstarted && not (eqb y from)))) (Full Start)
        (cond (eqb x from && eqb y to) Empty (box_at boxes x y))
    unfolding boxes_after
    box_after_taking =
        let old = box_after boxes long from hf x hx to ht y hy Empty nothing in
        let set = receiver.unstarted in
        by_bool (eqb receiver.state asleep)
        (λ e.
        rw e
        (box_after-starts emptied (length_box boxes from to Empty nothing ∙ long) to ht x hx (without from set) y
        ∙ rw (member-without y from set, and_comm (not (eqb y from)) (member y set), old)))
        (λ e. rw (e, and-false) old)

    brought_after_taking : brought_at t (boxes_after boxes from to receiver) x y ≡ brought_at t boxes x y
    unfolding boxes_after
    brought_after_taking =
        let old = brought_emptied t boxes from hf x y to nothing in
        by_bool (eqb receiver.state asleep) (λ e. rw e (brought_starts t emptied to ht x y _ ∙ old)) (λ e. rw e old)

    module _ (low : after.parent < 64) where
      answered : box_at (boxes_delivered t boxes from to receiver) x y
          ≡ cond (eqb x to && (must_answer t to after && eqb y after.parent)) (Full Answer) (box_at (boxes_after boxes from to receiver) x y)
      unfolding boxes_settled
      answered =
          by_bool (must_answer t to after)
          (λ e. rw e (box_after (boxes_after boxes from to receiver) (length-after ∙ long) to ht x hx after.parent low y hy (Full Answer) _))
          (λ e. rw (e, and-false))

      -- the delivered mailbox is empty; a receiver that must answer has posted an answer to its parent, and one that was asleep a start to
      -- every neighbour but the sender; every other mailbox is as it was
      pub box_delivered : (from ≡ to → ⊥)
          → box_at (boxes_delivered t boxes from to receiver) x y
          ≡ cond (eqb x from && eqb y to) Empty
          (cond (eqb x to && (must_answer t to after && eqb y after.parent)) (Full Answer)
          (cond (eqb x to && (eqb receiver.state asleep && (member y receiver.unstarted && not (eqb y from)))) (Full Start)
          (box_at boxes x y)))
      box_delivered apart =
          answered
          ∙ rw box_after_taking
          (by_bool (eqb x from && eqb y to)
          (λ e.
          let other : eqb x to ≡ false = ne_eqb x to (λ z. apart (sym (eqb-true x from (and_both (eqb x from) (eqb y to) e).0) ∙ z)) in
          rw (e, other))
          (λ e. rw e))

      -- the answer posted brings what the receiver holds in the classes in use; every other brings what it did
      pub brought_delivered : FitsWord t after.held
          → brought_at t (boxes_delivered t boxes from to receiver) x y
          ≡ cond (eqb x to && (must_answer t to after && eqb y after.parent)) (clipped t after.held) (brought_at t boxes x y)
      unfolding boxes_settled
      brought_delivered fits =
          by_bool (must_answer t to after)
          (λ e. rw (e, ← brought_after_taking)
          (brought_posted (boxes_after boxes from to receiver) (length-after ∙ long) to ht x hx after.parent low y hy t after.held fits))
          (λ e. rw (e, and-false) brought_after_taking)

-- ---- the net after a delivery
module _ (net : Net) (shaped : Shaped net) (from to : ℕ) (hf : from < 64) (ht : to < 64) where
  abbrev pub receiver : Station
  receiver = after net.config net.boxes from to (station net to)

  pub delivered_config : (delivered net from to).config ≡ net.config
  unfolding delivered
  delivered_config = refl

  pub delivered_shaped : Shaped (delivered net from to)
  unfolding delivered
  delivered_shaped =
      record {
        stations = length-set net.stations to _ ∙ shaped.stations;
        boxes = length-delivered net.config net.boxes from to (station net to) ∙ shaped.boxes;
      }

  -- the receiver has taken the message, and is finished where it must answer; every other station is as it was
  pub station-after-delivery : (x : ℕ)
      → station (delivered net from to) x ≡ cond (eqb x to) (cond (must_answer net.config to receiver) (ended receiver) receiver) (station net x)
  unfolding delivered
  station-after-delivery x = station-after-set net.stations to (settled net.config to receiver) (omega (arith, shaped.stations)) x

  module _ (low : receiver.parent < 64) where
    pub box_after-delivery : (x y : ℕ) → x < 64 → y < 64 → (from ≡ to → ⊥)
        → box_at (delivered net from to).boxes x y
        ≡ cond (eqb x from && eqb y to) Empty
        (cond (eqb x to && (must_answer net.config to receiver && eqb y receiver.parent)) (Full Answer)
        (cond (eqb x to && (eqb (station net to).state asleep && (member y (station net to).unstarted && not (eqb y from)))) (Full Start)
        (box_at net.boxes x y)))
    unfolding delivered
    box_after-delivery x y hx hy = box_delivered net.config net.boxes from to (station net to) shaped.boxes hf ht x y hx hy low

    pub brought_after-delivery : FitsWord net.config receiver.held → (x y : ℕ) → x < 64 → y < 64
        → brought_at net.config (delivered net from to).boxes x y
        ≡ cond (eqb x to && (must_answer net.config to receiver && eqb y receiver.parent)) (clipped net.config receiver.held)
        (brought_at net.config net.boxes x y)
    unfolding delivered
    brought_after-delivery fits x y hx hy =
        brought_delivered net.config net.boxes from to (station net to) shaped.boxes hf ht x y hx hy low fits

-- a report finishes the root, and nothing else changes
module _ (net : Net) (shaped : Shaped net) (root : ℕ) (low : root < 64) where
  pub reported_shaped : Shaped (reported net root)
  unfolding reported
  reported_shaped = record { stations = length-set net.stations _ _ ∙ shaped.stations; boxes = shaped.boxes }

  pub station-after-report : (x : ℕ) → station (reported net root) x ≡ cond (eqb x root) (ended (station net root)) (station net x)
  unfolding reported
  station-after-report x = station-after-set net.stations root (ended (station net root)) (omega (arith, shaped.stations)) x

  pub boxes_after-report : (reported net root).boxes ≡ net.boxes
  unfolding reported
  boxes_after-report = refl
