-- What an allowed step leaves of the form: the receiver's can be broken only by what it has gathered, and a mailbox's only by the same, posted
-- as an answer. Assumes nothing.
use mathlib.Core.Path.{◌≡◌, refl, sym, ◌∙◌, ap, subst}
use mathlib.Core.Bool.{Bool, true, false, not, ◌&&◌, ◌||◌}
use mathlib.Core.List.{List}
use Prim.Native.Nat.{ℕ, ◌≤◌, ◌<◌}
use native.Mathlib.Omega.{arith}
use lib.ListN.{length, set, get_or-eq_default}
use lib.Seq.{get_or-set_same}
use lib.Dec.{eqb, ltb}
use borrow.Author.Tests.{eqb-false, eq-eqb, ne_eqb, ltb-true, ltb-false}
use Rattle.finite.proofs.Cases.{by_bool, by_eq, clash, or_right}
use Rattle.finite.proofs.Below.{all_below_lem}
use Rattle.bitset.specs.Set.{member}
use Rattle.aggregate.specs.declared.Config.{Config}
use Rattle.aggregate.specs.declared.Aggregate.{Aggregate}
use Rattle.aggregate.specs.Aggregate.{bounded, clipped}
use Rattle.aggregate.proofs.Laws.{clipped-bounded}
use Rattle.aggregate.proofs.Words.{bounded_fits}
use Rattle.station.specs.declared.Station.{Station}
use Rattle.station.specs.Events.{asleep, active, started_by, ended}
use Rattle.station.specs.Form as form
use Rattle.station.proofs.Formed.{facts, well_formed_lem, started_formed, answer_taken_formed, ended_formed}
use Rattle.schedule.specs.declared.Step.{Step}
use Rattle.schedule.specs.Rules.{allowed}
use Rattle.schedule.proofs.Listing.{range_bounds}
use Rattle.schedule.proofs.Answers.{allowed_parts}
use Rattle.stations.specs.Stations.{no_station, station_at, are_well_formed}
use Rattle.stations.proofs.Laws.{replaced_bounded}
use Rattle.mail.specs.declared.Message.TheVariants.{Start, Answer}
use Rattle.mail.specs.declared.Mailbox.{Mailbox}
use Rattle.mail.specs.declared.Mailbox.TheVariants.{Empty, Full}
use Rattle.mail.specs.Mail.{mailbox_bounded, box_at, brought_at}
use Rattle.mailbox.specs.Net.{Net, station, are_bounded, well_formed}
use Rattle.mailbox.specs.Delivery.{takes_from, awakened, taken, must_answer, settled, boxes_delivered, delivered, reported}
use Rattle.mailbox.specs.Rules.{delivery, net_after, rules}
use Rattle.mailbox.specs.Internal.Receivers.{receiver_made, boxes_made}
use Rattle.mailbox.proofs.Laws.{form_parts, k_most, formed_at, bounded_at, bounded_box, posted_bounded, taken_parent, delivery-may, places}
use Rattle.mailbox.proofs.Delivered.{after, length-delivered, box_delivered, brought_delivered}

pub length-made : (t : Config) (boxes : List ℕ) (s : Step) (receiver : Station) → length (boxes_made t boxes s receiver) ≡ length boxes
length-made t boxes s receiver =
    by_bool (eqb s.kind delivery) (λ e. rw e (length-delivered t boxes s.sender s.receiver receiver)) (λ e. rw e)

-- an allowed step, in the two parts that the code makes
pub applied_is : (net : Net) (s : Step) → let r = station net s.receiver in
    net_after net s
    ≡ record {
      config = net.config;
      stations = set net.stations s.receiver (receiver_made net.config net.boxes s r);
      boxes = boxes_made net.config net.boxes s r;
    }
unfolding net_after delivered reported
applied_is net s = by_bool (eqb s.kind delivery) (λ e. rw e) (λ e. rw e)

-- the mailbox from x to y is bounded, with what an answer there brings, if it is one of two different stations
abbrev Bounds : Config → ℕ → ℕ → Mailbox → Aggregate → Type 0
Bounds t x y b v = (eqb x y || mailbox_bounded t b v) ≡ true

bounded-all : (t : Config) (boxes : List ℕ) → ((x y : ℕ) → x < t.k → y < t.k → Bounds t x y (box_at boxes x y) (brought_at t boxes x y))
    → are_bounded t boxes ≡ true
unfolding are_bounded
bounded-all t boxes h = all_below_lem _ t.k (λ x lx. all_below_lem _ t.k (λ y ly. h x y lx ly))

-- only what a station holds decides on its form
abbrev Decides : Config → ℕ → Station → Type 0
Decides t i s = form.well_formed t i s ≡ bounded t s.held

module _ (t : Config) (i : ℕ) (s : Station) where
  ended_decides : Decides t i s → Decides t i (ended s)
  ended_decides d =
      by_bool (bounded t s.held)
      (λ b. ended_formed t i s (d ∙ b) ∙ sym b)
      (λ b. by_bool (form.well_formed t i (ended s)) (λ f. clash (facts t i (ended s) f).held-bounded b) (λ f. f ∙ sym b))

  module _ (f : form.well_formed t i s ≡ true) (from : ℕ) (few : t.k ≤ 64) (low : from < t.k) (apart : from ≡ i → ⊥) where
    holds : bounded t s.held ≡ true
    holds = (facts t i s f).held-bounded

    started : form.well_formed t i (started_by from s) ≡ true
    started = started_formed t i s f from few low (λ e. absurd (apart e))

    -- the set of a woken station stays, and the rest is as Definition 3.1 has it
    awakened_formed : eqb s.state asleep ≡ true → form.well_formed t i (awakened from s) ≡ true
    unfolding started_by
    awakened_formed e =
        let old = facts t i s f in
        let woken = facts t i _ (rw e at started) in
        well_formed_lem t i (awakened from s)
        (record {
          state-le = woken.state-le;
          parent_below = woken.parent_below;
          set-within = old.set-within;
          waits-le = woken.waits-le;
          held-bounded = old.held-bounded;
          not_in_set = old.not_in_set;
          own_parent = woken.own_parent;
        })

    taken_decides : (b : Mailbox) (v : Aggregate) → Decides t i (taken t from b v s)
    unfolding started_by
    taken_decides Empty v = f ∙ sym holds
    taken_decides (Full Start) v =
        by_bool (eqb s.state asleep)
        (λ e. rw e (awakened_formed e ∙ sym holds))
        (λ e. rw e ((rw e at started) ∙ sym holds))
    taken_decides (Full Answer) v = answer_taken_formed t i s f v

-- only an active station holds more by a message it takes
taken_holds : (t : Config) (from : ℕ) (b : Mailbox) (v : Aggregate) (s : Station) → takes_from s b ≡ true → eqb s.state active ≡ false
    → (taken t from b v s).held ≡ s.held
taken_holds t from Empty v s h n = refl
taken_holds t from (Full Start) v s h n = by_bool (eqb s.state asleep) (λ e. rw e) (λ e. rw e)
taken_holds t from (Full Answer) v s h n = clash h n

and_implied : (a b : Bool) → (a ≡ true → b ≡ true) → (a && b) ≡ a
and_implied true b h = h refl
and_implied false b h = refl

module _ (net : Net) (long : length net.boxes ≡ 36992) (f : well_formed net ≡ true) (to : ℕ) (ht : to < net.config.k) where
  abbrev t : Config
  t = net.config

  formed : form.well_formed t to (station net to) ≡ true
  formed = well_formed_lem t to (station net to) (formed_at net f to ht)

  -- station s in the place of the receiver
  abbrev placed : Station → List Station
  placed s = set net.stations to s

  abbrev bounded_there : Station → Bool
  bounded_there s = bounded t (station_at (placed s) to).held

  placed_decides : (s : Station) (boxes : List ℕ) → Decides t to s → (bounded_there s ≡ true → are_bounded t boxes ≡ true)
      → (are_well_formed t (placed s) && are_bounded t boxes) ≡ bounded_there s
  placed_decides s boxes d h =
      ap (λ (b : Bool). b && are_bounded t boxes) (replaced_bounded t net.stations (form_parts net f).0 to s ht d)
      ∙ and_implied (bounded_there s) (are_bounded t boxes) h

  report_decides : well_formed (reported net to) ≡ bounded (reported net to).config (station (reported net to) to).held
  unfolding well_formed reported
  report_decides =
      placed_decides (ended (station net to)) net.boxes
      (ended_decides t to (station net to) (formed ∙ sym (facts t to (station net to) formed).held-bounded))
      (λ h. (form_parts net f).1)

  module _ (from : ℕ) (hf : from < net.config.k) (apart : from ≡ to → ⊥) (takes : takes_from (station net to) (box_at net.boxes from to) ≡ true) where
    abbrev brings : Aggregate
    brings = brought_at t net.boxes from to

    abbrev taker : Station
    taker = after t net.boxes from to (station net to)

    low : (from < 64) × (to < 64)
    low = omega (arith, k_most net f)

    parent_low : taker.parent < 64
    parent_low =
        let old : (station net to).parent < 64 = omega (arith, (formed_at net f to ht).parent_below, k_most net f) in
        taken_parent (λ (p : ℕ). p < 64) t from (box_at net.boxes from to) brings (station net to) low.0 old

    settled_decides : Decides t to (settled t to taker)
    settled_decides =
        let took = taken_decides t to (station net to) formed from (k_most net f) hf apart (box_at net.boxes from to) brings in
        by_bool (must_answer t to taker) (λ e. rw e (ended_decides t to taker took)) (λ e. rw e took)

    settled_holds : (settled t to taker).held ≡ taker.held
    settled_holds = by_bool (must_answer t to taker) (λ e. rw e) (λ e. rw e)

    -- what the receiver took is bounded where its place says so; a receiver without a place is asleep, and took no sum
    bounded-after : bounded_there (settled t to taker) ≡ true → bounded t taker.held ≡ true
    bounded-after h =
        let stations = net.stations in
        by_bool (ltb to (length stations))
        (λ m.
        let there = get_or-set_same stations to (settled t to taker) no_station (ltb-true to (length stations) m) in
        ap (bounded t) (sym settled_holds) ∙ sym (ap (λ (x : Station). bounded t x.held) there) ∙ h)
        (λ m.
        let none : station net to ≡ no_station = get_or-eq_default stations no_station (ltb-false to (length stations) m) in
        let idle : eqb (station net to).state active ≡ false = ap (λ (x : Station). eqb x.state active) none in
        ap (bounded t) (taken_holds t from (box_at net.boxes from to) brings (station net to) takes idle)
        ∙ (facts t to (station net to) formed).held-bounded)

    -- every mailbox then is as it was, empty, holds a start, or an answer with what the receiver took
    boxes-bounded : bounded t taker.held ≡ true → are_bounded t (boxes_delivered t net.boxes from to (station net to)) ≡ true
    boxes-bounded b =
        bounded-all t _ (λ x y lx ly.
        let hx : x < 64 = omega (arith, k_most net f) in
        let hy : y < 64 = omega (arith, k_most net f) in
        rw (
          box_delivered t net.boxes from to (station net to) long low.0 low.1 x y hx hy parent_low apart,
          brought_delivered t net.boxes from to (station net to) long low.0 low.1 x y hx hy parent_low (bounded_fits t taker.held b),
        )
        (by_bool (eqb x from && eqb y to)
        (λ e. rw e (or_right (eqb x y) true refl))
        (λ e. by_bool (eqb x to && (must_answer t to taker && eqb y taker.parent))
        (λ p. rw (e, p) (or_right (eqb x y) (bounded t (clipped t taker.held)) (clipped-bounded t taker.held ∙ b)))
        (λ p. by_bool (eqb x to && (eqb (station net to).state asleep && (member y (station net to).unstarted && not (eqb y from))))
        (λ q. rw (e, p, q) (or_right (eqb x y) true refl))
        (λ q. rw (e, p, q) (bounded_at net f x y lx ly))))))

    delivery_decides : well_formed (delivered net from to) ≡ bounded (delivered net from to).config (station (delivered net from to) to).held
    unfolding well_formed delivered
    delivery_decides = placed_decides (settled t to taker) _ settled_decides (λ h. boxes-bounded (bounded-after h))

-- the form after an allowed step
formed_after : (net : Net) (s : Step) → length net.boxes ≡ 36992 → well_formed net ≡ true → allowed rules net s ≡ true
    → well_formed (rules.apply net s) ≡ bounded (rules.apply net s).config (station (rules.apply net s) s.receiver).held
unfolding net_after
formed_after net s long f a =
    let p = allowed_parts rules net s a in
    let b = range_bounds rules net s p.0 in
    by_eq s.kind delivery
    (λ e.
    let may = delivery-may net s e p.1 in
    rw (eq-eqb s.kind delivery e)
    (delivery_decides net long f s.receiver b.receiver-low s.sender b.sender-low (eqb-false s.sender s.receiver may.0) may.1))
    (λ n. rw (ne_eqb s.kind delivery n) (report_decides net long f s.receiver b.receiver-low))

-- what an allowed step finds: places for both stations and for the receiver's parent, and sums that are bounded
pub step_receives : (net : Net) (s : Step) (f : well_formed net ≡ true) → allowed rules net s ≡ true
    → ((s.sender < 64) × ((s.receiver < 64) × ((station net s.receiver).parent < 64)))
    × ((bounded net.config (station net s.receiver).held ≡ true)
    × (s.kind ≡ delivery → bounded_box net f s.sender s.receiver ≡ true))
step_receives net s f a =
    let p = allowed_parts rules net s a in
    let b = range_bounds rules net s p.0 in
    let old = formed_at net f s.receiver b.receiver-low in
    let low = places net f s p.0 in (
      (low.0, (low.1, omega (arith, k_most net f, old.parent_below))),
      (old.held-bounded, λ kind. posted_bounded net f s.sender s.receiver b.sender-low b.receiver-low (delivery-may net s kind p.1).0),
    )

-- what the receiver of an allowed step holds decides on the form of the net after it
module _ (net : Net) (s : Step) (long : length net.boxes ≡ 36992) (f : well_formed net ≡ true) (a : allowed rules net s ≡ true) where
  pub next_formed : {next : Net} → next ≡ rules.apply net s → well_formed next ≡ bounded next.config (station next s.receiver).held
  next_formed e = subst (λ (x : Net). well_formed x ≡ bounded x.config (station x s.receiver).held) (sym e) (formed_after net s long f a)
