-- What a well-formed net and an allowed step say of the two stations and of the mailbox between them. Assumes nothing.
use mathlib.Core.Path.{◌≡◌}
use mathlib.Core.List.{List}
use mathlib.Core.Bool.{Bool, true, false, not, ◌||◌}
use Prim.Native.Nat.{ℕ, ◌≤◌, ◌<◌}
use native.Mathlib.Omega.{arith}
use lib.Dec.{eqb}
use borrow.Author.Tests.{eq-eqb, not-true}
use Rattle.finite.proofs.Cases.{clash, by_bool, by-sum, and_both, or_cases}
use Rattle.finite.proofs.Below.{all_below-at}
use Rattle.bitset.specs.Set.{member}
use Rattle.aggregate.specs.declared.Config.{Config}
use Rattle.aggregate.specs.Aggregate.{root_of, bounded}
use Rattle.aggregate.specs.declared.Aggregate.{Aggregate}
use Rattle.aggregate.proofs.Laws.{valid-k, root_below}
use Rattle.aggregate.proofs.Words.{FitsWord, bounded_fits, joined_fits}
use Rattle.station.specs.declared.Station.{Station}
use Rattle.station.specs.Events.{asleep}
use Rattle.station.proofs.Formed.{WellFormed, facts}
use Rattle.schedule.specs.declared.Step.{Step}
use Rattle.schedule.specs.Rules.{in_range}
use Rattle.schedule.proofs.Listing.{range_bounds}
use Rattle.stations.specs.Stations.{are_well_formed}
use Rattle.stations.proofs.Laws.{config_valid, well_formed-at}
use Rattle.topology.specs.Answer.{accepted}
use Rattle.linemap.specs.declared.Map.{Map}
use Rattle.linemap.specs.Openings.{openable}
use Rattle.linemap.proofs.Accepted.{map_web, map-desk, open_accepted}
use Rattle.mail.specs.declared.Mailbox.{Mailbox}
use Rattle.mail.specs.declared.Mailbox.TheVariants.{Empty, Full}
use Rattle.mail.specs.declared.Message.TheVariants.{Start, Answer}
use Rattle.mail.specs.Mail.{mailbox_bounded, starts_of, answers_of, box_at, brought_at}
use Rattle.mailbox.specs.Net.{Net, station, row_bounded, are_bounded, well_formed}
use Rattle.mailbox.specs.Delivery.{takes_from, taken}
use Rattle.mailbox.specs.Rules.{delivery, may_step, rules}

-- a delivery goes from one station to another, which takes what is in the mailbox
pub delivery-may : (net : Net) (s : Step) → s.kind ≡ delivery → rules.guard net s ≡ true
    → (eqb s.sender s.receiver ≡ false) × (takes_from (station net s.receiver) (box_at net.boxes s.sender s.receiver) ≡ true)
unfolding may_step
delivery-may net s e g =
    let may = rw (eq-eqb s.kind delivery e) at g in
    let both = and_both (not (eqb s.sender s.receiver)) (takes_from (station net s.receiver) (box_at net.boxes s.sender s.receiver)) may in
    (not-true (eqb s.sender s.receiver) both.0, both.1)

module _ (net : Net) (f : well_formed net ≡ true) where
  pub form_parts : (are_well_formed net.config net.stations ≡ true) × (are_bounded net.config net.boxes ≡ true)
  unfolding well_formed
  form_parts = and_both (are_well_formed net.config net.stations) (are_bounded net.config net.boxes) f

  pub k_most : net.config.k ≤ 64
  k_most = (valid-k net.config (config_valid net.config net.stations form_parts.0)).1

  pub root-placed : root_of net.config < 64
  root-placed = omega (arith, k_most, root_below net.config (config_valid net.config net.stations form_parts.0))

  pub formed_at : (i : ℕ) → i < net.config.k → WellFormed net.config i (station net i)
  formed_at i l = facts net.config i (station net i) (well_formed-at net.config net.stations form_parts.0 i l)

  -- the mailbox from s to r, with what an answer there brings
  abbrev pub bounded_box : ℕ → ℕ → Bool
  bounded_box s r = mailbox_bounded net.config (box_at net.boxes s r) (brought_at net.config net.boxes s r)

  pub bounded_at : (s r : ℕ) → s < net.config.k → r < net.config.k → (eqb s r || bounded_box s r) ≡ true
  unfolding are_bounded
  bounded_at s r hs hr =
      let k = net.config.k in
      let row = all_below-at (row_bounded net.config net.boxes) k s form_parts.1 hs in
      all_below-at (λ j. eqb s j || bounded_box s j) k r row hr

  -- what is posted from one station to another is bounded
  pub posted_bounded : (s r : ℕ) → s < net.config.k → r < net.config.k → eqb s r ≡ false → bounded_box s r ≡ true
  posted_bounded s r hs hr n = by-sum (or_cases (eqb s r) (bounded_box s r) (bounded_at s r hs hr)) (λ e. clash e n) (λ e. e)

  pub places : (s : Step) → in_range rules net s ≡ true → (s.sender < 64) × (s.receiver < 64)
  places s r = let b = range_bounds rules net s r in omega (arith, b.sender-low, b.receiver-low, k_most)

-- where no answer waits there is no sum
pub unanswered : (t : Config) (boxes : List ℕ) (s r : ℕ) → member r (answers_of boxes s) ≡ false
    → mailbox_bounded t (box_at boxes s r) (brought_at t boxes s r) ≡ true
unfolding box_at
unanswered t boxes s r none = by_bool (member r (starts_of boxes s)) (λ e. rw e) (λ e. rw (e, none))

-- whoever takes a message has the sender or its old parent as its parent
pub taken_parent : (P : ℕ → Type 0) (t : Config) (from : ℕ) (box : Mailbox) (v : Aggregate) (s : Station) → P from → P s.parent
    → P (taken t from box v s).parent
taken_parent P t from Empty v s h g = g
taken_parent P t from (Full Start) v s h g = by_bool (eqb s.state asleep) (λ e. rw e h) (λ e. rw e g)
taken_parent P t from (Full Answer) v s h g = g

-- whoever takes a bounded message, and was bounded, has missing numbers that are bytes
pub taken_fits : (t : Config) (from : ℕ) (box : Mailbox) (v : Aggregate) (s : Station) → bounded t s.held ≡ true → mailbox_bounded t box v ≡ true
    → FitsWord t (taken t from box v s).held
taken_fits t from Empty v s h g = bounded_fits t s.held h
taken_fits t from (Full Start) v s h g =
    by_bool (eqb s.state asleep) (λ e. rw e (bounded_fits t s.held h)) (λ e. rw e (bounded_fits t s.held h))
taken_fits t from (Full Answer) v s h g = joined_fits t s.held v h g

-- the root of a map on which a net is opened has a place
pub root-low : (way : ℕ) (m : Map) → openable way m ≡ accepted → m.desk < 64
root-low way m e = let ok = open_accepted way m e in omega (arith, (map_web m ok).few_stations, map-desk m ok)
