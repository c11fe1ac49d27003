-- What a step leaves at each place of the net: it writes only stations below k, and mailboxes between two different ones, so no list of
-- calls touches a place past k or that of a station to itself. Assumes nothing.
use mathlib.Core.Path.{◌≡◌, refl, sym, ◌∙◌, ap}
use mathlib.Core.Bool.{Bool, true, false, not, ◌&&◌}
use mathlib.Core.Logic.{◌⊎◌}
use mathlib.Core.List.{List, [], ◌∷◌}
use Prim.Native.Nat.{ℕ, ◌≤◌, ◌<◌}
use native.Mathlib.Omega.{arith}
use lib.Dec.{eqb}
use borrow.Author.Tests.{eqb-true, eqb-false, eq-eqb, ne_eqb, not-true}
use Rattle.finite.proofs.Cases.{clash, by_bool, by_eq, by-sum, and_both}
use Rattle.bitset.specs.Set.{member}
use Rattle.bitset.proofs.Laws.{within-member}
use Rattle.aggregate.specs.declared.Aggregate.{Aggregate}
use Rattle.aggregate.specs.Aggregate.{root_of}
use Rattle.aggregate.proofs.Words.{FitsWord}
use Rattle.wave.specs.Internal.Claim.{Runs, reached}
use Rattle.station.specs.declared.Station.{Station}
use Rattle.station.specs.Events.{asleep}
use Rattle.station.proofs.Formed.{WellFormed}
use Rattle.schedule.specs.declared.Step.{Step}
use Rattle.schedule.specs.Calls.{Call, calls_made, calls_net}
use Rattle.schedule.proofs.Listing.{range_bounds, listed-allowed}
use Rattle.schedule.proofs.Made.{Listed, calls_make}
use Rattle.mail.specs.Mail.{box_at, brought_at}
use Rattle.mailbox.specs.Net.{Net, station, well_formed}
use Rattle.mailbox.specs.Delivery.{must_answer, delivered, reported}
use Rattle.mailbox.specs.Rules.{delivery, net_after, rules}
use Rattle.schedule.proofs.Answers.{allowed_parts}
use Rattle.mailbox.proofs.Laws.{k_most, formed_at, posted_bounded, places, taken_parent, taken_fits, delivery-may}
use Rattle.mailbox.proofs.Delivered.{Shaped, receiver, delivered_config, delivered_shaped, station-after-delivery}
use Rattle.mailbox.proofs.Delivered.{box_after-delivery, brought_after-delivery, reported_shaped, station-after-report}

-- the mailbox from x to y is not one of two different stations below k
abbrev pub Unused : ℕ → ℕ → ℕ → Type 0
Unused k x y = (k ≤ x) ⊎ ((k ≤ y) ⊎ (x ≡ y))

used : (k x y : ℕ) → Unused k x y → x < k → y < k → (x ≡ y → ⊥) → ⊥
used k x y u hx hy n = by-sum u (λ p. omega arith) (λ v. by-sum v (λ p. omega arith) n)

-- what a net n keeps of a net m
pub record Keeps (m n : Net) : Type 0 where
  pub config : n.config ≡ m.config
  pub stations : (x : ℕ) → m.config.k ≤ x → station n x ≡ station m x
  pub boxes : (x y : ℕ) → x < 64 → y < 64 → Unused m.config.k x y → box_at n.boxes x y ≡ box_at m.boxes x y
  pub brought : (x y : ℕ) → x < 64 → y < 64 → Unused m.config.k x y → brought_at m.config n.boxes x y ≡ brought_at m.config m.boxes x y

module _ (net : Net) (shaped : Shaped net) (f : well_formed net ≡ true) (from to : ℕ) (hf : from < net.config.k) (ht : to < net.config.k) (apart : from ≡ to → ⊥) where
  low : (from < 64) × (to < 64)
  low = omega (arith, k_most net f)

  abbrev brings : Aggregate
  brings = brought_at net.config net.boxes from to

  abbrev after : Station
  after = receiver net shaped from to low.0 low.1

  form : WellFormed net.config to (station net to)
  form = formed_at net f to ht

  parent_below : after.parent < net.config.k
  parent_below = taken_parent (λ (p : ℕ). p < net.config.k) net.config from (box_at net.boxes from to) brings (station net to) hf form.parent_below

  parent_apart : must_answer net.config to after ≡ true → after.parent ≡ to → ⊥
  parent_apart m =
      let other = not-true (eqb to (root_of net.config)) (and_both (not (eqb to (root_of net.config))) (eqb after.waits 0) m).0 in
      taken_parent (λ (p : ℕ). p ≡ to → ⊥) net.config from (box_at net.boxes from to) brings (station net to) apart
      (λ e. clash (eq-eqb to (root_of net.config) (form.own_parent e)) other)

  module _ (x y : ℕ) (u : Unused net.config.k x y) where
    never : (b : Bool) → (b ≡ true → (x < net.config.k) × (y < net.config.k) × (x ≡ y → ⊥)) → b ≡ false
    never b h = by_bool b (λ t. let w = h t in absurd (used net.config.k x y u w.0 w.1 w.2)) (λ e. e)

    not-emptied : (eqb x from && eqb y to) ≡ false
    not-emptied =
        never (eqb x from && eqb y to) (λ t.
        let both = and_both (eqb x from) (eqb y to) t in
        let ex = eqb-true x from both.0 in
        let ey = eqb-true y to both.1 in
        (rw ex hf, rw ey ht, λ e. apart (sym ex ∙ e ∙ ey)))

    not-answered : (eqb x to && (must_answer net.config to after && eqb y after.parent)) ≡ false
    not-answered =
        never (eqb x to && (must_answer net.config to after && eqb y after.parent)) (λ t.
        let both = and_both (eqb x to) (must_answer net.config to after && eqb y after.parent) t in
        let posts = and_both (must_answer net.config to after) (eqb y after.parent) both.1 in
        let ex = eqb-true x to both.0 in
        let ey = eqb-true y after.parent posts.1 in
        (rw ex ht, rw ey parent_below, λ e. parent_apart posts.0 (sym ey ∙ sym e ∙ ex)))

    abbrev set : ℕ
    set = (station net to).unstarted

    not_started : (eqb x to && (eqb (station net to).state asleep && (member y set && not (eqb y from)))) ≡ false
    not_started =
        never (eqb x to && (eqb (station net to).state asleep && (member y set && not (eqb y from)))) (λ t.
        let both = and_both (eqb x to) (eqb (station net to).state asleep && (member y set && not (eqb y from))) t in
        let wakes = and_both (eqb (station net to).state asleep) (member y set && not (eqb y from)) both.1 in
        let named = (and_both (member y set) (not (eqb y from)) wakes.1).0 in
        let ex = eqb-true x to both.0 in (
          rw ex ht,
          within-member net.config.k y set form.set-within named,
          λ e. clash (ap (λ (j : ℕ). member j set) (sym ex ∙ e) ∙ named) form.not_in_set,
        ))

  parent_low : after.parent < 64
  parent_low = omega (arith, parent_below, k_most net f)

  fits : FitsWord net.config after.held
  fits =
      taken_fits net.config from (box_at net.boxes from to) brings (station net to) (formed_at net f to ht).held-bounded
      (posted_bounded net f from to hf ht (ne_eqb from to apart))

  delivery_keeps : Keeps net (delivered net from to)
  delivery_keeps =
      record {
        config = delivered_config net shaped from to low.0 low.1;
        stations = λ x past.
            station-after-delivery net shaped from to low.0 low.1 x ∙ rw (ne_eqb x to (λ e. omega arith));
        boxes = λ x y hx hy u.
            box_after-delivery net shaped from to low.0 low.1 parent_low x y hx hy apart
            ∙ rw (not-emptied x y u, not-answered x y u, not_started x y u);
        brought = λ x y hx hy u.
            brought_after-delivery net shaped from to low.0 low.1 parent_low fits x y hx hy ∙ rw (not-answered x y u);
      }

report_keeps : (net : Net) → Shaped net → (root : ℕ) → root < 64 → root < net.config.k → Keeps net (reported net root)
unfolding reported
report_keeps net shaped root low below =
    record {
      config = refl;
      stations = λ x past. station-after-report net shaped root low x ∙ rw (ne_eqb x root (λ e. omega arith));
      boxes = λ x y hx hy u. refl;
      brought = λ x y hx hy u. refl;
    }

-- a step that is made
step_keeps : (net : Net) → Shaped net → (s : Step) → Listed rules net s → Keeps net (net_after net s) × Shaped (net_after net s)
unfolding net_after
step_keeps net shaped s listed =
    let f = listed.0 in
    let both = allowed_parts rules net s (listed-allowed rules net s listed.1) in
    let b = range_bounds rules net s both.0 in
    let low = places net f s both.0 in
    by_eq s.kind delivery
    (λ e.
    let apart = eqb-false s.sender s.receiver (delivery-may net s e both.1).0 in
    rw (eq-eqb s.kind delivery e) (
      delivery_keeps net shaped f s.sender s.receiver b.sender-low b.receiver-low apart,
      delivered_shaped net shaped s.sender s.receiver low.0 low.1,
    ))
    (λ n.
    rw (ne_eqb s.kind delivery n)
    (report_keeps net shaped s.receiver low.1 b.receiver-low, reported_shaped net shaped s.receiver low.1))

keeps_then : (l m n : Net) → Keeps l m → Keeps m n → Keeps l n
keeps_then l m n p q =
    record {
      config = q.config ∙ p.config;
      stations = λ x past. q.stations x (rw p.config past) ∙ p.stations x past;
      boxes = λ x y hx hy u. q.boxes x y hx hy (rw p.config u) ∙ p.boxes x y hx hy u;
      brought = λ x y hx hy u. (rw p.config at (q.brought x y hx hy (rw p.config u))) ∙ p.brought x y hx hy u;
    }

steps_keep : (steps : List Step) (net : Net) → Shaped net → Runs (Listed rules) rules.apply net steps → Keeps net (reached rules.apply net steps)
steps_keep [] net shaped runs = record { config = refl; stations = λ x past. refl; boxes = λ x y hx hy u. refl; brought = λ x y hx hy u. refl }
steps_keep (s ∷ l) net shaped runs =
    let one = step_keeps net shaped s runs.0 in
    keeps_then net (net_after net s) (reached rules.apply (net_after net s) l) one.0 (steps_keep l (net_after net s) one.1 runs.1)

-- "Places past k are untouched" (document 01, Causes and numbers), by any list of steps, draws and runs
pub calls_keep : (net : Net) (calls : List Call) → Shaped net → Keeps net (calls_net rules net calls)
calls_keep net calls shaped =
    let made = calls_make rules net calls in
    rw made.ends (steps_keep (calls_made rules net calls) net shaped made.runs)
