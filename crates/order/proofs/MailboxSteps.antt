-- The steps of stations with mail, read place by place, are those of `Mailing`: what document 01 asks of a delivery and a report, and what
-- they do to stations and boxes. Lists, bits and records end here. Assumes nothing.
use mathlib.Core.Path.{◌≡◌, refl, sym, ap, ap₂, ◌∙◌, subst}
use mathlib.Core.Bool.{Bool, true, false, not, ◌&&◌, ◌||◌, cond}
use mathlib.Core.Logic.{◌⊎◌, inl, inr}
use mathlib.Core.List.{List}
use Prim.Native.Nat.{ℕ, pred, ◌-◌, ◌^◌, ◌<◌, ◌≤◌}
use native.Mathlib.Omega.{arith}
use lib.Dec.{eqb, ltb, leb}
use borrow.Author.Tests.{eqb-true, eqb-false, eq-eqb, ne_eqb, not-true, lt-ltb}
use Rattle.finite.specs.Sum.{indicator}
use Rattle.finite.specs.Internal.Monoid.{addition, sum_to}
use Rattle.finite.proofs.Cases.{clash, by_bool, by_eq, by-sum, and_both, or_cases, eqb_self}
use Rattle.bitset.specs.Set.{member, size}
use Rattle.bitset.proofs.Laws.{size-sum}
use Rattle.aggregate.specs.declared.Config.{Config}
use Rattle.aggregate.specs.declared.Cell.{Cell}
use Rattle.aggregate.specs.declared.Aggregate.{Aggregate}
use Rattle.aggregate.specs.Aggregate.{root_of, clipped}
use Rattle.aggregate.specs.Internal.Joining.{cells}
use Rattle.aggregate.proofs.Joining.{joining}
use Rattle.aggregate.proofs.Laws.{cells-joined, cells-clipped}
use Rattle.aggregate.proofs.Words.{FitsWord}
use Rattle.wave.specs.Internal.Graph.{Graph}
use Rattle.station.specs.declared.Station.{Station}
use Rattle.station.specs.Events.{ended}
use Rattle.schedule.specs.declared.Step.{Step}
use Rattle.schedule.specs.Rules.{in_range, allowed}
use Rattle.schedule.specs.Internal.Labels.{label_of}
use Rattle.schedule.proofs.Listing.{Allowed, range_bounds}
use Rattle.topology.specs.Web.{Web}
use Rattle.mail.specs.declared.Message.TheVariants.{Start, Answer}
use Rattle.mail.specs.declared.Mailbox.{Mailbox}
use Rattle.mail.specs.declared.Mailbox.TheVariants.{Empty, Full}
use Rattle.mailbox.specs.Net.{Net, station, well_formed}
use Rattle.mailbox.proofs.Laws.{formed_at, posted_bounded, taken_fits}
use Rattle.mail.specs.Mail.{box_at, brought_at}
use Rattle.mailbox.specs.Delivery.{takes_from, taken, must_answer, delivered, may_report, reported}
use Rattle.mailbox.proofs.Delivered.{Shaped, delivered_config, delivered_shaped, station-after-delivery, box_after-delivery, brought_after-delivery, reported_shaped, station-after-report, boxes_after-report}
use Rattle.mailbox.specs.Rules as figure
use Rattle.mailbox.specs.Rules.{may_step, net_after, rules}
use Rattle.order.proofs.Stations.{view_of, line, Places}
use Rattle.order.proofs.Mailing.{Box, empty, start, answer, full, is_answer, received, MailView, Act, deliver, close, label, May, sum_then, parent_then, waits_then, answers_then, box_then, Does}

-- a mailbox, with what it brings if it is an answer
abbrev pub to_box : Mailbox → (ℕ → Cell) → Box (ℕ → Cell)
to_box Empty v = empty
to_box (Full Start) v = start
to_box (Full Answer) v = answer v

-- what the rules read of a net
abbrev pub view : Config → Net → MailView (ℕ → Cell)
view t n =
    record { stations = view_of t n.stations; box = λ x y. to_box (box_at n.boxes x y) (cells t (brought_at t n.boxes x y)) }

abbrev pub act : Step → Act
act m = cond (eqb m.kind figure.report) close (deliver m.sender m.receiver)

pub label-act : (m : Step) → label (act m) ≡ label_of rules m
label-act m = by_bool (eqb m.kind 2) (λ e. rw e) (λ e. rw e)

-- a box's message is taken where the rules say so
takes_may : (s : Station) (b : Mailbox) (v : ℕ → Cell) → takes_from s b ≡ true
    → (full (to_box b v) ≡ true) × ((s.state ≡ 1) ⊎ ((s.state ≡ 0) × (is_answer (to_box b v) ≡ false)))
takes_may s Empty v e = clash e refl
takes_may s (Full Start) v e =
    (refl, by-sum (or_cases (eqb s.state 0) (eqb s.state 1) e) (λ q. inr (eqb-true s.state 0 q, refl)) (λ q. inl (eqb-true s.state 1 q)))
takes_may s (Full Answer) v e = (refl, inl (eqb-true s.state 1 e))

pub may_takes : (s : Station) (b : Mailbox) (v : ℕ → Cell) → full (to_box b v) ≡ true
    → (s.state ≡ 1) ⊎ ((s.state ≡ 0) × (is_answer (to_box b v) ≡ false)) → takes_from s b ≡ true
may_takes s Empty v e c = clash e refl
may_takes s (Full Start) v e (inl q) = rw q
may_takes s (Full Start) v e (inr q) = rw q.0
may_takes s (Full Answer) v e (inl q) = rw q
may_takes s (Full Answer) v e (inr q) = clash refl q.1

-- what taking a message makes of a station of k
record Taken (t : Config) (s : Station) (from : ℕ) (b : Mailbox) (v : Aggregate) : Type 0 where
  sum_is : cells t (taken t from b v s).held ≡ received (joining t.way) (cells t s.held) (to_box b (cells t v))
  set_is : (taken t from b v s).unstarted ≡ s.unstarted
  parent_is : (taken t from b v s).parent ≡ cond (eqb s.state 0) from s.parent
  waits-is : (taken t from b v s).waits ≡ pred (cond (eqb s.state 0) (sum_to addition t.k (λ h. indicator (member h s.unstarted))) s.waits)
  state-is : (taken t from b v s).state ≡ 1

taken_is : (t : Config) (s : Station) (from : ℕ) (b : Mailbox) (v : Aggregate) → t.k ≤ 64 → s.unstarted < 2 ^ t.k → takes_from s b ≡ true
    → Taken t s from b v
taken_is t s from Empty v l w e = clash e refl
taken_is t s from (Full Start) v l w e =
    by_eq s.state 0
    (λ q.
    let z = eq-eqb s.state 0 q in
    let less : size s.unstarted - 1 ≡ pred (sum_to addition t.k (λ h. indicator (member h s.unstarted))) = omega (arith, size-sum t.k s.unstarted l w) in
    record { sum_is = rw z; set_is = rw z; parent_is = rw z; waits-is = rw z less; state-is = rw z })
    (λ n.
    let z = ne_eqb s.state 0 n in
    let less : s.waits - 1 ≡ pred s.waits = omega arith in
    let one : s.state ≡ 1 = eqb-true s.state 1 (rw z at e) in
    record { sum_is = rw z; set_is = rw z; parent_is = rw z; waits-is = rw z less; state-is = rw z one })
taken_is t s from (Full Answer) v l w e =
    let one = eqb-true s.state 1 e in
    let z : eqb s.state 0 ≡ false = rw one in
    let less : s.waits - 1 ≡ pred s.waits = omega arith in
    record { sum_is = cells-joined t s.held v; set_is = refl; parent_is = rw z; waits-is = rw z less; state-is = one }

module _ (t : Config) (neighbours : List ℕ) (web : Web (root_of t) t.k neighbours) where
  abbrev web_graph : Graph
  web_graph = line t neighbours web

  -- what else is known of a net that is reached
  pub record Good (n : Net) : Type 0 where
    pub config_is : n.config ≡ t
    pub places : Places t neighbours web n.stations
    pub shaped : Shaped n
    pub parents : (x : ℕ) → x < t.k → (station n x).parent < t.k

  -- what is allowed is a delivery, or the report
  record Parts (n : Net) (m : Step) : Type 0 where
    sender-low : m.sender < t.k
    receiver-low : m.receiver < t.k
    at-root : m.kind ≡ figure.report → m.receiver ≡ root_of t
    kind_is : (m.kind ≡ figure.delivery) ⊎ (m.kind ≡ figure.report)
    guarded : may_step m (station n m.receiver) (box_at n.boxes m.sender m.receiver) ≡ true

  parts_of : (n : Net) (m : Step) → Good n → Allowed rules n m → Parts n m
  unfolding allowed in_range
  parts_of n m G a =
      let both = and_both (in_range rules n m) (rules.guard n m) a in
      let bounds = range_bounds rules n m both.0 in
      let root = root_of n.config in
      let range = leb 1 m.kind && leb m.kind 2 && ltb m.sender n.config.k && ltb m.receiver n.config.k in
      record {
        sender-low = rw G.config_is at bounds.sender-low;
        receiver-low = rw G.config_is at bounds.receiver-low;
        at-root = λ e.
            let last = (and_both range (not (eqb m.kind 2) || eqb m.sender root && eqb m.receiver root) both.0).1 in
            let at-ends : (eqb m.sender root && eqb m.receiver root) ≡ true = rw (eq-eqb m.kind 2 e) at last in
            eqb-true m.receiver root (and_both (eqb m.sender root) (eqb m.receiver root) at-ends).1 ∙ ap root_of G.config_is;
        kind_is = by_eq m.kind 1 (λ q. inl q) (λ q. inr (omega (arith, bounds.kind_low, bounds.kind_high)));
        guarded = both.1;
      }

  module _ (n : Net) (m : Step) (G : Good n) (a : Allowed rules n m) where
    by-step : (P : Act → Net → Type 0)
        → ((s r : ℕ) → s < t.k → r < t.k → (s ≡ r → ⊥) → takes_from (station n r) (box_at n.boxes s r) ≡ true → P (deliver s r) (delivered n s r))
        → (may_report (station n (root_of t)) ≡ true → P close (reported n (root_of t)))
        → P (act m) (rules.apply n m)
    unfolding may_step net_after
    by-step P d c =
        let s = m.sender in
        let r = m.receiver in
        let parts = parts_of n m G a in
        by-sum parts.kind_is
        (λ q.
        let z₁ = eq-eqb m.kind 1 q in
        let z₂ : eqb m.kind 2 ≡ false = rw q in
        let g = and_both (not (eqb s r)) (takes_from (station n r) (box_at n.boxes s r)) (rw z₁ at parts.guarded) in
        rw (z₂, z₁) (d s r parts.sender-low parts.receiver-low (eqb-false s r (not-true (eqb s r) g.0)) g.1))
        (λ q.
        let z₁ : eqb m.kind 1 ≡ false = rw q in
        let z₂ = eq-eqb m.kind 2 q in
        let e = parts.at-root q in
        rw (z₂, z₁, e) (c (rw (z₁, z₂, e) at parts.guarded)))

    pub may_of : May web_graph (view t n) (act m)
    may_of =
        by-step (λ b n'. May web_graph (view t n) b)
        (λ s r hs hr ne e.
        let w = takes_may (station n r) (box_at n.boxes s r) (cells t (brought_at t n.boxes s r)) e in
        record { below = (hs, hr); apart = ne; filled = w.0; receiver = w.1 })
        (λ e.
        let w = and_both (eqb (station n (root_of t)).state 1) (eqb (station n (root_of t)).waits 0) e in
        record { active = eqb-true (station n (root_of t)).state 1 w.0; waited = eqb-true (station n (root_of t)).waits 0 w.1 })

  -- Effects of a delivery.
  module _ (n : Net) (G : Good n) (s r : ℕ) (hs : s < t.k) (hr : r < t.k) (ne : s ≡ r → ⊥) (e : takes_from (station n r) (box_at n.boxes s r) ≡ true) where
    s-low : s < 64
    s-low = omega (arith, web.few_stations)

    r-low : r < 64
    r-low = omega (arith, web.few_stations)

    -- the receiver after it took the message, and after it settled
    abbrev after : Config → Station
    after c = taken c s (box_at n.boxes s r) (brought_at c n.boxes s r) (station n r)

    abbrev R : Station
    R = after t

    abbrev R' : Station
    R' = cond (must_answer t r R) (ended R) R

    T : Taken t (station n r) s (box_at n.boxes s r) (brought_at t n.boxes s r)
    T = taken_is t (station n r) s (box_at n.boxes s r) (brought_at t n.boxes s r) web.few_stations (G.places.narrow r hr) e

    must_is : must_answer t r R ≡ answers_then web_graph (view t n) r
    must_is = ap (λ (w : ℕ). not (eqb r (root_of t)) && eqb w 0) T.waits-is

    parent_low : R.parent < t.k
    parent_low = rw T.parent_is (by_bool (eqb (station n r).state 0) (λ z. rw z hs) (λ z. rw z (G.parents r hr)))

    station-is : (x : ℕ) → station (delivered n s r) x ≡ cond (eqb x r) R' (station n x)
    station-is x =
        station-after-delivery n G.shaped s r s-low r-low x
        ∙ ap (λ (c : Config). cond (eqb x r) (cond (must_answer c r (after c)) (ended (after c)) (after c)) (station n x)) G.config_is

    -- a field of every station after the delivery
    field_is : {A : Type 0} (f : Station → A) (a : A) → f R' ≡ a → (x : ℕ) → f (station (delivered n s r) x) ≡ cond (eqb x r) a (f (station n x))
    field_is f a h x = ap f (station-is x) ∙ by_bool (eqb x r) (λ z. rw z h) (λ z. rw z)

    -- ending changes the state alone
    kept : {A : Type 0} (f : Station → A) → f (ended R) ≡ f R → f R' ≡ f R
    kept f h = by_bool (must_answer t r R) (λ z. rw z h) (λ z. rw z)

    state_then : R'.state ≡ cond (answers_then web_graph (view t n) r) 2 1
    state_then =
        let one : R'.state ≡ cond (must_answer t r R) 2 1 = by_bool (must_answer t r R) (λ z. rw z) (λ z. rw z T.state-is) in
        one ∙ ap (λ (c : Bool). cond c 2 1) must_is

    set_kept : (x : ℕ) → (station (delivered n s r) x).unstarted ≡ (station n x).unstarted
    set_kept x =
        field_is (λ st. st.unstarted) (station n r).unstarted (kept (λ st. st.unstarted) refl ∙ T.set_is) x
        ∙ by_eq x r (λ q. (rw (eq-eqb x r q)) ∙ ap (λ (z : ℕ). (station n z).unstarted) (sym q)) (λ q. rw (ne_eqb x r q))

    -- the box from x to y, by what the receiver then does, and what it brings
    abbrev later : ℕ → ℕ → Bool → ℕ → Mailbox
    later x y answers parent =
        cond (eqb x s && eqb y r) Empty
        (cond (eqb x r && (answers && eqb y parent)) (Full Answer)
        (cond (eqb x r && (eqb (station n r).state 0 && (member y (station n r).unstarted && not (eqb y s)))) (Full Start) (box_at n.boxes x y)))

    abbrev brings : Config → ℕ → ℕ → Bool → ℕ → Aggregate → Aggregate
    brings c x y answers parent held = cond (eqb x r && (answers && eqb y parent)) (clipped c held) (brought_at c n.boxes x y)

    -- in a net in form, what the receiver then holds fits the words of a mailbox
    fits : well_formed n ≡ true → FitsWord n.config (after n.config).held
    fits f =
        let low : (s < n.config.k) × (r < n.config.k) = rw G.config_is (hs, hr) in
        taken_fits n.config s (box_at n.boxes s r) (brought_at n.config n.boxes s r) (station n r) (formed_at n f r low.1).held-bounded
        (posted_bounded n f s r low.0 low.1 (ne_eqb s r ne))

    low_parent : (after n.config).parent < 64
    low_parent = subst (λ (c : Config). (after c).parent < 64) (sym G.config_is) (omega (arith, parent_low, web.few_stations))

    box_is : (x y : ℕ) → x < 64 → y < 64 → box_at (delivered n s r).boxes x y ≡ later x y (must_answer t r R) R.parent
    box_is x y hx hy =
        box_after-delivery n G.shaped s r s-low r-low low_parent x y hx hy ne
        ∙ ap (λ (c : Config). later x y (must_answer c r (after c)) (after c).parent) G.config_is

    brought_is : well_formed n ≡ true → (x y : ℕ) → x < 64 → y < 64
        → brought_at t (delivered n s r).boxes x y ≡ brings t x y (must_answer t r R) R.parent R.held
    brought_is f x y hx hy =
        ap (λ (c : Config). brought_at c (delivered n s r).boxes x y) (sym G.config_is)
        ∙ brought_after-delivery n G.shaped s r s-low r-low low_parent (fits f) x y hx hy
        ∙ ap (λ (c : Config). brings c x y (must_answer c r (after c)) (after c).parent (after c).held) G.config_is

    box_then_lem : well_formed n ≡ true → (x y : ℕ) → x < t.k → y < t.k
        → to_box (box_at (delivered n s r).boxes x y) (cells t (brought_at t (delivered n s r).boxes x y)) ≡ box_then web_graph (joining t.way) (view t n) s r x y
    box_then_lem f x y h l =
        let answers = answers_then web_graph (view t n) r in
        let hx : x < 64 = omega (arith, web.few_stations) in
        let hy : y < 64 = omega (arith, web.few_stations) in
        ap₂ (λ (b : Mailbox) (v : Aggregate). to_box b (cells t v)) (box_is x y hx hy) (brought_is f x y hx hy)
        ∙ ap₂ (λ (a : Bool) (p : ℕ). to_box (later x y a p) (cells t (brings t x y a p R.held))) must_is T.parent_is
        ∙ by_bool (eqb x s && eqb y r)
        (λ a. rw a)
        (λ a. by_bool (eqb x r && (answers && eqb y (parent_then (view t n) s r)))
        (λ b. rw (a, b) (ap answer (cells-clipped t R.held ∙ T.sum_is)))
        (λ b. by_bool (eqb x r && (eqb (station n r).state 0 && (member y (station n r).unstarted && not (eqb y s)))) (λ c. rw (a, b, c)) (λ c. rw (a, b, c))))

    delivers : well_formed n ≡ true → Does web_graph (joining t.way) (view t n) (deliver s r) (view t (delivered n s r))
    delivers f =
        record {
          stations =
              record {
                sums = λ x l. field_is (λ st. cells t st.held) (sum_then (joining t.way) (view t n) s r) (kept (λ st. cells t st.held) refl ∙ T.sum_is) x;
                sets = λ x y l. ap (member y) (set_kept x);
                parents = λ x l. field_is (λ st. st.parent) (parent_then (view t n) s r) (kept (λ st. st.parent) refl ∙ T.parent_is) x;
                waitings = λ x l. field_is (λ st. st.waits) (waits_then web_graph (view t n) r) (kept (λ st. st.waits) refl ∙ T.waits-is) x;
                states = λ x l. field_is (λ st. st.state) (cond (answers_then web_graph (view t n) r) 2 1) state_then x;
              };
          boxes = λ x y l b. box_then_lem f x y l b;
        }

    delivered_good : Good (delivered n s r)
    delivered_good =
        record {
          config_is = delivered_config n G.shaped s r s-low r-low ∙ G.config_is;
          places =
              record {
                long = (delivered_shaped n G.shaped s r s-low r-low).stations;
                narrow = λ x l. rw (set_kept x) (G.places.narrow x l);
              };
          shaped = delivered_shaped n G.shaped s r s-low r-low;
          parents = λ x l.
              rw (field_is (λ st. st.parent) R.parent (kept (λ st. st.parent) refl) x)
              (by_bool (eqb x r) (λ z. rw z parent_low) (λ z. rw z (G.parents x l)));
        }

  -- Effects of the report.
  module _ (n : Net) (G : Good n) where
    abbrev root : ℕ
    root = root_of t

    root-low : root < 64
    root-low = omega (arith, web_graph.root_in, web.few_stations)

    root-field : {A : Type 0} (f : Station → A) (x : ℕ) → f (station (reported n root) x) ≡ cond (eqb x root) (f (ended (station n root))) (f (station n x))
    root-field f x = ap f (station-after-report n G.shaped root root-low x) ∙ by_bool (eqb x root) (λ z. rw z) (λ z. rw z)

    -- all but the state stays
    field_kept : {A : Type 0} (f : Station → A) → f (ended (station n root)) ≡ f (station n root) → (x : ℕ) → f (station (reported n root) x) ≡ f (station n x)
    field_kept f h x =
        root-field f x
        ∙ by_eq x root
        (λ q. (rw (eq-eqb x root q)) ∙ h ∙ ap (λ (z : ℕ). f (station n z)) (sym q))
        (λ q. rw (ne_eqb x root q))

    reports : Does web_graph (joining t.way) (view t n) close (view t (reported n root))
    reports =
        record {
          stations =
              record {
                sums = λ x l. field_kept (λ st. cells t st.held) refl x;
                sets = λ x y l. ap (member y) (field_kept (λ st. st.unstarted) refl x);
                parents = λ x l. field_kept (λ st. st.parent) refl x;
                waitings = λ x l. field_kept (λ st. st.waits) refl x;
                states = λ x l. root-field (λ st. st.state) x;
              };
          boxes = λ x y l b. ap (λ (words : List ℕ). to_box (box_at words x y) (cells t (brought_at t words x y))) (boxes_after-report n G.shaped root root-low);
        }

    reported_good : Good (reported n root)
    unfolding reported
    reported_good =
        record {
          config_is = G.config_is;
          places =
              record {
                long = (reported_shaped n G.shaped root root-low).stations;
                narrow = λ x l. rw (field_kept (λ st. st.unstarted) refl x) (G.places.narrow x l);
              };
          shaped = reported_shaped n G.shaped root root-low;
          parents = λ x l. rw (field_kept (λ st. st.parent) refl x) (G.parents x l);
        }

  module _ (n : Net) (m : Step) (G : Good n) (a : Allowed rules n m) where
    pub does_of : well_formed n ≡ true → Does web_graph (joining t.way) (view t n) (act m) (view t (rules.apply n m))
    does_of f =
        by-step n m G a (λ b n'. Does web_graph (joining t.way) (view t n) b (view t n'))
        (λ s r hs hr ne e. delivers n G s r hs hr ne e f)
        (λ e. reports n G)

    pub good_of : Good (rules.apply n m)
    good_of =
        by-step n m G a (λ b n'. Good n')
        (λ s r hs hr ne e. delivered_good n G s r hs hr ne e)
        (λ e. reported_good n G)

  -- whatever the rules allow is allowed
  pub can_of : (n : Net) → Good n → (b : Act) → May web_graph (view t n) b → (m : Step) × Allowed rules n m
  unfolding allowed in_range may_step
  can_of n G (deliver i j) m = (
    record { kind = 1; sender = i; receiver = j },
    rw (
      G.config_is,
      lt-ltb i t.k m.below.0,
      lt-ltb j t.k m.below.1,
      ne_eqb i j m.apart,
      may_takes (station n j) (box_at n.boxes i j) (cells t (brought_at t n.boxes i j)) m.filled m.receiver,
    ),
  )
  can_of n G close m = (
    record { kind = 2; sender = root_of t; receiver = root_of t },
    rw (G.config_is, lt-ltb (root_of t) t.k web_graph.root_in, eqb_self (root_of t), m.active, m.waited),
  )
