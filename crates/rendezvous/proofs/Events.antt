-- Each step is the events of its stations. In a well-formed net the processes are well-formed and what they are handed is in range, so an event
-- is accepted just where its guard holds; Guards says that the guards make Figure 2's conditions. Assumes nothing.
use mathlib.Core.Path.{◌≡◌, refl, sym, ◌∙◌, ap, subst}
use mathlib.Core.Bool.{Bool, true, false, not, ◌&&◌, ◌||◌, and-true, and-false, and_comm}
use Prim.Native.Nat.{ℕ, ◌<◌}
use native.Mathlib.Omega.{arith}
use lib.ListN.{length}
use lib.Seq.{get_or-set_same}
use lib.Dec.{eqb}
use borrow.Author.Tests.{lt-ltb, eq-eqb, ne_eqb, eqb-true, eqb-false, not-true}
use Rattle.finite.proofs.Cases.{eqb_self, clash, by_bool, by_eq, and_both, or_left, or_right}
use Rattle.bitset.specs.Set.{member}
use Rattle.bitset.proofs.Laws.{within-lt, within_width}
use Rattle.aggregate.specs.Aggregate.{root_of, bounded, clipped}
use Rattle.aggregate.proofs.Laws.{valid_parts, nothing-bounded, valid_of, root_below, joined_alike, joined-clipped, bounded_alike, clipped-bounded}
use Rattle.station.specs.declared.Station.{Station}
use Rattle.station.specs.declared.Process.{Process}
use Rattle.station.specs.Events.{asleep, active, may_send_start, start_sent, answer_taken, started_by, may_report, may_answer, ready, ended}
use Rattle.station.specs.Form.{process_config, well_formed_process}
use Rattle.station.specs.Process.{EventOutcome, decide, take_start, send_start, take_answer, send_answer}
use Rattle.station.specs.Process as process
use Rattle.station.proofs.Formed.{facts, well_formed_lem}
use Rattle.stations.specs.Stations.{no_station}
use Rattle.rendezvous.specs.Net.{Net, station, told, well_formed, with_two}
use Rattle.rendezvous.specs.Figure.{wake, pass, answer, report, assigned}
use Rattle.rendezvous.specs.Together.{process_at, is_done, may, Together, Alone, StepsAreEvents}
use Rattle.rendezvous.proofs.Guards.{wake-guard, pass-guard, answer-guard, report-guard}
use Rattle.rendezvous.proofs.Laws.{form_valid, k_most, formed_at, held-bounded, root_untold}
use Rattle.rendezvous.proofs.Settled.{is_told}
use Rattle.rendezvous.proofs.Places.{two-sender, two-receiver}

-- an event is accepted just where its guard holds, and then leaves the station s
record Event (o : EventOutcome) (guard : Bool) (s : Station) : Type 0 where
  accepted : is_done o ≡ guard
  leaves : guard ≡ true → o.process.station ≡ s

decided : (form range guard : Bool) (p : Process) (o : EventOutcome) → form ≡ true → range ≡ true → o.number ≡ 0
    → Event (decide form range guard p o) guard o.process.station
unfolding decide
decided form range true p o f r z = rw (f, r) (record { accepted = eq-eqb o.number 0 z; leaves = λ g. refl })
decided form range false p o f r z = rw (f, r) (record { accepted = refl; leaves = λ g. cc })

-- one that its guard bars is refused, whatever its form
barred : (form range : Bool) (p : Process) (o : EventOutcome) → Event (decide form range false p o) false o.process.station
unfolding decide
barred true true p o = record { accepted = refl; leaves = λ g. cc }
barred true false p o = record { accepted = refl; leaves = λ g. cc }
barred false range p o = record { accepted = refl; leaves = λ g. cc }

-- so a told station makes no event, as its guards say
decided_or : (told form range guard : Bool) (p : Process) (o : EventOutcome) → (told ≡ false → form ≡ true) → (told ≡ true → guard ≡ false) → range ≡ true
    → o.number ≡ 0 → Event (decide form range guard p o) guard o.process.station
decided_or true form range guard p o f b r z =
    subst (λ (g : Bool). Event (decide form range g p o) g o.process.station) (sym (b refl)) (barred form range p o)
decided_or false form range guard p o f b r z = decided form range guard p o (f refl) r z

-- the tests of a start and of an answer, as Guards and as Together order them
start_together : (state may apart takes : Bool) → (state ≡ true → takes ≡ true) → (state && (may && apart)) ≡ (apart && state && may && takes)
start_together true m n takes h = rw (h refl) (and_comm m n ∙ simp and-true)
start_together false m n takes h = simp and-false

answer_together : (state may apart parent : Bool) → (state && (may && apart && parent)) ≡ (apart && parent && may && state)
answer_together true true n p = sym (simp and-true)
answer_together true false n p = sym (simp and-false)
answer_together false m n p = sym (simp and-false)

eqb_comm : (a b : ℕ) → eqb a b ≡ eqb b a
eqb_comm a b = by_eq a b (λ e. eq-eqb a b e ∙ sym (eq-eqb b a (sym e))) (λ n. ne_eqb a b n ∙ sym (ne_eqb b a (λ e. n (sym e))))

-- a told station is neither asleep nor active
told-active : (n : ℕ) → eqb n told ≡ true → eqb n active ≡ false
told-active n q = ne_eqb n active (λ e. omega (arith, eqb-true n told q, e))

idle : (n : ℕ) → eqb n told ≡ true → (set : Bool) → (eqb n active && set) ≡ false
idle n q set = rw (told-active n q)

deaf : (n : ℕ) → eqb n told ≡ true → (eqb n asleep || eqb n active) ≡ false
deaf n q = rw (ne_eqb n asleep (λ e. omega (arith, eqb-true n told q, e)), told-active n q)

module _ (net : Net) (f : well_formed net ≡ true) (full : length net.stations ≡ 64) where
  -- a station of the net is a well-formed process of its own
  process_formed : (i : ℕ) → i < net.config.k → is_told net i ≡ false → well_formed_process (process_at net i) ≡ true
  unfolding well_formed_process
  process_formed i l u =
      let t = net.config in
      let most = k_most net f in
      let w = facts t i (station net i) (formed_at net f i l u) in
      let inside : i < 64 = omega arith in
      let v = valid_parts t (form_valid net f) in
      let root : root_of t < 64 = omega (arith, v.2) in
      rw (valid_of (process_config (process_at net i)) refl v.1 root v.3, lt-ltb i 64 inside)
      (well_formed_lem (process_config (process_at net i)) i (station net i)
      (record {
        state-le = w.state-le;
        parent_below = omega (arith, w.parent_below);
        set-within = within_width t.k 64 (station net i).unstarted (within-lt t.k (station net i).unstarted w.set-within) most;
        waits-le = w.waits-le;
        held-bounded = bounded_alike (process_config (process_at net i)) t refl refl (station net i).held ∙ w.held-bounded;
        not_in_set = w.not_in_set;
        own_parent = w.own_parent;
      }))

  module _ (j i : ℕ) (lj : j < net.config.k) (li : i < net.config.k) where
    j_inside : j < 64
    j_inside = omega (arith, k_most net f)

    i_inside : i < 64
    i_inside = omega (arith, k_most net f)

    sends-start : Event (send_start i (process_at net j)) (may_send_start i (station net j)) (start_sent i (station net j))
    unfolding send_start may_send_start
    sends-start = decided_or (is_told net j) _ _ _ _ _ (process_formed j lj) (λ q. idle (station net j).state q (member i (station net j).unstarted)) (lt-ltb i 64 i_inside) refl

    takes_start_lem : Event (take_start j (process_at net i)) (eqb (station net i).state asleep || eqb (station net i).state active) (started_by j (station net i))
    unfolding take_start
    takes_start_lem = decided_or (is_told net i) _ _ _ _ _ (process_formed i li) (λ q. deaf (station net i).state q) (lt-ltb j 64 j_inside) refl

    -- a step whose two events are accepted by the guards a and b, and leave s and r
    together : (kind : ℕ) (fit a b : Bool) (sends takes : EventOutcome) (s r : Station) → Event sends a s → Event takes b r
        → may net kind j i ≡ (not (eqb i j) && fit && a && b)
        → (may net kind j i ≡ true → assigned net kind j i ≡ with_two net j s i r)
        → Together net kind j i fit sends takes
    together kind fit a b sends takes s r es et guard effect =
        record {
          allowed = rw (es.accepted, et.accepted) guard;
          sender = λ m.
              let parts = and_both (not (eqb i j) && fit && a) b (sym guard ∙ m) in
              let firsts = and_both (not (eqb i j) && fit) a parts.0 in
              let apart : j ≡ i → ⊥ = λ e. eqb-false i j (not-true (eqb i j) (and_both (not (eqb i j)) fit firsts.0).0) (sym e) in
              ap (λ (n : Net). station n j) (effect m) ∙ two-sender net j i s r (rw full j_inside) apart ∙ sym (es.leaves firsts.1);
          receiver = λ m.
              let parts = and_both (not (eqb i j) && fit && a) b (sym guard ∙ m) in
              ap (λ (n : Net). station n i) (effect m) ∙ two-receiver net j i s r (rw full i_inside) ∙ sym (et.leaves parts.1);
        }

    -- wake and pass: a start to a receiver in the state of the kind
    started : (kind : ℕ) (state : Bool) → may net kind j i ≡ (state && (may_send_start i (station net j) && not (eqb i j)))
        → (state ≡ true → (eqb (station net i).state asleep || eqb (station net i).state active) ≡ true)
        → (state ≡ true → assigned net kind j i ≡ with_two net j (start_sent i (station net j)) i (started_by j (station net i)))
        → Together net kind j i state (send_start i (process_at net j)) (take_start j (process_at net i))
    started kind state guard takes effect =
        let start = may_send_start i (station net j) in
        together kind state start (eqb (station net i).state asleep || eqb (station net i).state active) _ _ _ _ sends-start takes_start_lem
        (guard ∙ start_together state start (not (eqb i j)) _ takes)
        (λ m. effect (and_both state (start && not (eqb i j)) (sym guard ∙ m)).0)

    wakes : Together net wake j i (eqb (station net i).state asleep) (send_start i (process_at net j)) (take_start j (process_at net i))
    unfolding assigned started_by
    wakes =
        started wake (eqb (station net i).state asleep) (wake-guard net.config j i (station net j) (station net i))
        (λ e. or_left (eqb (station net i).state asleep) (eqb (station net i).state active) e)
        (λ (e : eqb (station net i).state asleep ≡ true). rw e)

    passes : Together net pass j i (eqb (station net i).state active) (send_start i (process_at net j)) (take_start j (process_at net i))
    unfolding assigned started_by
    passes =
        started pass (eqb (station net i).state active) (pass-guard net.config j i (station net j) (station net i))
        (λ e. or_right (eqb (station net i).state asleep) (eqb (station net i).state active) e)
        (λ e. let up : eqb (station net i).state asleep ≡ false = rw (eqb-true (station net i).state active e) in rw up)

    -- it answers by itself just where it may in the net
    same-guard : may_answer (process_config (process_at net j)) j (station net j) ≡ may_answer net.config j (station net j)
    unfolding may_answer
    same-guard = refl

    told-answer : is_told net j ≡ true → may_answer net.config j (station net j) ≡ false
    unfolding may_answer ready
    told-answer q = rw (told-active (station net j).state q) (and-false (not (eqb j (root_of net.config))))

    answer_untold : may_answer net.config j (station net j) ≡ true → is_told net j ≡ false
    answer_untold g = by_bool (is_told net j) (λ q. clash g (told-answer q)) (λ q. q)

    -- an answer gives the sum of its sender
    sends-answer : Event (send_answer (process_at net j)) (may_answer net.config j (station net j)) (ended (station net j))
    unfolding send_answer
    sends-answer = rw (← same-guard) (decided_or (is_told net j) _ _ _ _ _ (process_formed j lj) (λ q. same-guard ∙ told-answer q) refl refl)

    given-held : may_answer net.config j (station net j) ≡ true
        → (send_answer (process_at net j)).given ≡ clipped (process_config (process_at net j)) (station net j).held
    unfolding send_answer decide
    given-held g = rw (process_formed j lj (answer_untold g), same-guard ∙ g)

    given-bounded : bounded (process_config (process_at net i)) (send_answer (process_at net j)).given ≡ true
    unfolding send_answer decide
    given-bounded =
        let t = process_config (process_at net i) in
        let held = held-bounded net f j lj in
        by_bool (may_answer net.config j (station net j))
        (λ g. rw (process_formed j lj (answer_untold g), same-guard ∙ g) (clipped-bounded t (station net j).held ∙ bounded_alike t net.config refl refl (station net j).held ∙ held))
        (λ g. by_bool (well_formed_process (process_at net j)) (λ w. rw (w, same-guard ∙ g) (nothing-bounded t)) (λ w. rw w (nothing-bounded t)))

    takes_answer_lem : let v = (send_answer (process_at net j)).given in
        Event (take_answer v (process_at net i)) (eqb (station net i).state active) (answer_taken (process_config (process_at net i)) v (station net i))
    unfolding take_answer
    takes_answer_lem = decided_or (is_told net i) _ _ _ _ _ (process_formed i li) (λ q. told-active (station net i).state q) given-bounded refl

    answers : let sends = send_answer (process_at net j) in
        Together net answer j i (eqb (station net j).parent i) sends (take_answer sends.given (process_at net i))
    unfolding assigned
    answers =
        let s = station net j in
        let r = station net i in
        let state = eqb r.state active in
        let send = may_answer net.config j s in
        let fit = eqb s.parent i in
        let guard = answer-guard net.config j i s r ∙ answer_together state send (not (eqb j i)) fit in
        together answer fit send state _ _ _ _ sends-answer takes_answer_lem
        (rw (eqb_comm i j) guard)
        (λ m.
        let sent = (and_both (not (eqb j i) && fit) send (and_both (not (eqb j i) && fit && send) state (sym guard ∙ m)).0).1 in
        let t = process_config (process_at net i) in
        rw (given-held sent, joined-clipped t r.held s.held, joined_alike net.config t refl refl r.held s.held))

  root_inside : root_of net.config < net.config.k
  root_inside = root_below net.config (form_valid net f)

  reports-event : let root = root_of net.config in Event (process.report (process_at net root)) (ready (station net root)) (ended (station net root))
  unfolding process.report may_report
  reports-event =
      let root = root_of net.config in
      let own : eqb root (root_of (process_config (process_at net root))) ≡ true = eqb_self root in
      rw own (decided _ _ _ _ _ (process_formed root root_inside (root_untold net f)) refl refl)

  reports : Alone net report (root_of net.config) (process.report (process_at net (root_of net.config)))
  unfolding assigned
  reports =
      let root = root_of net.config in
      let inside : root < 64 = omega (arith, k_most net f, root_inside) in
      let guard = report-guard net.config root root (station net root) (station net root) in
      record {
        allowed = guard ∙ sym reports-event.accepted;
        reporter = λ m.
            get_or-set_same net.stations root (ended (station net root)) no_station (rw full inside)
            ∙ sym (reports-event.leaves (sym guard ∙ m));
      }

-- "Each step is the sender's event and the receiver's together" (document 01, Stations that meet), in a well-formed net of 64 places
pub steps_are_events : StepsAreEvents
steps_are_events net f full =
    record { wakes = wakes net f full; passes = passes net f full; answers = answers net f full; reports = reports net f full }
