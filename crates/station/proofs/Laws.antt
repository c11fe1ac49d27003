-- What the events of a process do, over the four outcomes of `decide`: what they leave in form, what they do not touch, and that a
-- refusal leaves the process. Assumes nothing.
use mathlib.Core.Path.{◌≡◌, refl, ◌∙◌}
use mathlib.Core.Bool.{true, false, ◌&&◌}
use Prim.Native.Nat.{ℕ, ◌<◌}
use native.Mathlib.Omega.{arith}
use lib.Dec.{eqb, ltb}
use borrow.Author.Tests.{ltb-true, lt-ltb, eq-eqb, ne_eqb}
use Rattle.finite.proofs.Cases.{by_bool, and_both, eqb_self}
use Rattle.aggregate.specs.declared.Aggregate.{Aggregate}
use Rattle.aggregate.specs.Aggregate.{root_of, valid, bounded, joined}
use Rattle.station.specs.declared.Station.{Station}
use Rattle.station.specs.declared.Process.{Process}
use Rattle.station.specs.Events.{asleep, active, woken, started_by}
use Rattle.station.specs.Form.{well_formed, process_config, well_formed_process}
use Rattle.station.specs.Process.{gives, after, decide, take_start, send_start, take_answer, send_answer, report}
use Rattle.station.proofs.Formed.{woken_formed, answer_taken_formed, start_sent_formed, started_formed, ended_formed}
use Rattle.station.proofs.Outcomes.{decide_holds, decide_leaves}

module _ (p : Process) where
  -- the three parts of the form
  parts : well_formed_process p ≡ true → (valid (process_config p) ≡ true) × (ltb p.own 64 ≡ true) × (well_formed (process_config p) p.own p.station ≡ true)
  unfolding well_formed_process
  parts h =
      let last = and_both (valid (process_config p) && ltb p.own 64) (well_formed (process_config p) p.own p.station) h in
      let first = and_both (valid (process_config p)) (ltb p.own 64) last.0 in
      (first.0, first.1, last.1)

  pub own_below : well_formed_process p ≡ true → p.own < 64
  own_below h = ltb-true p.own 64 (parts h).1

  pub station_formed : well_formed_process p ≡ true → well_formed (process_config p) p.own p.station ≡ true
  station_formed h = (parts h).2

  -- the process after an event is in form just where its station is
  after_formed : (s : Station) → well_formed_process p ≡ true → well_formed_process (after p s) ≡ well_formed (process_config p) p.own s
  unfolding well_formed_process
  after_formed s h = rw ((parts h).0, (parts h).1)

  -- Form. Each event keeps it, but two that leave it: a start that a sleeping station takes from itself, unless it is the root, and
  -- an answer that makes the sum too large.
  pub take_start_formed : (j : ℕ) → well_formed_process p ≡ true → (j ≡ p.own → p.own ≡ root_of (process_config p))
      → well_formed_process (take_start j p).process ≡ true
  unfolding take_start
  take_start_formed j h other =
      decide_holds (λ q. well_formed_process q ≡ true) _ _ _ p _ h
      (λ f r a. after_formed (started_by j p.station) h
      ∙ started_formed (process_config p) p.own p.station (station_formed h) j (omega arith) (ltb-true j 64 r) other)

  pub start-from_itself : well_formed_process p ≡ true → p.station.state ≡ asleep → (p.own ≡ root_of (process_config p) → ⊥)
      → well_formed_process (take_start p.own p).process ≡ false
  unfolding take_start decide started_by
  start-from_itself h e n =
      let low = own_below h in
      rw (h, lt-ltb p.own 64 low, eq-eqb p.station.state asleep e)
      (after_formed (woken p.own p.station) h
      ∙ woken_formed (process_config p) p.own p.station (station_formed h) p.own (omega arith) low
      ∙ rw (ne_eqb p.own (root_of (process_config p)) n, eqb_self p.own))

  pub take_answer_formed : (v : Aggregate) → well_formed_process p ≡ true
      → bounded (process_config p) (joined (process_config p) p.station.held v) ≡ true
      → well_formed_process (take_answer v p).process ≡ true
  unfolding take_answer
  take_answer_formed v h low =
      decide_holds (λ q. well_formed_process q ≡ true) _ _ _ p _ h
      (λ f r a. after_formed _ h ∙ answer_taken_formed (process_config p) p.own p.station (station_formed h) v ∙ low)

  pub answer_too_large : (v : Aggregate) → well_formed_process p ≡ true → p.station.state ≡ active → bounded (process_config p) v ≡ true
      → bounded (process_config p) (joined (process_config p) p.station.held v) ≡ false → well_formed_process (take_answer v p).process ≡ false
  unfolding take_answer decide
  answer_too_large v h e r high =
      rw (h, r, eq-eqb p.station.state active e)
      (after_formed _ h ∙ answer_taken_formed (process_config p) p.own p.station (station_formed h) v ∙ high)

  pub send_start_formed : (j : ℕ) → well_formed_process p ≡ true → well_formed_process (send_start j p).process ≡ true
  unfolding send_start
  send_start_formed j h =
      decide_holds (λ q. well_formed_process q ≡ true) _ _ _ p _ h
      (λ f r a. after_formed _ h ∙ start_sent_formed (process_config p) p.own p.station (station_formed h) j)

  gives_formed : well_formed_process p ≡ true → well_formed_process (gives p).process ≡ true
  gives_formed h = after_formed _ h ∙ ended_formed (process_config p) p.own p.station (station_formed h)

  pub send_answer_formed : well_formed_process p ≡ true → well_formed_process (send_answer p).process ≡ true
  unfolding send_answer
  send_answer_formed h = decide_holds (λ q. well_formed_process q ≡ true) _ _ _ p _ h (λ f r a. gives_formed h)

  pub report_formed : well_formed_process p ≡ true → well_formed_process (report p).process ≡ true
  unfolding report
  report_formed h = decide_holds (λ q. well_formed_process q ≡ true) _ _ _ p _ h (λ f r a. gives_formed h)

-- Parts of a process, for what an event does not touch.
abbrev pub own_and-sum : Process → ℕ × ℕ × ℕ × Aggregate
own_and-sum p = (p.own, p.classes, p.desk, p.station.held)

abbrev pub but_waits : Process → ℕ × ℕ × ℕ × Aggregate × ℕ × ℕ × ℕ
but_waits p = (p.own, p.classes, p.desk, p.station.held, p.station.unstarted, p.station.parent, p.station.state)

abbrev pub but_set : Process → ℕ × ℕ × ℕ × Aggregate × ℕ × ℕ × ℕ
but_set p = (p.own, p.classes, p.desk, p.station.held, p.station.parent, p.station.waits, p.station.state)

abbrev pub but_sum-and-waits : Process → ℕ × ℕ × ℕ × ℕ × ℕ × ℕ
but_sum-and-waits p = (p.own, p.classes, p.desk, p.station.unstarted, p.station.parent, p.station.state)

abbrev pub but_state : Process → ℕ × ℕ × ℕ × Aggregate × ℕ × ℕ × ℕ
but_state p = (p.own, p.classes, p.desk, p.station.held, p.station.unstarted, p.station.parent, p.station.waits)

-- An event changes only what its line names, accepted or refused; a refusal changes nothing.
module _ (p : Process) where
  pub take_start_keeps : (j : ℕ) → own_and-sum (take_start j p).process ≡ own_and-sum p
  unfolding take_start started_by
  take_start_keeps j =
      decide_holds (λ q. own_and-sum q ≡ own_and-sum p) _ _ _ p _ refl
      (λ f r a. by_bool (eqb p.station.state asleep) (λ e. rw e) (λ e. rw e))

  -- an active station keeps its parent
  pub take_start-active_keeps : (j : ℕ) → p.station.state ≡ active → but_waits (take_start j p).process ≡ but_waits p
  unfolding take_start started_by
  take_start-active_keeps j e =
      decide_holds (λ q. but_waits q ≡ but_waits p) _ _ _ p _ refl (λ f r a. rw (ne_eqb p.station.state asleep (λ z. omega arith)))

  pub send_start_keeps : (j : ℕ) → but_set (send_start j p).process ≡ but_set p
  unfolding send_start
  send_start_keeps j = decide_holds (λ q. but_set q ≡ but_set p) _ _ _ p _ refl (λ f r a. refl)

  pub take_answer_keeps : (v : Aggregate) → but_sum-and-waits (take_answer v p).process ≡ but_sum-and-waits p
  unfolding take_answer
  take_answer_keeps v = decide_holds (λ q. but_sum-and-waits q ≡ but_sum-and-waits p) _ _ _ p _ refl (λ f r a. refl)

  pub send_answer_keeps : but_state (send_answer p).process ≡ but_state p
  unfolding send_answer
  send_answer_keeps = decide_holds (λ q. but_state q ≡ but_state p) _ _ _ p _ refl (λ f r a. refl)

  pub report_keeps : but_state (report p).process ≡ but_state p
  unfolding report
  report_keeps = decide_holds (λ q. but_state q ≡ but_state p) _ _ _ p _ refl (λ f r a. refl)

  pub take_start_refused : (j : ℕ) → ((take_start j p).number ≡ 0 → ⊥) → (take_start j p).process ≡ p
  unfolding take_start
  take_start_refused j n = decide_leaves _ _ _ p _ refl n

  pub send_start_refused : (j : ℕ) → ((send_start j p).number ≡ 0 → ⊥) → (send_start j p).process ≡ p
  unfolding send_start
  send_start_refused j n = decide_leaves _ _ _ p _ refl n

  pub take_answer_refused : (v : Aggregate) → ((take_answer v p).number ≡ 0 → ⊥) → (take_answer v p).process ≡ p
  unfolding take_answer
  take_answer_refused v n = decide_leaves _ _ _ p _ refl n

  pub send_answer_refused : ((send_answer p).number ≡ 0 → ⊥) → (send_answer p).process ≡ p
  unfolding send_answer
  send_answer_refused n = decide_leaves _ _ _ p _ refl n

  pub report_refused : ((report p).number ≡ 0 → ⊥) → (report p).process ≡ p
  unfolding report
  report_refused n = decide_leaves _ _ _ p _ refl n
