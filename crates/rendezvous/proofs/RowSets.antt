-- The receivers that the code finds for a kind and a sender are those of the steps allowed: member by member, each guard's tests in another
-- order. So the rows of who can take what may be sent are those of the net. Assumes nothing.
use Rattle.std.specs.Prelude.{Option}
use mathlib.Core.Path.{◌≡◌, refl, sym, ◌∙◌, ap, ap₂, subst}
use mathlib.Core.Bool.{Bool, true, false, not, ◌&&◌, cond, and-true, and-false, and_comm}
use mathlib.Core.List.{List}
use Prim.Native.Nat.{ℕ, ◌≤◌, ◌<◌, ◌^◌}
use native.Mathlib.Nat.{lt_of_le_of_lt, lt_of_lt_of_le}
use native.Mathlib.Omega.{arith}
use lib.Dec.{eqb, ltb}
use lib.Bits.{bit_and, and_le_r}
use lib.Pow.{pow_mono}
use borrow.Author.Tests.{ne_eqb, le-leb, lt-ltb, ltb-true}
use Rattle.finite.proofs.Cases.{by_bool, by_eq, eqb_self}
use Rattle.bitset.specs.Set.{member, bit_if}
use Rattle.bitset.specs.Internal.Selected.{set_of}
use Rattle.bitset.proofs.Laws.{same_members, member-without, member_empty}
use Rattle.bitset.proofs.Selected.{set-lt, set_has, bit_has, member-and}
use Rattle.aggregate.specs.declared.Config.{Config}
use Rattle.station.specs.declared.Station.{Station}
use Rattle.station.specs.Events.{asleep, active, may_send_start, may_report, may_answer, ready}
use Rattle.schedule.specs.declared.Step.{Step}
use Rattle.schedule.specs.declared.rows.Sizes.{Sizes}
use Rattle.schedule.specs.Rules.{in_range, allowed}
use Rattle.schedule.specs.Listing.{step, listed}
use Rattle.schedule.specs.Rows.{picked_by_size}
use Rattle.schedule.specs.Draws.{picked}
use Rattle.schedule.specs.Internal.Rows.{Filled}
use Rattle.schedule.proofs.Listing.{allowed-low}
use Rattle.schedule.proofs.RowLists.{report-row}
use Rattle.schedule.proofs.Drawing.{of_list}
use Rattle.rendezvous.specs.declared.listing.States.{States}
use Rattle.rendezvous.specs.declared.listing.Sends.{Sends}
use Rattle.rendezvous.specs.Net.{Net, carries, station}
use Rattle.rendezvous.specs.Figure.{wake, pass, answer, report}
use Rattle.rendezvous.specs.Telling.{tell}
use Rattle.rendezvous.specs.Rules.{rules}
use Rattle.rendezvous.specs.Internal.Receivers.{in_state, states_of, startable, answerable, sends_of, sent_in, takers_in, HoldTakers}
use Rattle.rendezvous.proofs.Guards.{wake-guard, pass-guard, answer-guard, report-guard}
use Rattle.rendezvous.proofs.Settled.{kinds_least}

-- a start's tests: as its set has them, and as its guard
start_tests : (below state in-set apart : Bool) → (apart && in-set && (below && state)) ≡ (below && (state && (in-set && apart)))
start_tests false state in-set apart = and-false (apart && in-set)
start_tests true false in-set apart = and-false (apart && in-set)
start_tests true true in-set apart = and-true (apart && in-set) ∙ and_comm apart in-set

-- an answer's tests, where the parent is the receiver
answer_tests : (below small state may apart : Bool) → (below ≡ true → small ≡ true)
    → (small && (may && apart) && true && (below && state)) ≡ (below && (state && (may && apart && true)))
answer_tests false small state may apart h = and-false (small && (may && apart) && true)
answer_tests true small state may apart h = rw (h refl) (simp and-true (and_comm (may && apart) state))

module _ (net : Net) (j : ℕ) (low : j < net.config.k) (few : net.config.k ≤ 64) where
  abbrev k : ℕ
  k = net.config.k

  abbrev s : Station
  s = station net j

  -- a message in range is one to a station below k
  message_range : (kind i : ℕ) → 1 ≤ kind → kind < report → in_range rules net (step kind j i) ≡ ltb i k
  unfolding in_range
  message_range kind i h l =
      rw (le-leb 1 kind h, le-leb kind (cond (carries net) tell report) (omega (arith, kinds_least (carries net))), lt-ltb j k low, ne_eqb kind 4 (λ e. omega arith)) (and-true (ltb i k))

  startable_has : (i state : ℕ) → member i (bit_and (startable j s) (in_state net state)) ≡ (ltb i k && (eqb (station net i).state state && (may_send_start i s && not (eqb i j))))
  unfolding startable in_state may_send_start
  startable_has i state =
      member-and i (startable j s) (in_state net state)
      ∙ ap (λ (b : Bool). member i (startable j s) && b) (set_has k _ i)
      ∙ by_bool (eqb s.state active)
      (λ t. rw t
      (ap (λ (b : Bool). b && (ltb i k && eqb (station net i).state state)) (member-without i j s.unstarted)
      ∙ start_tests (ltb i k) (eqb (station net i).state state) (member i s.unstarted) (not (eqb i j))))
      (λ f. rw (f, member_empty i) (simp and-false))

  answerable_has : (i : ℕ)
      → member i (bit_and (answerable net.config j s) (in_state net active))
      ≡ (ltb i k && (eqb (station net i).state active && (may_answer net.config j s && not (eqb j i) && eqb s.parent i)))
  unfolding answerable in_state
  answerable_has i =
      member-and i (answerable net.config j s) (in_state net active)
      ∙ ap₂ ◌&&◌ (bit_has _ s.parent i) (set_has k (λ x. eqb (station net x).state active) i)
      ∙ by_eq i s.parent
      (λ (e : i ≡ s.parent). rw (e, eqb_self s.parent)
      (answer_tests (ltb s.parent k) (ltb s.parent 64) (eqb (station net s.parent).state active) (may_answer net.config j s) (not (eqb j s.parent))
      (λ t. lt-ltb s.parent 64 (omega (arith, ltb-true s.parent k t)))))
      (λ n. rw (ne_eqb i s.parent n, ne_eqb s.parent i (λ e. n (sym e))) (simp and-false))

  reports_are : bit_if (may_report net.config j s) j ≡ set_of k (λ i. allowed rules net (step report j i))
  unfolding may_report
  reports_are = report-row rules net (omega arith) (kinds_least (carries net)) j low few (ready s) (report-guard net.config j j s s)

  -- who can take it is in one state
  in_state-lt : (to state : ℕ) → bit_and to (in_state net state) < 2 ^ 64
  unfolding in_state
  in_state-lt to state = lt_of_le_of_lt (and_le_r to (in_state net state)) (lt_of_lt_of_le (set-lt k _) (pow_mono few))

  -- a set of receivers below 64 that are those of the steps allowed
  are_allowed : (kind set : ℕ) → set < 2 ^ 64 → ((i : ℕ) → member i set ≡ allowed rules net (step kind j i))
      → set ≡ set_of k (λ i. allowed rules net (step kind j i))
  are_allowed kind set h same =
      same_members 64 _ _ h (lt_of_lt_of_le (set-lt k _) (pow_mono few)) (λ i m. same i ∙ sym (set_has k _ i ∙ allowed-low rules net (step kind j i)))

  -- the receivers that are found for a kind are those of the steps allowed
  pub receivers_are : (kind : ℕ) → 1 ≤ kind → kind ≤ report
      → takers_in kind (sends_of net.config j s) (states_of net) ≡ set_of k (λ i. allowed rules net (step kind j i))
  unfolding takers_in allowed
  receivers_are kind h l =
      by_eq kind wake
      (λ (e : kind ≡ wake). rw e (are_allowed wake (bit_and (startable j s) (in_state net asleep)) (in_state-lt (startable j s) asleep)
      (λ i. startable_has i asleep ∙ sym (rw (message_range wake i (omega arith) (omega arith), wake-guard net.config j i s (station net i))))))
      (λ w. by_eq kind pass
      (λ (e : kind ≡ pass). rw e (are_allowed pass (bit_and (startable j s) (in_state net active)) (in_state-lt (startable j s) active)
      (λ i. startable_has i active ∙ sym (rw (message_range pass i (omega arith) (omega arith), pass-guard net.config j i s (station net i))))))
      (λ p. by_eq kind answer
      (λ (e : kind ≡ answer). rw e (are_allowed answer (bit_and (answerable net.config j s) (in_state net active)) (in_state-lt (answerable net.config j s) active)
      (λ i. answerable_has i ∙ sym (rw (message_range answer i (omega arith) (omega arith), answer-guard net.config j i s (station net i))))))
      (λ a. let e : kind ≡ report = omega arith in rw e reports_are)))

-- the rows of who can take what may be sent are those of the net
pub rows_filled : (net : Net) (sent : ℕ → Sends) {states : States} {rows : List ℕ} {z : Sizes} → net.config.k ≤ 64
    → ((j : ℕ) → j < net.config.k → sent j ≡ sent_in net j) → states ≡ states_of net → HoldTakers net.config.k states sent rows z → Filled rules net rows z
rows_filled net sent few are e H =
    record {
      few = few;
      are = record { row = λ kind s h l m. H.row kind s h l m ∙ ap₂ (takers_in kind) (are s m) e ∙ receivers_are net s m few kind h l };
      sizes = H.sizes;
    }

-- so what is picked by them, where nothing is carried back, is what a draw picks
pub picked-flat : (net : Net) {rows : List ℕ} {z : Sizes} → Filled rules net rows z → (net.carrying ≡ 1 → ⊥) → {t : Config} → t ≡ net.config
    → (d : ℕ) {p : Option Step} → p ≡ picked_by_size rows z t.k d → p ≡ picked (listed rules net) d
picked-flat net {rows = rows} {z = z} F flat told d e =
    let four : rules.kinds net ≤ 4 = subst (λ (b : Bool). cond b tell report ≤ 4) (sym (ne_eqb net.carrying 1 flat)) (omega arith) in
    of_list rules net F four d (e ∙ ap (λ (t : Config). picked_by_size rows z t.k d) told)

-- a station that is not active sends nothing
pub idle_sends : (t : Config) (j : ℕ) (s : Station) → (s.state ≡ active → ⊥) → record { starts = 0; home = 0; report = 0 } ≡ sends_of t j s
unfolding startable answerable may_answer may_report ready bit_if
idle_sends t j s idle = sym (rw (ne_eqb s.state active idle) (simp and-false))
