-- The form of a station as facts, and what each line of Definition 3.1 leaves of it: a fact that a line does not touch stays, and the
-- others are laws of sets and sums. Assumes nothing.
use mathlib.Core.Path.{◌≡◌, refl, ◌∙◌}
use mathlib.Core.Bool.{Bool, true, false, not, ◌&&◌, ◌||◌, and-true, false≢true}
use Prim.Native.Nat.{ℕ, ◌-◌, ◌<◌, ◌≤◌}
use native.Mathlib.Omega.{arith}
use lib.Dec.{eqb, leb, ltb}
use borrow.Author.Tests.{leb-true, ltb-true, eqb-true, le-leb, lt-ltb, eq-eqb, ne_eqb, not-true}
use Rattle.finite.proofs.Cases.{by_bool, by_eq, clash, or_left, or_right, or_cases, by-sum}
use Rattle.aggregate.specs.declared.Config.{Config}
use Rattle.aggregate.specs.declared.Aggregate.{Aggregate}
use Rattle.aggregate.specs.Aggregate.{root_of, bounded, joined}
use Rattle.bitset.specs.Set.{member, size, without, within}
use Rattle.bitset.proofs.Laws.{member-without, within-without, within-lt, size-le}
use Rattle.station.specs.declared.Station.{Station}
use Rattle.station.specs.Events.{asleep, finished, woken, start_sent, answer_taken, start_taken, started_by, ended}
use Rattle.station.specs.Form.{well_formed}

-- what the form says of station i
pub record WellFormed (t : Config) (i : ℕ) (s : Station) : Type 0 where
  pub state-le : s.state ≤ finished
  pub parent_below : s.parent < t.k
  pub set-within : within t.k s.unstarted ≡ true
  pub waits-le : s.waits ≤ 64
  pub held-bounded : bounded t s.held ≡ true
  pub not_in_set : member i s.unstarted ≡ false
  pub own_parent : s.parent ≡ i → i ≡ root_of t

all_true : (a b c d e f g : Bool) → (a && b && c && d && e && f && g) ≡ true
    → (a ≡ true) × (b ≡ true) × (c ≡ true) × (d ≡ true) × (e ≡ true) × (f ≡ true) × (g ≡ true)
all_true true true true true true true g h = (refl, refl, refl, refl, refl, refl, h)
all_true true true true true true false g h = absurd (false≢true h)
all_true true true true true false f g h = absurd (false≢true h)
all_true true true true false e f g h = absurd (false≢true h)
all_true true true false d e f g h = absurd (false≢true h)
all_true true false c d e f g h = absurd (false≢true h)
all_true false b c d e f g h = absurd (false≢true h)

module _ (t : Config) (i : ℕ) (s : Station) where
  -- only the root is its own parent, as a test and as a fact
  parent_fact : (eqb i (root_of t) || not (eqb s.parent i)) ≡ true → s.parent ≡ i → i ≡ root_of t
  parent_fact h e =
      by-sum (or_cases (eqb i (root_of t)) (not (eqb s.parent i)) h)
      (λ r. eqb-true i (root_of t) r)
      (λ n. clash (eq-eqb s.parent i e) (not-true (eqb s.parent i) n))

  parent_test : (s.parent ≡ i → i ≡ root_of t) → (eqb i (root_of t) || not (eqb s.parent i)) ≡ true
  parent_test h =
      by_eq s.parent i
      (λ e. or_left (eqb i (root_of t)) (not (eqb s.parent i)) (eq-eqb i (root_of t) (h e)))
      (λ n. or_right (eqb i (root_of t)) (not (eqb s.parent i)) (rw (ne_eqb s.parent i n)))

  pub facts : well_formed t i s ≡ true → WellFormed t i s
  unfolding well_formed
  facts h =
      let all =
      all_true (leb s.state finished) (ltb s.parent t.k) (within t.k s.unstarted) (leb s.waits 64)
      (bounded t s.held) (not (member i s.unstarted)) (eqb i (root_of t) || not (eqb s.parent i)) h in
      record {
        state-le = leb-true s.state finished all.0;
        parent_below = ltb-true s.parent t.k all.1;
        set-within = all.2;
        waits-le = leb-true s.waits 64 all.3;
        held-bounded = all.4;
        not_in_set = not-true (member i s.unstarted) all.5;
        own_parent = parent_fact all.6;
      }

  pub well_formed_lem : WellFormed t i s → well_formed t i s ≡ true
  unfolding well_formed
  well_formed_lem f =
      rw (
        le-leb s.state finished f.state-le,
        lt-ltb s.parent t.k f.parent_below,
        f.set-within,
        le-leb s.waits 64 f.waits-le,
        f.held-bounded,
        f.not_in_set,
      )
      (parent_test f.own_parent)

module _ (t : Config) (i : ℕ) (s : Station) (h : well_formed t i s ≡ true) where
  -- when another leaves the set, the station is still not in it
  still_apart : (j : ℕ) → member i (without j s.unstarted) ≡ false
  still_apart j = member-without i j s.unstarted ∙ by_bool (eqb i j) (λ e. rw e) (λ e. rw (e, (facts t i s h).not_in_set))

  -- line 1 leaves the form just where a station but the root takes itself for its parent
  pub woken_formed : (j : ℕ) → t.k ≤ 64 → j < t.k → well_formed t i (woken j s) ≡ (eqb i (root_of t) || not (eqb j i))
  unfolding well_formed
  woken_formed j l below =
      let f = facts t i s h in
      let most : size s.unstarted - 1 ≤ 64 = omega (
        arith,
        size-le t.k s.unstarted l (within-lt t.k s.unstarted f.set-within),
      ) in
      rw (
        lt-ltb j t.k below,
        within-without t.k j s.unstarted f.set-within,
        le-leb (size s.unstarted - 1) 64 most,
        f.held-bounded,
        still_apart j,
      )

  -- line 3 leaves the form just where the sum does
  pub answer_taken_formed : (v : Aggregate) → well_formed t i (answer_taken t v s) ≡ bounded t (joined t s.held v)
  unfolding well_formed
  answer_taken_formed v =
      let f = facts t i s h in
      let less : s.waits - 1 ≤ 64 = omega (arith, f.waits-le) in
      let sum = bounded t (joined t s.held v) in
      rw (
        le-leb s.state finished f.state-le,
        lt-ltb s.parent t.k f.parent_below,
        f.set-within,
        le-leb (s.waits - 1) 64 less,
        f.not_in_set,
        parent_test t i s f.own_parent,
      )
      (and-true (sum && true) ∙ and-true sum)

  -- lines 2, 4, 5 and 6 keep it
  pub start_sent_formed : (j : ℕ) → well_formed t i (start_sent j s) ≡ true
  start_sent_formed j =
      let f = facts t i s h in
      well_formed_lem t i (start_sent j s)
      (record {
        state-le = f.state-le;
        parent_below = f.parent_below;
        set-within = within-without t.k j s.unstarted f.set-within;
        waits-le = f.waits-le;
        held-bounded = f.held-bounded;
        not_in_set = still_apart j;
        own_parent = f.own_parent;
      })

  pub start_taken_formed : well_formed t i (start_taken s) ≡ true
  start_taken_formed =
      let f = facts t i s h in
      well_formed_lem t i (start_taken s)
      (record {
        state-le = f.state-le;
        parent_below = f.parent_below;
        set-within = f.set-within;
        waits-le = omega (arith, f.waits-le);
        held-bounded = f.held-bounded;
        not_in_set = f.not_in_set;
        own_parent = f.own_parent;
      })

  pub ended_formed : well_formed t i (ended s) ≡ true
  ended_formed =
      let f = facts t i s h in
      well_formed_lem t i (ended s)
      (record {
        state-le = omega arith;
        parent_below = f.parent_below;
        set-within = f.set-within;
        waits-le = f.waits-le;
        held-bounded = f.held-bounded;
        not_in_set = f.not_in_set;
        own_parent = f.own_parent;
      })

  -- lines 1 and 4: a start from another station keeps it, and so does the root's start from itself
  pub started_formed : (j : ℕ) → t.k ≤ 64 → j < t.k → (j ≡ i → i ≡ root_of t) → well_formed t i (started_by j s) ≡ true
  unfolding started_by
  started_formed j l below other =
      by_bool (eqb s.state asleep)
      (λ e. rw e (woken_formed j l below ∙ parent_test t i (woken j s) other))
      (λ e. rw e start_taken_formed)
