-- The wave's invariant: the fresh state has it, and every step that the weak guard lets through keeps it, but for whose counts a station holds
-- (`Gathering`). From it: all into the root carried means all carried (T1), and then the root holds the total (T3). Assumes nothing.
use mathlib.Core.Path.{◌≡◌, refl, sym, ap, ap₂, ◌∙◌, subst}
use mathlib.Core.Bool.{Bool, true, false, not, ◌&&◌, ◌||◌, cond, and-false}
use Prim.Native.Nat.{ℕ, zero, suc, ◌<◌, ◌≤◌}
use native.Mathlib.Nat.{not-suc-le-zero}
use native.Mathlib.Omega.{arith}
use lib.Dec.{eqb}
use borrow.Author.Tests.{eqb-true, eqb-false, eq-eqb, ne_eqb, not-true}
use Rattle.finite.proofs.Cases.{clash, by_bool, by_eq, by-sum, and_both, or_cases, or_right, or_left, eqb_self}
use Rattle.wave.proofs.Carried.{carried_cases, carried_new, carried_other}
use Rattle.finite.specs.Sum.{indicator}
use Rattle.finite.specs.Internal.Monoid.{CommMonoid, addition, sum_to}
use Rattle.finite.proofs.Sums.{except, sum_ext, sum_unit, sum_extract, sum-move, sum_bump, sum-le, indicator-le, indicators_le}
use Rattle.wave.specs.Internal.Graph.{Graph}
use Rattle.finite.specs.Links.{Chain, here, link}
use Rattle.wave.specs.Internal.Wave.{message, report, State, answers, fresh, next, Heard, CanSend, CanReport}
use Rattle.wave.specs.Internal.Tree.{chosen}

-- i has answered, so that its value is in its parent's
abbrev pub spent : {A : Type 0} → Graph → State A → ℕ → Bool
spent g S i = not (eqb i g.root) && S.carried i (S.parent i)

-- what i holds of the total
abbrev pub weight : {A : Type 0} → Graph → CommMonoid A → State A → ℕ → A
weight g M S i = cond (spent g S i) M.unit (S.value i)

-- how many stations are awake
abbrev pub awakes : {A : Type 0} → Graph → State A → ℕ
awakes g S = sum_to addition g.size (λ x. indicator (S.awake x))

-- whose counts are in what the stations hold
pub record Gathers {A : Type 0} (g : Graph) (M : CommMonoid A) (counts : ℕ → A) (S : State A) : Type 0 where
  -- x's count is in what i holds: x is i, or x has answered and its count is, with its parent's, in what i holds
  pub under : ℕ → ℕ → Bool
  pub passed_on : (x i : ℕ) → under x i ≡ (eqb x i || spent g S x && under (S.parent x) i)
  pub gathered : (i : ℕ) → i < g.size → S.value i ≡ chosen M g.size counts (λ x. under x i)

-- what holds of every state that the wave reaches
pub record Inv {A : Type 0} (g : Graph) (M : CommMonoid A) (counts : ℕ → A) (S : State A) : Type 0 where
  -- the order of waking: how many were awake before
  pub rank : ℕ → ℕ
  -- a message was carried by a link between awake stations
  pub sent : (i j : ℕ) → S.carried i j ≡ true → (g.adj i j ≡ true) × (S.awake i ≡ true) × (S.awake j ≡ true)
  -- the root is awake and its own parent, which a sleeping station has too
  pub root_up : S.awake g.root ≡ true
  pub top : S.parent g.root ≡ g.root
  pub idle : (x : ℕ) → S.awake x ≡ false → S.parent x ≡ g.root
  -- an awake station has heard from its parent, which woke before it
  pub tree : (j : ℕ) → S.awake j ≡ true → (j ≡ g.root → ⊥) → (S.carried (S.parent j) j ≡ true) × (rank (S.parent j) < rank j)
  pub low : (j : ℕ) → S.awake j ≡ true → rank j < awakes g S
  -- who has answered has heard from all its neighbours
  pub answered : (i : ℕ) → S.awake i ≡ true → (i ≡ g.root → ⊥) → S.carried i (S.parent i) ≡ true → Heard g S i
  -- the values of the root and of all who have not answered join to the total; each is a joining of counts
  pub conserved : sum_to M g.size (weight g M S) ≡ sum_to M g.size counts
  pub gathers : Gathers g M counts S
  -- after the report all is carried
  pub ended : S.reported ≡ true → (i j : ℕ) → g.adj i j ≡ true → S.carried i j ≡ true

pub answers_both : {A : Type 0} (g : Graph) (S : State A) (i j : ℕ) → answers g S i j ≡ true → (i ≡ g.root → ⊥) × (S.parent i ≡ j)
answers_both g S i j e =
    let b = and_both (not (eqb i g.root)) (eqb (S.parent i) j) e in
    (eqb-false i g.root (not-true (eqb i g.root) b.0), eqb-true (S.parent i) j b.1)

pub answers-is : {A : Type 0} (g : Graph) (S : State A) (i j : ℕ) → (i ≡ g.root → ⊥) → S.parent i ≡ j → answers g S i j ≡ true
answers-is g S i j h e = rw (ne_eqb i g.root h, eq-eqb (S.parent i) j e)

module _ {A : Type 0} (g : Graph) (M : CommMonoid A) (counts : ℕ → A) where
  -- the root is awake
  root-counts : 0 < awakes g (fresh g counts)
  unfolding indicator
  root-counts =
      let r = g.root in
      let one : indicator (eqb r r) ≡ 1 = rw (eqb_self r) in
      omega (arith, one, sum_extract addition g.size r (λ x. indicator (eqb x r)) g.root_in)

  pub fresh_kept : Gathers g M counts (fresh g counts) → Inv g M counts (fresh g counts)
  fresh_kept gathers =
      record {
        rank = λ i. 0;
        sent = λ i j e. clash e refl;
        root_up = eqb_self g.root;
        top = refl;
        idle = λ x e. refl;
        tree = λ j e n. absurd (n (eqb-true j g.root e));
        low = λ j e. root-counts;
        answered = λ i e n c. clash c refl;
        conserved = sum_ext M g.size _ _ (λ i l. rw and-false);
        gathers = gathers;
        ended = λ e. clash e refl;
      }

  module _ (S : State A) (I : Inv g M counts S) where
    -- the root has heard from all: so has every station that is awake, from the root down
    heard_up : CanReport g S → (n j : ℕ) → I.rank j < n → S.awake j ≡ true → Heard g S j
    heard_up r zero j l up = absurd (not-suc-le-zero l)
    heard_up r (suc n) j l up =
        by_eq j g.root
        (λ q. subst (Heard g S) (sym q) r.heard)
        (λ q.
        let t = I.tree j up q in
        let s = I.sent (S.parent j) j t.0 in
        I.answered j up q (heard_up r n (S.parent j) (omega (arith, t.1)) s.1 j (g.mutual_adj (S.parent j) j s.0)))

    chain_up : CanReport g S → (i : ℕ) → Chain g.adj g.root i → S.awake i ≡ true
    chain_up r i here = I.root_up
    chain_up r i (link {j = j} e c) =
        (I.sent i j (heard_up r (suc (I.rank j)) j (omega arith) (chain_up r j c) i e)).1

    -- T1: then all is carried
    pub all_carried : CanReport g S → (i j : ℕ) → g.adj i j ≡ true → S.carried i j ≡ true
    all_carried r i j e =
        heard_up r (suc (I.rank j)) j (omega arith) (chain_up r j (g.joined j (g.within i j e).1)) i e

    -- ranks are below k, as no more stations are awake than there are
    pub rank_below : (j : ℕ) → S.awake j ≡ true → I.rank j < g.size
    rank_below j e = omega (arith, I.low j e, indicators_le g.size S.awake)

    pub asleep_silent : (x y : ℕ) → S.awake x ≡ false → S.carried x y ≡ false
    asleep_silent x y e = by_bool (S.carried x y) (λ c. clash (I.sent x y c).1 e) (λ c. c)

    module _ (i j : ℕ) (w : CanSend g S i j) where
      abbrev S' : State A
      S' = next g M S (message i j)

      pub carried_old : (a b : ℕ) → S.carried a b ≡ true → S'.carried a b ≡ true
      carried_old a b e = or_right (eqb a i && eqb b j) (S.carried a b) e

      pub not_self : i ≡ j → ⊥
      not_self q = clash w.adjacent (ap (g.adj i) (sym q) ∙ g.no_loop i)

      pub awake_cases : (x : ℕ) → S'.awake x ≡ true → S.awake x ≡ false → x ≡ j
      awake_cases x e f = by-sum (or_cases (eqb x j) (S.awake x) e) (λ h. eqb-true x j h) (λ h. clash h f)

      pub awake_old : (x : ℕ) → S.awake x ≡ true → S'.awake x ≡ true
      awake_old x e = or_right (eqb x j) (S.awake x) e

      pub awake_new : S'.awake j ≡ true
      awake_new = or_left (eqb j j) (S.awake j) (eqb_self j)

      -- what is set where j is woken
      waking : (x : ℕ) → S.awake x ≡ true → (eqb x j && not (S.awake j)) ≡ false
      waking x e =
          by_eq x j (λ q. rw (eq-eqb x j q, ap S.awake (sym q) ∙ e)) (λ n. rw (ne_eqb x j n))

      woken : S.awake j ≡ false → (eqb j j && not (S.awake j)) ≡ true
      woken e = rw (eqb_self j, e)

      abbrev rank' : ℕ → ℕ
      rank' x = cond (eqb x j && not (S.awake j)) (awakes g S) (I.rank x)

      pub parent_old : (x : ℕ) → S.awake x ≡ true → S'.parent x ≡ S.parent x
      parent_old x e = rw (waking x e)

      pub parent_new : S.awake j ≡ false → S'.parent j ≡ i
      parent_new e = rw (woken e)

      rank_old : (x : ℕ) → S.awake x ≡ true → rank' x ≡ I.rank x
      rank_old x e = rw (waking x e)

      rank_new : S.awake j ≡ false → rank' j ≡ awakes g S
      rank_new e = rw (woken e)

      keep_sent : (a b : ℕ) → S'.carried a b ≡ true → (g.adj a b ≡ true) × (S'.awake a ≡ true) × (S'.awake b ≡ true)
      keep_sent a b e =
          by-sum (carried_cases i j a b (S.carried a b) e)
          (λ p. (rw (p.0, p.1) w.adjacent, rw p.0 (awake_old i w.up), rw p.1 awake_new))
          (λ c. let s = I.sent a b c in (s.0, awake_old a s.1, awake_old b s.2))

      keep_tree : (x : ℕ) → S'.awake x ≡ true → (x ≡ g.root → ⊥)
          → (S'.carried (S'.parent x) x ≡ true) × (rank' (S'.parent x) < rank' x)
      keep_tree x e n =
          by_bool (S.awake x)
          (λ up.
          let t = I.tree x up n in
          let s = I.sent (S.parent x) x t.0 in (
            rw (parent_old x up) (carried_old (S.parent x) x t.0),
            rw (parent_old x up, rank_old (S.parent x) s.1, rank_old x up) t.1,
          ))
          (λ down.
          let q = awake_cases x e down in
          let down-j = ap S.awake (sym q) ∙ down in (
            rw (q, parent_new down-j) (carried_new i j (S.carried i j)),
            rw (q, parent_new down-j, rank_old i w.up, rank_new down-j) (I.low i w.up),
          ))

      -- one more is awake where j is woken
      awakes-new : S.awake j ≡ false → awakes g S' ≡ suc (awakes g S)
      unfolding indicator
      awakes-new e =
          sum_bump g.size j _ _ (g.within i j w.adjacent).1 (rw (eqb_self j, e)) (λ x n. rw (ne_eqb x j n))

      awakes_grow : awakes g S ≤ awakes g S'
      awakes_grow = sum-le g.size _ _ (λ x l. indicator-le (S.awake x) (S'.awake x) (awake_old x))

      keep_low : (x : ℕ) → S'.awake x ≡ true → rank' x < awakes g S'
      keep_low x e =
          by_bool (S.awake x)
          (λ up. omega (arith, rank_old x up, I.low x up, awakes_grow))
          (λ down.
          let q = awake_cases x e down in
          let down-j = ap S.awake (sym q) ∙ down in
          rw q (omega (arith, rank_new down-j, awakes-new down-j)))

      keep_answered : (x : ℕ) → S'.awake x ≡ true → (x ≡ g.root → ⊥) → S'.carried x (S'.parent x) ≡ true → Heard g S' x
      keep_answered x e n c h a =
          by_bool (S.awake x)
          (λ up.
          let c' : S'.carried x (S.parent x) ≡ true = rw (parent_old x up) at c in
          carried_old h x
          (by-sum (carried_cases i j x (S.parent x) (S.carried x (S.parent x)) c')
          (λ p. subst (Heard g S) (sym p.0)
          (w.heard (answers-is g S i j (λ r. n (p.0 ∙ r)) (ap S.parent (sym p.0) ∙ p.1))) h a)
          (λ d. I.answered x up n d h a)))
          (λ down.
          let q = awake_cases x e down in
          let down-j = ap S.awake (sym q) ∙ down in
          let c' : S'.carried j i ≡ true = rw (q, parent_new down-j) at c in
          by-sum (carried_cases i j j i (S.carried j i) c')
          (λ p. absurd (not_self (sym p.0)))
          (λ d. clash (I.sent j i d).1 down-j))

      keep_idle : (x : ℕ) → S'.awake x ≡ false → S'.parent x ≡ g.root
      keep_idle x e =
          by_eq x j
          (λ q. clash (ap S'.awake q ∙ awake_new) e)
          (λ n. (rw (ne_eqb x j n)) ∙ I.idle x (by_bool (S.awake x) (λ up. clash (awake_old x up) e) (λ down. down)))

      -- what the others hold is as it was, and so is what i holds where the message is a start
      pub spent_kept : (x : ℕ) → (x ≡ i → S.parent x ≡ j → (x ≡ g.root → ⊥) → ⊥) → spent g S' x ≡ spent g S x
      spent_kept x n =
          by_eq x g.root
          (λ r. rw (eq-eqb x g.root r))
          (λ r. rw (ne_eqb x g.root r)
          (by_bool (S.awake x)
          (λ up. rw (parent_old x up) (carried_other i j x (S.parent x) (S.carried x (S.parent x)) (λ p q. n p q r)))
          (λ down.
          carried_other i j x (S'.parent x) (S.carried x (S'.parent x)) (λ p q. clash (ap S.awake p ∙ w.up) down)
          ∙ asleep_silent x (S'.parent x) down
          ∙ sym (asleep_silent x (S.parent x) down))))

      weight_is : (T : State A) (x : ℕ) (b : Bool) (v : A) → spent g T x ≡ b → T.value x ≡ v → weight g M T x ≡ cond b M.unit v
      weight_is T x b v e f = ap₂ (λ (c : Bool) (u : A). cond c M.unit u) e f

      keep_start : answers g S i j ≡ false → sum_to M g.size (weight g M S') ≡ sum_to M g.size (weight g M S)
      keep_start a =
          sum_ext M g.size _ _ (λ x l.
          weight_is S' x (spent g S x) (S.value x)
          (spent_kept x (λ p q r. clash (answers-is g S i j (λ e. r (p ∙ e)) (ap S.parent (sym p) ∙ q)) a))
          (rw (a, and-false)))

      -- whoever an answer goes to has not answered yet
      pub receiver_up : answers g S i j ≡ true → S.awake j ≡ true
      receiver_up a =
          let b = answers_both g S i j a in
          rw b.1 at (I.sent (S.parent i) i (I.tree i w.up b.0).0).1

      pub receiver_open : S.awake j ≡ true → spent g S j ≡ false
      receiver_open up-j =
          by_bool (spent g S j)
          (λ e.
          let c = and_both (not (eqb j g.root)) (S.carried j (S.parent j)) e in
          clash
          (I.answered j up-j (eqb-false j g.root (not-true (eqb j g.root) c.0)) c.1 i w.adjacent)
          w.unsent)
          (λ e. e)

      receives : answers g S i j ≡ true → weight g M S' j ≡ M.add (S.value j) (S.value i)
      receives a =
          weight_is S' j false (M.add (S.value j) (S.value i))
          (spent_kept j (λ p q r. not_self (sym p)) ∙ receiver_open (receiver_up a))
          (rw (eqb_self j, a))

      keep_answer : answers g S i j ≡ true → sum_to M g.size (weight g M S') ≡ sum_to M g.size (weight g M S)
      keep_answer a =
          let b = answers_both g S i j a in
          let open-i : spent g S i ≡ false = rw (ne_eqb i g.root b.0, b.1) w.unsent in
          let shut-i : spent g S' i ≡ true = rw (ne_eqb i g.root b.0, parent_old i w.up, b.1) (carried_new i j (S.carried i j)) in
          let bounds = g.within i j w.adjacent in
          sum-move M g.size i j (weight g M S) (weight g M S') bounds.0 bounds.1 not_self
          (weight_is S' i true (S'.value i) shut-i refl)
          (receives a
          ∙ ap₂ M.add (sym (weight_is S j false (S.value j) (receiver_open (receiver_up a)) refl)) (sym (weight_is S i false (S.value i) open-i refl)))
          (λ x ni nj. weight_is S' x (spent g S x) (S.value x) (spent_kept x (λ p q r. ni p)) (rw (ne_eqb x j nj)))

      keep_conserved : sum_to M g.size (weight g M S') ≡ sum_to M g.size counts
      keep_conserved = by_bool (answers g S i j) keep_answer keep_start ∙ I.conserved

      pub message_kept : Gathers g M counts S' → Inv g M counts S'
      message_kept gathers =
          record {
            rank = rank';
            sent = keep_sent;
            root_up = awake_old g.root I.root_up;
            top = parent_old g.root I.root_up ∙ I.top;
            idle = keep_idle;
            tree = keep_tree;
            low = keep_low;
            answered = keep_answered;
            conserved = keep_conserved;
            gathers = gathers;
            ended = λ e a b c. carried_old a b (I.ended e a b c);
          }

    pub keep_report : CanReport g S → Inv g M counts (next g M S report)
    keep_report r =
        record {
          rank = I.rank;
          sent = I.sent;
          root_up = I.root_up;
          top = I.top;
          idle = I.idle;
          tree = I.tree;
          low = I.low;
          answered = I.answered;
          conserved = I.conserved;
          gathers = record { under = I.gathers.under; passed_on = I.gathers.passed_on; gathered = I.gathers.gathered };
          ended = λ e. all_carried r;
        }

  module _ (S : State A) (I : Inv g M counts S) where
    pub all_awake : ((i j : ℕ) → g.adj i j ≡ true → S.carried i j ≡ true) → (i : ℕ) → Chain g.adj g.root i → S.awake i ≡ true
    all_awake all i here = I.root_up
    all_awake all i (link {j = j} e c) = (I.sent i j (all i j e)).1

    -- T3: once all is carried, the root holds the total
    pub root_holds_total : ((i j : ℕ) → g.adj i j ≡ true → S.carried i j ≡ true) → S.value g.root ≡ sum_to M g.size counts
    root_holds_total all =
        let r = g.root in
        let at-root : weight g M S r ≡ S.value r = rw (eqb_self r) in
        let rest : sum_to M g.size (except M r (weight g M S)) ≡ M.unit =
        sum_unit M g.size _ (λ x l.
        by_eq x r
        (λ q. rw (eq-eqb x r q))
        (λ n.
        let up = all_awake all x (g.joined x l) in
        let s = I.sent (S.parent x) x (I.tree x up n).0 in
        rw (ne_eqb x r n, all x (S.parent x) (g.mutual_adj (S.parent x) x s.0)))) in
        sym at-root
        ∙ sym (M.unit_add _)
        ∙ M.comm _ _
        ∙ ap (M.add (weight g M S r)) (sym rest)
        ∙ sym (sum_extract M g.size r (weight g M S) g.root_in)
        ∙ I.conserved
