-- Whose counts are in what a station holds, the last part of the wave's invariant: so the fresh state has it, and every step that the weak guard
-- lets through keeps it. Assumes nothing.
use mathlib.Core.Path.{◌≡◌, refl, sym, ap, ap₂, ◌∙◌, subst}
use mathlib.Core.Bool.{Bool, true, false, not, ◌&&◌, ◌||◌, cond, and-true, and-false, or-false}
use Prim.Native.Nat.{ℕ, zero, suc, ◌<◌}
use native.Mathlib.Nat.{not-suc-le-zero}
use native.Mathlib.Omega.{arith}
use lib.Dec.{eqb}
use borrow.Author.Tests.{eqb-true, eqb-false, ne_eqb, not-true}
use Rattle.finite.specs.Internal.Monoid.{CommMonoid}
use Rattle.finite.proofs.Cases.{clash, by_bool, by_eq, and_both, eqb_self}
use Rattle.finite.proofs.Sums.{sum_ext, sum_unit, sum_extract, sum-join}
use Rattle.wave.specs.Internal.Graph.{Graph}
use Rattle.wave.specs.Internal.Wave.{Step, message, report, State, answers, fresh, next, CanSend, Weak}
use Rattle.wave.specs.Internal.Tree.{chosen}
use Rattle.wave.proofs.Carried.{carried_new}
use Rattle.wave.proofs.Invariant.{Inv, spent, answers_both, answers-is, not_self, parent_old, spent_kept, receiver_up, receiver_open, fresh_kept, message_kept, keep_report}

-- a test that passes one station chooses its count
chosen-one : {A : Type 0} (M : CommMonoid A) (k i : ℕ) (counts : ℕ → A) → i < k → chosen M k counts (λ x. eqb x i) ≡ counts i
chosen-one M k i counts l =
    sum_extract M k i _ l
    ∙ ap₂ M.add (rw (eqb_self i)) (sum_unit M k _ (λ x m. by_bool (eqb x i) (λ e. rw e) (λ e. rw e)))
    ∙ M.comm _ _
    ∙ M.unit_add _

-- two tests of which no station passes both
chosen_both : {A : Type 0} (M : CommMonoid A) (k : ℕ) (counts : ℕ → A) (p q : ℕ → Bool) → ((x : ℕ) → p x ≡ true → q x ≡ true → ⊥)
    → chosen M k counts (λ x. p x || q x) ≡ M.add (chosen M k counts p) (chosen M k counts q)
chosen_both M k counts p q n =
    sum_ext M k _ _ (λ x l.
    by_bool (p x)
    (λ a. by_bool (q x) (λ b. absurd (n x a b)) (λ b. rw (a, b) (sym (M.unit_add _) ∙ M.comm _ _)))
    (λ a. rw a (sym (M.unit_add _))))
    ∙ sum-join M k _ _

-- passing on, and one test more
pass_more : (e s u a v : Bool) → ((e || s && u) || a && (s && v)) ≡ (e || s && (u || a && v))
pass_more true s u a v = refl
pass_more false true u a v = refl
pass_more false false u a v = and-false a

module _ {A : Type 0} (g : Graph) (M : CommMonoid A) (counts : ℕ → A) where
  pub fresh_inv : Inv g M counts (fresh g counts)
  fresh_inv =
      fresh_kept g M counts
      (record {
        under = λ x i. eqb x i;
        passed_on = λ x i. rw (and-false, or-false);
        gathered = λ i l. sym (chosen-one M g.size i counts l);
      })

  module _ (S : State A) (I : Inv g M counts S) where
    -- who has answered is no root and awake
    spent_parts : (x : ℕ) → spent g S x ≡ true → (x ≡ g.root → ⊥) × (S.awake x ≡ true)
    spent_parts x e =
        let b = and_both (not (eqb x g.root)) (S.carried x (S.parent x)) e in
        (eqb-false x g.root (not-true (eqb x g.root) b.0), (I.sent x (S.parent x) b.1).1)

    -- the count of a station that has not answered is in what no other holds; that of one that has, where its parent's is
    under_self : (x i : ℕ) → spent g S x ≡ false → I.gathers.under x i ≡ eqb x i
    under_self x i s = I.gathers.passed_on x i ∙ (rw (s, or-false))

    under_next : (x i : ℕ) → spent g S x ≡ true → (x ≡ i → ⊥) → I.gathers.under x i ≡ I.gathers.under (S.parent x) i
    under_next x i s n = I.gathers.passed_on x i ∙ (rw (s, ne_eqb x i n))

    -- so it is in what only one station holds that has not answered
    one_holder : (n x a b : ℕ) → I.rank x < n → spent g S a ≡ false → spent g S b ≡ false
        → I.gathers.under x a ≡ true → I.gathers.under x b ≡ true → a ≡ b
    one_holder zero x a b l o p u v = absurd (not-suc-le-zero l)
    one_holder (suc n) x a b l o p u v =
        by_bool (spent g S x)
        (λ s.
        let q = spent_parts x s in
        let other : (y : ℕ) → spent g S y ≡ false → x ≡ y → ⊥ = λ y f e. clash s (ap (spent g S) e ∙ f) in
        one_holder n (S.parent x) a b (omega (arith, (I.tree x q.1 q.0).1)) o p
        (sym (under_next x a s (other a o)) ∙ u) (sym (under_next x b s (other b p)) ∙ v))
        (λ s. sym (eqb-true x a (sym (under_self x a s) ∙ u)) ∙ eqb-true x b (sym (under_self x b s) ∙ v))

    module _ (i j : ℕ) (w : CanSend g S i j) where
      abbrev S' : State A
      S' = next g M S (message i j)

      -- an answer adds what its sender holds to what its receiver holds
      abbrev under' : ℕ → ℕ → Bool
      under' x y = I.gathers.under x y || (eqb y j && answers g S i j) && I.gathers.under x i

      -- whoever this is no answer of passes on what it passed on
      passed_same : (x y : ℕ) → spent g S' x ≡ spent g S x
          → ((eqb y j && answers g S i j) && I.gathers.under x i) ≡ ((eqb y j && answers g S i j) && (spent g S x && I.gathers.under (S.parent x) i))
          → under' x y ≡ (eqb x y || spent g S' x && under' (S'.parent x) y)
      passed_same x y same more =
          ap₂ (λ (b c : Bool). b || c) (I.gathers.passed_on x y) more
          ∙ pass_more (eqb x y) (spent g S x) (I.gathers.under (S.parent x) y) (eqb y j && answers g S i j) (I.gathers.under (S.parent x) i)
          ∙ ap (λ (b : Bool). eqb x y || b)
          (by_bool (spent g S x)
          (λ s. rw (same, parent_old g M counts S I i j w x (spent_parts x s).1))
          (λ s. rw (same, s)))

      keep_start : answers g S i j ≡ false → (x y : ℕ) → under' x y ≡ (eqb x y || spent g S' x && under' (S'.parent x) y)
      keep_start f x y =
          passed_same x y
          (spent_kept g M counts S I i j w x (λ p q r. clash (answers-is g S i j (λ e. r (p ∙ e)) (ap S.parent (sym p) ∙ q)) f))
          (rw (f, and-false))

      module _ (t : answers g S i j ≡ true) where
        -- the sender had not answered, nor had the receiver
        sender_open : spent g S i ≡ false
        sender_open = let b = answers_both g S i j t in rw (ne_eqb i g.root b.0, b.1) w.unsent

        receiver_free : spent g S j ≡ false
        receiver_free = receiver_open g M counts S I i j w (receiver_up g M counts S I i j w t)

        keep_sender : (y : ℕ) → under' i y ≡ (eqb i y || spent g S' i && under' (S'.parent i) y)
        keep_sender y =
            let b = answers_both g S i j t in
            let p : S'.parent i ≡ j = parent_old g M counts S I i j w i w.up ∙ b.1 in
            let s : spent g S' i ≡ true = rw (ne_eqb i g.root b.0, p) (carried_new i j (S.carried i j)) in
            let left : under' i y ≡ (eqb i y || eqb y j) =
            rw (t, under_self i y sender_open, under_self i i sender_open, eqb_self i, and-true (eqb y j), and-true (eqb y j)) in
            let right : under' j y ≡ eqb y j =
            rw (under_self j y receiver_free, under_self j i receiver_free, ne_eqb j i (λ e. not_self g M counts S I i j w (sym e)), and-false, or-false)
            (by_eq y j (λ q. rw q) (λ n. ne_eqb j y (λ e. n (sym e)) ∙ sym (ne_eqb y j n))) in
            left ∙ ap (λ (b : Bool). eqb i y || b) (sym right) ∙ (rw (s, p))

        keep_other : (x y : ℕ) → (x ≡ i → ⊥) → under' x y ≡ (eqb x y || spent g S' x && under' (S'.parent x) y)
        keep_other x y n =
            passed_same x y (spent_kept g M counts S I i j w x (λ p q r. n p))
            (ap (λ (b : Bool). (eqb y j && answers g S i j) && b) (I.gathers.passed_on x i ∙ (rw (ne_eqb x i n))))

        -- no count is joined twice
        apart : (x : ℕ) → I.gathers.under x j ≡ true → I.gathers.under x i ≡ true → ⊥
        apart x u v = not_self g M counts S I i j w (one_holder (suc (I.rank x)) x i j (omega arith) sender_open receiver_free v u)

      keep_passed : (x y : ℕ) → under' x y ≡ (eqb x y || spent g S' x && under' (S'.parent x) y)
      keep_passed x y =
          by_bool (answers g S i j)
          (λ t. by_eq x i
          (λ q. subst (λ (z : ℕ). under' z y ≡ (eqb z y || spent g S' z && under' (S'.parent z) y)) (sym q) (keep_sender t y))
          (keep_other t x y))
          (λ f. keep_start f x y)

      keep_gathered : (y : ℕ) → y < g.size → S'.value y ≡ chosen M g.size counts (λ x. under' x y)
      keep_gathered y l =
          let bounds = g.within i j w.adjacent in
          by_bool (eqb y j && answers g S i j)
          (λ e.
          let b = and_both (eqb y j) (answers g S i j) e in
          rw (e, eqb-true y j b.0)
          (ap₂ M.add (I.gathers.gathered j bounds.1) (I.gathers.gathered i bounds.0)
          ∙ sym (chosen_both M g.size counts (λ x. I.gathers.under x j) (λ x. I.gathers.under x i) (apart b.1))))
          (λ e. rw e (I.gathers.gathered y l ∙ sum_ext M g.size _ _ (λ x m. ap (λ (b : Bool). cond b (counts x) M.unit) (sym (or-false (I.gathers.under x y))))))

  -- so every step keeps the invariant
  pub keep_message : (S : State A) (I : Inv g M counts S) (i j : ℕ) → CanSend g S i j → Inv g M counts (next g M S (message i j))
  keep_message S I i j w =
      message_kept g M counts S I i j w (record { under = under' S I i j w; passed_on = keep_passed S I i j w; gathered = keep_gathered S I i j w })

  pub keep : (S : State A) (s : Step) → Inv g M counts S → Weak g S s → Inv g M counts (next g M S s)
  keep S (message i j) I w = keep_message S I i j w
  keep S report I w = keep_report g M counts S I w
