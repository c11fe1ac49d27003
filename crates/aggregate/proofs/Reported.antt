-- What a total says in plain words, of every way: the counts with a reading added, the greatest and the least of them, or how many there are, and
-- how many are missing. Assumes nothing.
use mathlib.Core.Path.{◌≡◌, refl, sym, ap, ◌∙◌, subst}
use mathlib.Core.Bool.{Bool, true, false, cond}
use mathlib.Core.Logic.{inl, inr}
use Prim.Native.Nat.{ℕ, zero, suc, ◌^◌, ◌<◌, ◌≤◌, min, max}
use native.Mathlib.Nat.{not-suc-le-zero, le_refl}
use native.Mathlib.Omega.{arith}
use Rattle.finite.specs.Sum.{fold_to, sum}
use Rattle.finite.specs.Internal.Monoid.{sum_to}
use Rattle.finite.proofs.Cases.{clash, by_bool, by_eq, by-sum}
use Rattle.aggregate.specs.Ways.{none, chosen_of, sum_joined, empty_sum}
use Rattle.aggregate.specs.Aggregate.{is_missing}
use Rattle.aggregate.specs.Reported.{LastReading, Last, Reported}
use Rattle.aggregate.proofs.Joining.{Choice, choice-max, choice-min, chosen_both, chosen-first, chosen-second, joining_sums, joining_cells}
use Rattle.aggregate.proofs.Totals.{given, given_sum, sum-total, missing-total}

-- a choice of the last in an order
module _ (op : ℕ → ℕ → ℕ) (C : Choice op) (Before : ℕ → ℕ → Type 0) (self : (x : ℕ) → Before x x)
    (then : (x y z : ℕ) → Before x y → Before y z → Before x z) (left : (x y : ℕ) → Before x (op x y)) (right : (x y : ℕ) → Before y (op x y))
    (counts : ℕ → ℕ) where
  module _ (k v : ℕ) (L : Last Before k counts v) (small : (s : ℕ) → s < suc k → counts s < 2 ^ 32) where
    -- a head without a reading changes nothing
    kept : is_missing (counts k) ≡ true → Last Before (suc k) counts v
    kept m =
        by-sum L
        (λ w. inl (
          w.0,
          omega (arith, w.1),
          w.2,
          w.3,
          λ r l h. by_eq r k (λ q. clash m (ap (λ (x : ℕ). is_missing (counts x)) (sym q) ∙ h)) (λ q. w.4 r (omega arith) h),
        ))
        (λ w. inr (λ s l. by_eq s k (λ q. ap (λ (x : ℕ). is_missing (counts x)) q ∙ m) (λ q. w.0 s (omega arith)), w.1))

    real : counts k ≡ none → ⊥
    real e = omega (arith, small k (le_refl (suc k)))

    -- a reading is chosen, or what was chosen before
    chosen : is_missing (counts k) ≡ false → Last Before (suc k) counts (chosen_of op v (counts k))
    chosen m =
        by-sum L
        (λ w.
        let e : chosen_of op v (counts k) ≡ op v (counts k) = chosen_both op v (counts k) (λ q. old w q) real in
        subst (Last Before (suc k) counts) (sym e)
        (inl (by-sum (C.picks v (counts k))
        (λ q. (w.0, omega (arith, w.1), w.2, q ∙ w.3, all w))
        (λ q. (k, le_refl (suc k), m, q, all w)))))
        (λ w. subst (Last Before (suc k) counts) (sym (chosen-second op v (counts k) w.1))
        (inl (
          k,
          le_refl (suc k),
          m,
          refl,
          λ r l h. by_eq r k (λ q. subst (λ (x : ℕ). Before (counts x) (counts k)) (sym q) (self (counts k))) (λ q. clash (w.0 r (omega arith)) h),
        )))
      where
        old : LastReading Before k counts v → v ≡ none → ⊥
        old w q = omega (arith, small w.0 (omega (arith, w.1)), w.3)

        all : LastReading Before k counts v → (r : ℕ) → r < suc k → is_missing (counts r) ≡ false → Before (counts r) (op v (counts k))
        all w r l h =
            by_eq r k
            (λ q. subst (λ (x : ℕ). Before (counts x) (op v (counts k))) (sym q) (right v (counts k)))
            (λ q. then (counts r) v (op v (counts k)) (w.4 r (omega arith) h) (left v (counts k)))

    more : Last Before (suc k) counts (chosen_of op v (cond (is_missing (counts k)) none (counts k)))
    more =
        by_bool (is_missing (counts k))
        (λ m. subst (Last Before (suc k) counts) (sym (ap (λ (b : Bool). chosen_of op v (cond b none (counts k))) m ∙ chosen-first op v none refl)) (kept m))
        (λ m. subst (Last Before (suc k) counts) (sym (ap (λ (b : Bool). chosen_of op v (cond b none (counts k))) m)) (chosen m))

  last : (k : ℕ) → ((s : ℕ) → s < k → counts s < 2 ^ 32) → Last Before k counts (fold_to (chosen_of op) none k (λ s. cond (is_missing (counts s)) none (counts s)))
  unfolding fold_to
  last zero small = inr (λ s l. absurd (not-suc-le-zero l), refl)
  last (suc k) small = more k _ (last k (λ s l. small s (omega arith))) small

-- the counts of k stations, in one class
module _ (way k : ℕ) (counts : ℕ → ℕ) (small : (s : ℕ) → s < k → counts s < 2 ^ 32) where
  -- what holds of the sums joined holds of the total's
  of_sums : (P : ℕ → Type 0) (w : ℕ) → way ≡ w → P (sum_to (joining_sums w) k (given_sum w (λ s. true) counts))
      → P (sum_to (joining_cells way) k (given way (λ s. true) counts)).sum
  of_sums P w e h =
      subst P (sym (sum-total way (λ s. true) counts k)) (subst (λ (x : ℕ). P (sum_to (joining_sums x) k (given_sum x (λ s. true) counts))) (sym e) h)

  pub reported : Reported way k counts (sum_to (joining_cells way) k (given way (λ s. true) counts))
  unfolding sum_joined empty_sum
  reported =
      record {
        missing = missing-total way (λ s. true) counts k;
        sums = λ e. of_sums (λ x. x ≡ sum k (λ s. cond (is_missing (counts s)) 0 (counts s))) 0 e refl;
        greatest_of = λ e. of_sums (Last (λ a b. a ≤ b) k counts) 1 e
            (last max choice-max (λ a b. a ≤ b) le_refl (λ x y z p q. omega arith) (λ x y. omega arith) (λ x y. omega arith) counts k small);
        least_of = λ e. of_sums (Last (λ a b. b ≤ a) k counts) 2 e
            (last min choice-min (λ a b. b ≤ a) le_refl (λ x y z p q. omega arith) (λ x y. omega arith) (λ x y. omega arith) counts k small);
        number = λ e. of_sums (λ x. x ≡ sum k (λ s. cond (is_missing (counts s)) 0 1)) 3 e refl;
      }
