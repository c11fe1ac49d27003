-- Readings joined over stations, class by class: of every way, and bounded, as the readings of some of the stations are. Assumes nothing.
use mathlib.Core.Path.{◌≡◌, refl, ap, ◌∙◌}
use mathlib.Core.Bool.{Bool, true, cond}
use mathlib.Core.Logic.{◌⊎◌, inl, inr}
use Prim.Native.Nat.{ℕ, zero, suc, ◌+◌, ◌*◌, ◌^◌, ◌<◌, ◌≤◌, min, max}
use native.Mathlib.Omega.{arith}
use lib.Dec.{eqb}
use lib.ListN.{get_or}
use Rattle.finite.specs.Sum.{fold_to, sum}
use Rattle.finite.specs.Internal.Monoid.{sum_to}
use Rattle.finite.proofs.Cases.{by_bool, by_eq, by-sum}
use Rattle.finite.proofs.Sums.{sum_ext, sum-at}
use Rattle.finite.proofs.Below.{all_below_lem}
use Rattle.aggregate.specs.declared.Config.{Config}
use Rattle.aggregate.specs.declared.Reading.{Reading}
use Rattle.aggregate.specs.declared.Cell.{Cell}
use Rattle.aggregate.specs.declared.Aggregate.{Aggregate}
use Rattle.aggregate.specs.Ways.{counting, none, has_none, chosen_of, sum_joined, empty_sum, read_sum}
use Rattle.aggregate.specs.Aggregate.{used, sum_bounded, cell_bounded, bounded, is_missing, cell_gathered, gathered, cell_joined, empty_cell}
use Rattle.aggregate.specs.Internal.Joining.{cells}
use Rattle.aggregate.proofs.Joining.{by_way, Choice, choice-max, choice-min, chosen_both, chosen-first, chosen-second, joining_sums, joining_cells, joining}
use Rattle.aggregate.proofs.Laws.{parts_bounded, small_bounded, none_allowed, cells-gathered, bounded-cells}

-- one class of some of k stations, by their counts
module _ (way : ℕ) (chosen : ℕ → Bool) (counts : ℕ → ℕ) where
  -- what each gives
  abbrev pub given : ℕ → Cell
  given s = cond (chosen s) (cell_gathered way (counts s)) (empty_cell way)

  abbrev pub given_sum : ℕ → ℕ
  given_sum s = cond (chosen s) (cond (is_missing (counts s)) (empty_sum way) (read_sum way (counts s))) (empty_sum way)

  abbrev pub given_missing : ℕ → ℕ
  given_missing s = cond (chosen s) (cond (is_missing (counts s)) 1 0) 0

  given_sum_lem : (s : ℕ) → (given s).sum ≡ given_sum s
  unfolding cell_gathered
  given_sum_lem s = by_bool (chosen s) (λ e. rw e (by_bool (is_missing (counts s)) (λ f. rw f) (λ f. rw f))) (λ e. rw e)

  given_missing_lem : (s : ℕ) → (given s).missing ≡ given_missing s
  unfolding cell_gathered
  given_missing_lem s = by_bool (chosen s) (λ e. rw e (by_bool (is_missing (counts s)) (λ f. rw f) (λ f. rw f))) (λ e. rw e)

  -- sums are joined, missing numbers added
  pub sum-total : (k : ℕ) → (sum_to (joining_cells way) k given).sum ≡ sum_to (joining_sums way) k given_sum
  unfolding fold_to cell_joined
  sum-total zero = refl
  sum-total (suc k) =
      ap (λ (n : ℕ). sum_joined way n (given k).sum) (sum-total k) ∙ ap (sum_joined way (sum_to (joining_sums way) k given_sum)) (given_sum_lem k)

  pub missing-total : (k : ℕ) → (sum_to (joining_cells way) k given).missing ≡ sum k given_missing
  unfolding fold_to cell_joined
  missing-total zero = refl
  missing-total (suc k) =
      ap (λ (n : ℕ). n + (given k).missing) (missing-total k) ∙ ap (λ (n : ℕ). sum k given_missing + n) (given_missing_lem k)

  -- at most k readings are missing
  missing_most : (k : ℕ) → sum k given_missing ≤ k
  unfolding fold_to
  missing_most zero = omega arith
  missing_most (suc k) =
      let one : given_missing k ≤ 1 =
      by_bool (chosen k) (λ e. rw e (by_bool (is_missing (counts k)) (λ f. rw f (omega arith)) (λ f. rw f (omega arith)))) (λ e. rw e (omega arith)) in
      omega (arith, missing_most k, one)

  -- what one station gives is at most 2^32, or that of no reading
  given_small : (s : ℕ) → counts s < 2 ^ 32 → (given_sum s ≤ 2 ^ 32) ⊎ (given_sum s ≡ empty_sum way)
  given_small s l =
      by_bool (chosen s)
      (λ e. rw e
      (by_bool (is_missing (counts s)) (λ f. rw f (inr refl))
      (λ f. rw f (inl (by_bool (eqb way counting) (λ g. rw g (omega arith)) (λ g. rw g (omega arith)))))))
      (λ e. rw e (inr refl))

-- a choice of numbers that are none or at most n, among these
choice_kept : (op : ℕ → ℕ → ℕ) → Choice op → (n x y : ℕ) → (x ≤ n) ⊎ (x ≡ none) → (y ≤ n) ⊎ (y ≡ none)
    → (chosen_of op x y ≤ n) ⊎ (chosen_of op x y ≡ none)
choice_kept op C n x y hx hy =
    by_eq x none
    (λ q. rw (chosen-second op x y q) hy)
    (λ nx. by_eq y none
    (λ q. rw (chosen-first op x y q) hx)
    (λ ny. rw (chosen_both op x y nx ny) (by-sum (C.picks x y) (λ q. rw q hx) (λ q. rw q hy))))

-- so the joining of k of them is at most k times as much, or that of no reading
sum_most : (way n : ℕ) (f : ℕ → ℕ) (k : ℕ) → ((s : ℕ) → s < k → (f s ≤ n) ⊎ (f s ≡ empty_sum way))
    → (sum_to (joining_sums way) k f ≤ k * n) ⊎ (sum_to (joining_sums way) k f ≡ empty_sum way)
unfolding fold_to
sum_most way n f zero small = inr refl
sum_most way n f (suc k) small =
    by_way (λ op e. (x y : ℕ) → (x ≤ k * n) ⊎ (x ≡ e) → (y ≤ n) ⊎ (y ≡ e) → (op x y ≤ suc k * n) ⊎ (op x y ≡ e))
    (picked max choice-max) (picked min choice-min)
    (λ x y hx hy. inl (by-sum hx (λ a. by-sum hy (λ b. omega (arith, a, b)) (λ b. omega (arith, a, b))) (λ a. by-sum hy (λ b. omega (arith, a, b)) (λ b. omega (arith, a, b)))))
    way _ _ (sum_most way n f k (λ s l. small s (omega arith))) (small k (omega arith))
  where
    more : (x m : ℕ) → m ≤ suc k * n → (x ≤ m) ⊎ (x ≡ none) → (x ≤ suc k * n) ⊎ (x ≡ none)
    more x m l h = by-sum h (λ a. inl (omega (arith, a, l))) (λ a. inr a)

    picked : (op : ℕ → ℕ → ℕ) → Choice op → (x y : ℕ) → (x ≤ k * n) ⊎ (x ≡ none) → (y ≤ n) ⊎ (y ≡ none) → (chosen_of op x y ≤ suc k * n) ⊎ (chosen_of op x y ≡ none)
    picked op C x y hx hy = choice_kept op C (suc k * n) x y (more x (k * n) (omega arith) hx) (more y n (omega arith) hy)

-- the sum of no reading is bounded
empty_bounded : (way : ℕ) → sum_bounded way (empty_sum way) ≡ true
unfolding empty_sum
empty_bounded way = by_bool (has_none way) (λ e. rw e (none_allowed way e)) (λ e. rw e (small_bounded way 0 (omega arith)))

module _ (t : Config) (k : ℕ) (readings : ℕ → Reading) where
  -- one class of the total of what each station that passes a test gathers by itself
  pub class_total : (chosen : ℕ → Bool) (i : ℕ) → i < used t
      → sum_to (joining t.way) k (λ s. cond (chosen s) (cells t (gathered t (readings s))) (joining t.way).unit) i
      ≡ sum_to (joining_cells t.way) k (given t.way chosen (λ s. get_or (readings s).counts i 0))
  class_total chosen i l =
      sum-at (joining_cells t.way) k _ i
      ∙ sum_ext (joining_cells t.way) k _ _ (λ s m. by_bool (chosen s) (λ e. rw e (cells-gathered t (readings s) i l)) (λ e. rw e))

  -- what joins the readings of some stations is bounded
  pub some-bounded : k ≤ 64 → ((s i : ℕ) → s < k → i < used t → get_or (readings s).counts i 0 < 2 ^ 32) → (a : Aggregate) (chosen : ℕ → Bool)
      → cells t a ≡ sum_to (joining t.way) k (λ s. cond (chosen s) (cells t (gathered t (readings s))) (joining t.way).unit) → bounded t a ≡ true
  some-bounded few small a chosen e =
      bounded-cells t a
      ∙ all_below_lem (λ i. cell_bounded t.way (cells t a i)) (used t)
      (λ i l.
      let counts : ℕ → ℕ = λ s. get_or (readings s).counts i 0 in
      let here = ap (λ (f : ℕ → Cell). f i) e ∙ class_total chosen i l in
      let sums : (cells t a i).sum ≡ sum_to (joining_sums t.way) k (given_sum t.way chosen counts) = ap (λ (x : Cell). x.sum) here ∙ sum-total t.way chosen counts k in
      let missing = ap (λ (x : Cell). x.missing) here ∙ missing-total t.way chosen counts k in
      parts_bounded t.way (cells t a i)
      (by-sum (sum_most t.way (2 ^ 32) (given_sum t.way chosen counts) k (λ s m. given_small t.way chosen counts s (small s i m l)))
      (λ b. small_bounded t.way (cells t a i).sum (omega (arith, sums, b)))
      (λ q. ap (sum_bounded t.way) (sums ∙ q) ∙ empty_bounded t.way))
      (omega (arith, missing, missing_most t.way chosen counts k)))
