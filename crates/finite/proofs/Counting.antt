-- How many numbers below k pass a test. Assumes nothing.
use mathlib.Core.Path.{◌≡◌, refl, ap}
use mathlib.Core.Bool.{Bool, true, false, ◌||◌}
use Prim.Native.Nat.{ℕ, zero, suc, ◌<◌, ◌≤◌}
use native.Mathlib.Omega.{arith}
use lib.Dec.{eqb}
use borrow.Author.Tests.{ne_eqb}
use Rattle.finite.specs.Sum.{fold_to, indicator}
use Rattle.finite.specs.Internal.Monoid.{addition, sum_to}
use Rattle.finite.proofs.Cases.{eqb_self}
use Rattle.finite.proofs.Sums.{sum_bump, indicators_le}

abbrev pub count_of : ℕ → (ℕ → Bool) → ℕ
count_of k p = sum_to addition k (λ x. indicator (p x))

pub count_all : (k : ℕ) (p : ℕ → Bool) → ((x : ℕ) → x < k → p x ≡ true) → count_of k p ≡ k
unfolding fold_to indicator
count_all zero p h = refl
count_all (suc k) p h =
    let one : indicator (p k) ≡ 1 = ap indicator (h k (omega arith)) in
    omega (arith, count_all k p (λ x l. h x (omega arith)), one)

-- one more passes
pub count_more : (k x : ℕ) (p : ℕ → Bool) → x < k → p x ≡ false → count_of k (λ y. eqb y x || p y) ≡ suc (count_of k p)
unfolding indicator
count_more k x p l f =
    sum_bump k x (λ y. indicator (p y)) (λ y. indicator (eqb y x || p y)) l
    (let new : indicator (eqb x x || p x) ≡ 1 = rw (eqb_self x) in
    let old : indicator (p x) ≡ 0 = ap indicator f in
    omega (arith, new, old))
    (λ y n. rw (ne_eqb y x n))

-- where one does not pass, not all do
pub count_less : (k x : ℕ) (p : ℕ → Bool) → x < k → p x ≡ false → suc (count_of k p) ≤ k
count_less k x p l f = omega (arith, count_more k x p l f, indicators_le k (λ y. eqb y x || p y))
