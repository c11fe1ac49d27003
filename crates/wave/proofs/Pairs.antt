-- How many ordered pairs of stations pass a test: one more for each message carried, twice the links where all are. Assumes nothing.
use mathlib.Core.Path.{◌≡◌, refl, ap}
use mathlib.Core.Bool.{Bool, true, false}
use Prim.Native.Nat.{ℕ, zero, suc, ◌*◌, ◌<◌, ◌≤◌}
use native.Mathlib.Omega.{arith}
use Rattle.finite.specs.Sum.{fold_to, indicator}
use Rattle.finite.specs.Internal.Monoid.{addition, sum_to}
use Rattle.finite.proofs.Sums.{sum_ext, sum-le, sum_unit, sum_bump, sum-join, indicator-le}
use Rattle.finite.specs.Links.{links}

-- how many ordered pairs of numbers below k pass a test
unfoldable pub pairs : ℕ → (ℕ → ℕ → Bool) → ℕ
pairs k p = sum_to addition k (λ i. sum_to addition k (λ j. indicator (p i j)))

pub pairs-none : (k : ℕ) → pairs k (λ i j. false) ≡ 0
unfolding pairs indicator
pairs-none k = sum_unit addition k _ (λ i l. sum_unit addition k _ (λ j m. refl))

pub pairs-le : (k : ℕ) (p q : ℕ → ℕ → Bool) → ((i j : ℕ) → p i j ≡ true → q i j ≡ true) → pairs k p ≤ pairs k q
unfolding pairs
pairs-le k p q h = sum-le k _ _ (λ i l. sum-le k _ _ (λ j m. indicator-le (p i j) (q i j) (h i j)))

-- one more pair passes
pub pairs_bump : (k i j : ℕ) (p q : ℕ → ℕ → Bool) → i < k → j < k → p i j ≡ false → q i j ≡ true
    → ((a b : ℕ) → (a ≡ i → b ≡ j → ⊥) → q a b ≡ p a b) → pairs k q ≡ suc (pairs k p)
unfolding pairs indicator
pairs_bump k i j p q hi hj f t o =
    sum_bump k i _ _ hi
    (sum_bump k j _ _ hj (rw (f, t)) (λ b n. ap indicator (o i b (λ _ e. n e))))
    (λ a n. sum_ext addition k _ _ (λ b l. ap indicator (o a b (λ e _. n e))))

-- a mutual relation that no number has to itself has two ordered pairs for each link
pub pairs-links : (k : ℕ) (p : ℕ → ℕ → Bool) → ((i j : ℕ) → p i j ≡ p j i) → ((i : ℕ) → p i i ≡ false)
    → pairs k p ≡ 2 * links k p
unfolding pairs links fold_to indicator
pairs-links zero p s n = refl
pairs-links (suc k) p s n =
    let same : sum_to addition k (λ i. indicator (p i k)) ≡ sum_to addition k (λ j. indicator (p k j)) = sum_ext addition k _ _ (λ i l. ap indicator (s i k)) in
    omega (arith, pairs-links k p s n, sum-join addition k (λ i. sum_to addition k (λ j. indicator (p i j))) (λ i. indicator (p i k)), ap indicator (n k))
