-- Searches below a bound: whether some station passes a test, and the first that does. Each law goes by recursion on the bound.
-- Assumes nothing.
use mathlib.Core.Path.{◌≡◌, refl, sym, ap, ◌∙◌}
use mathlib.Core.Bool.{Bool, true, false}
use Prim.Native.Nat.{ℕ, zero, suc, ◌+◌, ◌-◌, ◌<◌, ◌≤◌}
use native.Mathlib.Nat.{not-suc-le-zero}
use native.Mathlib.Numerals.{add-one}
use native.Mathlib.Omega.{arith}
use Rattle.finite.proofs.Cases.{clash, by_bool, by_eq, by-sum, or_cases, or_left, or_right}
use Rattle.topology.specs.Acceptance.{any_below, first_from, lowest}

-- one that passes is found, and what is found passes
pub any_of : (k : ℕ) (p : ℕ → Bool) (i : ℕ) → i < k → p i ≡ true → any_below k p ≡ true
unfolding any_below
any_of zero p i l e = absurd (not-suc-le-zero l)
any_of (suc k) p i l e =
    by_eq i k
    (λ q. or_right (any_below k p) (p k) (ap p (sym q) ∙ e))
    (λ n. or_left (any_below k p) (p k) (any_of k p i (omega arith) e))

pub any_is : (k : ℕ) (p : ℕ → Bool) → any_below k p ≡ true → (i : ℕ) × (i < k) × (p i ≡ true)
unfolding any_below
any_is zero p e = clash e refl
any_is (suc k) p e =
    by-sum (or_cases (any_below k p) (p k) e)
    (λ f. let w = any_is k p f in (w.0, omega (arith, w.1), w.2))
    (λ f. (k, omega arith, f))

pub any_none : (k : ℕ) (p : ℕ → Bool) → ((i : ℕ) → i < k → p i ≡ false) → any_below k p ≡ false
unfolding any_below
any_none zero p h = refl
any_none (suc k) p h = rw (any_none k p (λ i l. h i (omega arith)), h k (omega arith))

pub any_ext : (k : ℕ) (p q : ℕ → Bool) → ((i : ℕ) → i < k → p i ≡ q i) → any_below k p ≡ any_below k q
unfolding any_below
any_ext zero p q h = refl
any_ext (suc k) p q h = rw (any_ext k p q (λ i l. h i (omega arith)), h k (omega arith))

-- the first from i on: it is i, or the first from i + 1 on
pub first-here : (p : ℕ → Bool) (i k : ℕ) → i < k → p i ≡ true → first_from p i (k - i) ≡ i
unfolding first_from
first-here p i k l e = let n : k - i ≡ suc (k - (i + 1)) = omega arith in rw (n, e)

pub first-later : (p : ℕ → Bool) (i k : ℕ) → i < k → p i ≡ false → first_from p i (k - i) ≡ first_from p (i + 1) (k - (i + 1))
unfolding first_from
first-later p i k l e = let n : k - i ≡ suc (k - (i + 1)) = omega arith in rw (n, e, add-one)

pub first-end : (p : ℕ → Bool) (k : ℕ) → first_from p k (k - k) ≡ k
unfolding first_from
first-end p k = let n : k - k ≡ 0 = omega arith in rw n

-- none passes where the first is past the end, and the first is past the end where none passes
first-none : (p : ℕ → Bool) (n i : ℕ) → i + n ≤ first_from p i n → (x : ℕ) → i ≤ x → x < i + n → p x ≡ false
unfolding first_from
first-none p zero i far x low high = absurd (omega arith)
first-none p (suc n) i far x low high =
    by_bool (p i)
    (λ t. absurd (omega (arith, rw t at far)))
    (λ f. by_eq x i (λ e. ap p e ∙ f) (λ ne. first-none p n (suc i) (omega (arith, rw f at far)) x (omega arith) (omega arith)))

past_end : (p : ℕ → Bool) (n i : ℕ) → ((x : ℕ) → i ≤ x → x < i + n → p x ≡ false) → first_from p i n ≡ i + n
unfolding first_from
past_end p zero i none = omega arith
past_end p (suc n) i none =
    rw (none i (omega arith) (omega arith)) (past_end p n (suc i) (λ x low high. none x (omega arith) (omega arith)) ∙ omega arith)

pub lowest-none : (k : ℕ) (p : ℕ → Bool) → k ≤ lowest k p → (i : ℕ) → i < k → p i ≡ false
lowest-none k p far i l = first-none p k 0 (omega arith) i (omega arith) (omega arith)

pub none-lowest : (k : ℕ) (p : ℕ → Bool) → ((i : ℕ) → i < k → p i ≡ false) → k ≤ lowest k p
none-lowest k p none = omega (arith, past_end p k 0 (λ x low high. none x (omega arith)))
