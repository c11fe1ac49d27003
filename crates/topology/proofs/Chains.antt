-- Fewer than k links are enough: `near` at k finds exactly the stations that a chain joins to the root. A round that finds nothing
-- new is the last to find any, and each other round finds one station more of at most k. Assumes nothing.
use mathlib.Core.Path.{◌≡◌, refl, sym, ap₂, subst}
use mathlib.Core.Bool.{Bool, true, false, ◌&&◌}
use mathlib.Core.Logic.{◌⊎◌, inl, inr}
use Prim.Native.Nat.{ℕ, zero, suc, ◌<◌, ◌≤◌}
use native.Mathlib.Omega.{arith}
use lib.Dec.{eqb}
use borrow.Author.Tests.{eqb-true}
use Rattle.finite.proofs.Sums.{sum_lt, indicator-le, indicators_le}
use Rattle.finite.specs.Sum.{indicator}
use Rattle.finite.specs.Internal.Monoid.{addition, sum_to}
use Rattle.finite.proofs.Cases.{clash, by_bool, by-sum, and_both, or_cases, or_left, or_right, eqb_self, find}
use Rattle.finite.specs.Links.{Chain, here, link}
use Rattle.topology.specs.Acceptance.{any_below, near}
use Rattle.topology.proofs.Searches.{any_of, any_is}

-- links kept, chains kept
pub chain_map : (adj adj' : ℕ → ℕ → Bool) → ((i j : ℕ) → adj i j ≡ true → adj' i j ≡ true)
    → (root i : ℕ) → Chain adj root i → Chain adj' root i
chain_map adj adj' keep root i here = here
chain_map adj adj' keep root i (link {j = j} e c) = link (keep i j e) (chain_map adj adj' keep root j c)

-- where links are between stations below k, a chain from a station ends in one
pub chain_end : (adj : ℕ → ℕ → Bool) (root k : ℕ) → ((i j : ℕ) → adj i j ≡ true → j < k)
    → (i : ℕ) → i < k → Chain adj root i → root < k
chain_end adj root k within i l here = l
chain_end adj root k within i l (link {j = j} e c) = chain_end adj root k within j (within i j e) c

module _ (adj : ℕ → ℕ → Bool) (root k : ℕ) where
  -- the root is near
  near-root : (t : ℕ) → near adj root k (suc t) root ≡ true
  unfolding near
  near-root t = or_left (eqb root root) (any_below k (λ j. near adj root k t j && adj root j)) (eqb_self root)

  -- and so is who has a link to a station that is near
  near_link : (t i j : ℕ) → j < k → near adj root k t j ≡ true → adj i j ≡ true → near adj root k (suc t) i ≡ true
  unfolding near
  near_link t i j l e a =
      or_right (eqb i root) (any_below k (λ x. near adj root k t x && adj i x))
      (any_of k (λ x. near adj root k t x && adj i x) j l (ap₂ (λ (p q : Bool). p && q) e a))

  -- nobody else is
  near_cases : (t i : ℕ) → near adj root k (suc t) i ≡ true
      → (i ≡ root) ⊎ ((j : ℕ) × (j < k) × (near adj root k t j ≡ true) × (adj i j ≡ true))
  unfolding near
  near_cases t i e =
      by-sum (or_cases (eqb i root) (any_below k (λ j. near adj root k t j && adj i j)) e)
      (λ f. inl (eqb-true i root f))
      (λ f.
      let w = any_is k (λ j. near adj root k t j && adj i j) f in
      let b = and_both (near adj root k t w.0) (adj i w.0) w.2 in
      inr (w.0, w.1, b.0, b.1))

  not-near : (i : ℕ) → near adj root k 0 i ≡ false
  unfolding near
  not-near i = refl

  -- a chain joins whoever is near
  pub near_chain : (t i : ℕ) → near adj root k t i ≡ true → Chain adj root i
  near_chain zero i e = clash e (not-near i)
  near_chain (suc t) i e =
      by-sum (near_cases t i e)
      (λ q. subst (Chain adj root) (sym q) here)
      (λ w. link w.3 (near_chain t w.0 w.2))

  -- who is near by fewer than t links is by fewer than t + 1
  near_grows : (t i : ℕ) → near adj root k t i ≡ true → near adj root k (suc t) i ≡ true
  near_grows zero i e = clash e (not-near i)
  near_grows (suc t) i e =
      by-sum (near_cases t i e)
      (λ q. subst (λ (x : ℕ). near adj root k (suc (suc t)) x ≡ true) (sym q) (near-root (suc t)))
      (λ w. near_link (suc t) i w.0 w.1 (near_grows t w.0 w.2) w.3)

  -- one link more finds nobody new below k
  abbrev Still : ℕ → Type 0
  Still t = (i : ℕ) → i < k → near adj root k (suc t) i ≡ true → near adj root k t i ≡ true

  -- then nor does any further one
  still_on : (t : ℕ) → Still t → Still (suc t)
  still_on t still i l e =
      by-sum (near_cases (suc t) i e)
      (λ q. subst (λ (x : ℕ). near adj root k (suc t) x ≡ true) (sym q) (near-root t))
      (λ w. near_link t i w.0 w.1 (still w.0 w.1 w.2) w.3)

  -- how many are near
  abbrev found : ℕ → ℕ
  found t = sum_to addition k (λ i. indicator (near adj root k t i))

  new_or_still : (t : ℕ) → (found t < found (suc t)) ⊎ Still t
  unfolding indicator
  new_or_still t =
      by-sum
      (find k (λ i. (near adj root k (suc t) i ≡ true) × (near adj root k t i ≡ false))
      (λ i. near adj root k (suc t) i ≡ true → near adj root k t i ≡ true)
      (λ i. by_bool (near adj root k t i)
      (λ e. inr (λ _. e))
      (λ e. by_bool (near adj root k (suc t) i) (λ f. inl (f, e)) (λ f. inr (λ f'. clash f' f)))))
      (λ w. inl (sum_lt k w.0 _ _ w.1 (rw (w.2.0, w.2.1) (omega arith))
      (λ x l. indicator-le (near adj root k t x) (near adj root k (suc t) x) (near_grows t x))))
      (λ s. inr s)

  many_or_still : (t : ℕ) → (t ≤ found t) ⊎ Still t
  many_or_still zero = inl (omega arith)
  many_or_still (suc t) =
      by-sum (many_or_still t)
      (λ m. by-sum (new_or_still t) (λ n. inl (omega arith)) (λ s. inr (still_on t s)))
      (λ s. inr (still_on t s))

  -- at k: else more than k were found below k
  still_at-k : Still k
  still_at-k =
      by-sum (many_or_still k)
      (λ m. by-sum (new_or_still k) (λ n. absurd (omega (arith, indicators_le k (near adj root k (suc k))))) (λ s. s))
      (λ s. s)

  -- whoever a chain joins is near by fewer than k links, where links are between stations below k
  pub chain_near : ((i j : ℕ) → adj i j ≡ true → j < k) → (i : ℕ) → i < k → Chain adj root i → near adj root k k i ≡ true
  chain_near within i l here = still_at-k root l (near-root k)
  chain_near within i l (link {j = j} e c) =
      still_at-k i l (near_link k i j (within i j e) (chain_near within j (within i j e) c) e)
