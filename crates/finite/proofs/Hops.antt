-- Following parents: `leads` says what it is meant to say, whatever the parents are. Assumes nothing.
use mathlib.Core.Path.{◌≡◌, refl, ap, ◌∙◌}
use mathlib.Core.Bool.{Bool, true, false, ◌||◌}
use Prim.Native.Nat.{ℕ, zero, suc, ◌+◌, ◌<◌, ◌≤◌}
use native.Mathlib.Omega.{arith}
use lib.Dec.{eqb}
use borrow.Author.Tests.{eqb-true, eq-eqb}
use Rattle.finite.specs.Hops.{hop, leads}
use Rattle.finite.proofs.Cases.{by-sum, or_cases, or_left, or_right}

twice : (b : Bool) → (b || b) ≡ b
twice true = refl
twice false = refl

module _ (parent : ℕ → ℕ) where
  -- hops, and then more
  pub hop-add : (a b j : ℕ) → hop parent (a + b) j ≡ hop parent b (hop parent a j)
  unfolding hop
  hop-add zero b j = let e : 0 + b ≡ b = omega arith in ap (λ (n : ℕ). hop parent n j) e
  hop-add (suc a) b j =
      let e : suc a + b ≡ suc (a + b) = omega arith in
      ap (λ (n : ℕ). hop parent n j) e ∙ hop-add a b (parent j)

  pub leads-hop : (n j i : ℕ) → leads parent n j i ≡ true → (h : ℕ) × (h ≤ n) × (hop parent h j ≡ i)
  unfolding hop leads
  leads-hop zero j i e = (0, omega arith, eqb-true j i e)
  leads-hop (suc n) j i e =
      by-sum (or_cases (eqb j i) (leads parent n (parent j) i) e)
      (λ q. (0, omega arith, eqb-true j i q))
      (λ l. let w = leads-hop n (parent j) i l in (suc w.0, omega (arith, w.1), w.2))

  pub hop-leads : (n h j i : ℕ) → h ≤ n → hop parent h j ≡ i → leads parent n j i ≡ true
  unfolding hop leads
  hop-leads zero zero j i l e = eq-eqb j i e
  hop-leads zero (suc h) j i l e = absurd (omega arith)
  hop-leads (suc n) zero j i l e = or_left (eqb j i) (leads parent n (parent j) i) (eq-eqb j i e)
  hop-leads (suc n) (suc h) j i l e = or_right (eqb j i) (leads parent n (parent j) i) (hop-leads n h (parent j) i (omega arith) e)

  -- where a station is its own parent, hops from it lead nowhere else
  pub hop_stays : (h r : ℕ) → parent r ≡ r → hop parent h r ≡ r
  unfolding hop
  hop_stays zero r e = refl
  hop_stays (suc h) r e = ap (hop parent h) e ∙ hop_stays h r e

  pub leads_stays : (n r i : ℕ) → parent r ≡ r → leads parent n r i ≡ eqb r i
  unfolding leads
  leads_stays zero r i e = refl
  leads_stays (suc n) r i e =
      ap (λ (b : Bool). eqb r i || b) (ap (λ (x : ℕ). leads parent n x i) e ∙ leads_stays n r i e) ∙ twice (eqb r i)

-- parents that agree below k, and stay there, lead alike
module _ (k : ℕ) (p q : ℕ → ℕ) (agree : (i : ℕ) → i < k → p i ≡ q i) (stay : (i : ℕ) → i < k → q i < k) where
  pub hop_alike : (h j : ℕ) → j < k → hop p h j ≡ hop q h j
  unfolding hop
  hop_alike zero j l = refl
  hop_alike (suc h) j l = ap (hop p h) (agree j l) ∙ hop_alike h (q j) (stay j l)

  pub leads_alike : (n j i : ℕ) → j < k → leads p n j i ≡ leads q n j i
  unfolding leads
  leads_alike zero j i l = refl
  leads_alike (suc n) j i l =
      ap (λ (b : Bool). eqb j i || b) (ap (λ (x : ℕ). leads p n x i) (agree j l) ∙ leads_alike n (q j) i (stay j l))
