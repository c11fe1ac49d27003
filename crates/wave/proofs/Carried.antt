-- One more pair, (i, j), is carried: what that says of any pair (a, b). Assumes nothing.
use mathlib.Core.Path.{◌≡◌, refl}
use mathlib.Core.Bool.{Bool, true, false, ◌&&◌, ◌||◌}
use mathlib.Core.Logic.{◌⊎◌, inl, inr}
use Prim.Native.Nat.{ℕ}
use lib.Dec.{eqb}
use borrow.Author.Tests.{eqb-true}
use Rattle.finite.proofs.Cases.{clash, by_bool, by-sum, and_both, or_cases, or_right, eqb_self}

pub carried_cases : (i j a b : ℕ) (c : Bool) → (eqb a i && eqb b j || c) ≡ true → ((a ≡ i) × (b ≡ j)) ⊎ (c ≡ true)
carried_cases i j a b c e =
    by-sum (or_cases (eqb a i && eqb b j) c e)
    (λ h. let p = and_both (eqb a i) (eqb b j) h in inl (eqb-true a i p.0, eqb-true b j p.1))
    (λ d. inr d)

pub carried_new : (i j : ℕ) (c : Bool) → (eqb i i && eqb j j || c) ≡ true
carried_new i j c = rw (eqb_self i, eqb_self j)

pub carried_other : (i j a b : ℕ) (c : Bool) → (a ≡ i → b ≡ j → ⊥) → (eqb a i && eqb b j || c) ≡ c
carried_other i j a b true n = or_right (eqb a i && eqb b j) true refl
carried_other i j a b false n =
    by_bool (eqb a i && eqb b j || false)
    (λ e. by-sum (carried_cases i j a b false e) (λ p. absurd (n p.0 p.1)) (λ d. clash d refl))
    (λ e. e)
