-- What lasts while the wave runs: the parent of a station that is awake, and what a station that has heard all holds.
-- And a list of moves, taken apart at one of them. Assumes nothing.
use mathlib.Core.Path.{◌≡◌, refl, sym, ap, ap₂, ◌∙◌}
use mathlib.Core.Bool.{Bool, true, false}
use mathlib.Core.List.{List, [], ◌∷◌, ◌++◌, map}
use Prim.Native.Nat.{ℕ, ◌+◌}
use native.Mathlib.Omega.{arith}
use lib.Dec.{eqb}
use borrow.Author.Tests.{eqb-true, ne_eqb}
use Rattle.finite.specs.Sum.{indicator}
use Rattle.finite.specs.Internal.Monoid.{CommMonoid}
use Rattle.finite.proofs.Cases.{clash, by_bool, and_both}
use Rattle.wave.specs.Internal.Graph.{Graph}
use Rattle.wave.specs.Internal.Wave.{Step, message, report, State, next, Heard, Weak}
use Rattle.wave.specs.Internal.Claim.{same, times, Runs, reached}
use Rattle.wave.proofs.Invariant.{Inv, carried_old, awake_old, parent_old}
use Rattle.wave.proofs.Gathering.{keep}

module _ {A : Type 0} (g : Graph) (M : CommMonoid A) (counts : ℕ → A) where
  -- once a station is awake, its parent never changes
  pub parent_lasts : (S : State A) (ss : List Step) (x : ℕ) → Inv g M counts S → Runs (Weak g) (next g M) S ss → S.awake x ≡ true
      → (reached (next g M) S ss).parent x ≡ S.parent x
  parent_lasts S [] x I l up = refl
  parent_lasts S (message i j ∷ ss) x I l up =
      parent_lasts (next g M S (message i j)) ss x (keep g M counts S (message i j) I l.0) l.1 (awake_old g M counts S I i j l.0 x up)
      ∙ parent_old g M counts S I i j l.0 x up
  parent_lasts S (report ∷ ss) x I l up = parent_lasts (next g M S report) ss x (keep g M counts S report I l.0) l.1 up

  -- once it has heard from all its neighbours, what it holds never changes
  pub value_lasts : (S : State A) (ss : List Step) (x : ℕ) → Inv g M counts S → Runs (Weak g) (next g M) S ss → Heard g S x
      → (reached (next g M) S ss).value x ≡ S.value x
  value_lasts S [] x I l h = refl
  value_lasts S (message i j ∷ ss) x I l h =
      let w = l.0 in
      let other : eqb x j ≡ false = ne_eqb x j (λ q. clash (ap (S.carried i) (sym q) ∙ h i (ap (g.adj i) q ∙ w.adjacent)) w.unsent) in
      value_lasts (next g M S (message i j)) ss x (keep g M counts S (message i j) I w) l.1 (λ y a. carried_old g M counts S I i j w y x (h y a))
      ∙ (rw other)
  value_lasts S (report ∷ ss) x I l h = value_lasts (next g M S report) ss x (keep g M counts S report I l.0) l.1 h

-- a list of moves and then another
pub reached_then : {Net Move : Type 0} (make : Net → Move → Net) (n : Net) (front back : List Move)
    → reached make n (front ++ back) ≡ reached make (reached make n front) back
reached_then make n [] back = refl
reached_then make n (m ∷ front) back = reached_then make (make n m) front back

pub runs_then : {Net Move : Type 0} (Allowed : Net → Move → Type 0) (make : Net → Move → Net) (n : Net) (front back : List Move)
    → Runs Allowed make n (front ++ back) → Runs Allowed make n front × Runs Allowed make (reached make n front) back
runs_then Allowed make n [] back r = (tt, r)
runs_then Allowed make n (m ∷ front) back r = let p = runs_then Allowed make (make n m) front back r.1 in ((r.0, p.0), p.1)

-- the same step is that step
same-is : (s t : Step) → same s t ≡ true → t ≡ s
same-is (message a b) (message i j) e =
    let p = and_both (eqb a i) (eqb b j) e in
    sym (ap₂ message (eqb-true a i p.0) (eqb-true b j p.1))
same-is (message a b) report e = clash e refl
same-is report (message i j) e = clash e refl
same-is report report e = refl

-- a step that stands in the list is found there
pub found : {Move : Type 0} (label : Move → Step) (s : Step) (ms : List Move) → times s (map label ms) ≡ 1
    → (front : List Move) × (m : Move) × (back : List Move) × (ms ≡ front ++ (m ∷ back)) × (label m ≡ s)
unfolding indicator
found label s [] e = absurd (omega arith)
found {Move = Move} label s (m ∷ ms) e =
    by_bool (same s (label m))
    (λ t. ([], m, ms, refl, same-is s (label m) t))
    (λ f.
    let w = found label s ms (rest (same s (label m)) (times s (map label ms)) f e) in
    (m ∷ w.0, w.1, w.2, ap (λ (l : List Move). m ∷ l) w.3, w.4))
  where
    rest : (b : Bool) (n : ℕ) → b ≡ false → indicator b + n ≡ 1 → n ≡ 1
    rest true n f e = clash refl f
    rest false n f e = omega arith
