-- Laws of tests and tables below a bound: what each says of one number, and how a loop goes on from i to i + 1. Assumes nothing.
use mathlib.Core.Path.{◌≡◌, refl, sym, ap, ap₂, ◌∙◌}
use mathlib.Core.Bool.{Bool, true, false, ◌&&◌, cond, and-true}
use mathlib.Core.List.{List, [], ◌∷◌, ◌++◌}
use Prim.Native.Nat.{ℕ, zero, suc, ◌+◌, ◌<◌, ◌≤◌}
use native.Mathlib.Nat.{not-suc-le-zero, le_of_eq, add-zero}
use native.Mathlib.Numerals.{add-one}
use native.Mathlib.Omega.{arith}
use lib.Dec.{ltb}
use lib.ListN.{length, get_or, take, set, length-append, length-set, get_or-append}
use lib.Seq.{get_or-append-add, take-suc-set, take_all, get_or-set_same, get_or-set_other, ext_get_or}
use borrow.Author.Tests.{ltb-true, ltb-false}
use Rattle.std.proofs.Math.Bool.{and_assoc}
use Rattle.std.specs.List.{range_with_len, list_all}
use Rattle.finite.specs.Below.{all_below, each, tabulate}
use Rattle.finite.proofs.Cases.{clash, by_bool, by_eq, and_both}

module _ (p : ℕ → Bool) where
  pub all_below_lem : (n : ℕ) → ((i : ℕ) → i < n → p i ≡ true) → all_below n p ≡ true
  unfolding all_below
  all_below_lem zero h = refl
  all_below_lem (suc n) h = ap₂ (λ (a b : Bool). a && b) (all_below_lem n (λ i l. h i (omega arith))) (h n (omega arith))

  pub all_below-at : (n i : ℕ) → all_below n p ≡ true → i < n → p i ≡ true
  unfolding all_below
  all_below-at zero i h l = absurd (not-suc-le-zero l)
  all_below-at (suc n) i h l =
      let b = and_both (all_below n p) (p n) h in
      by_eq i n (λ q. ap p q ∙ b.1) (λ q. all_below-at n i b.0 (omega arith))

  -- one number that fails decides
  pub all_below_fails : (n i : ℕ) → i < n → p i ≡ false → all_below n p ≡ false
  all_below_fails n i l f = by_bool (all_below n p) (λ t. clash (all_below-at n i t l) f) (λ g. g)

  -- where every other number passes, one decides
  pub all_below-one : (n i : ℕ) → i < n → ((j : ℕ) → j < n → (j ≡ i → ⊥) → p j ≡ true) → all_below n p ≡ p i
  all_below-one n i l others =
      by_bool (p i)
      (λ t. all_below_lem n (λ j m. by_eq j i (λ q. ap p q ∙ t) (λ q. others j m q)) ∙ sym t)
      (λ f. all_below_fails n i l f ∙ sym f)

  -- a loop that accumulates the test
  pub all_below_more : (i : ℕ) → all_below (i + 1) p ≡ (all_below i p && p i)
  unfolding all_below
  all_below_more i = rw (add-one i)

module _ {A : Type 0} (f : ℕ → A) where
  pub length-tabulate : (n : ℕ) → length (tabulate n f) ≡ n
  unfolding tabulate each
  length-tabulate zero = refl
  length-tabulate (suc n) = length-append (tabulate n f) (f n ∷ []) ∙ omega (arith, length-tabulate n)

  pub get_d_tabulate : (n i : ℕ) (d : A) → i < n → get_or (tabulate n f) i d ≡ f i
  unfolding tabulate each
  get_d_tabulate zero i d l = absurd (not-suc-le-zero l)
  get_d_tabulate (suc n) i d l =
      by_eq i n
      (λ q.
      let e : i ≡ length (tabulate n f) + 0 = omega (arith, length-tabulate n) in
      ap (λ (x : ℕ). get_or (tabulate n f ++ (f n ∷ [])) x d) e
      ∙ get_or-append-add (tabulate n f) (f n ∷ []) 0 d
      ∙ ap f (sym q))
      (λ m.
      get_or-append (tabulate n f) (f n ∷ []) d i (omega (arith, length-tabulate n))
      ∙ get_d_tabulate n i d (omega arith))

  module _ (l : List A) where
    -- a loop that stores f i at i has the first i places of the table
    pub tabulate_more : (i : ℕ) (v : A) → i < length l → take i l ≡ tabulate i f → v ≡ f i → take (i + 1) (set l i v) ≡ tabulate (i + 1) f
    unfolding tabulate each
    tabulate_more i v h e w = rw (add-one, take-suc-set l i v h, e, w)

    pub tabulate-all : (i n : ℕ) → i ≡ n → length l ≡ n → take i l ≡ tabulate i f → l ≡ tabulate n f
    tabulate-all i n s h e = sym (take_all n l (le_of_eq h)) ∙ rw s at e

-- l with f 0, f 1, .., f (n − 1) in its first n places
unfoldable pub stored : {A : Type 0} → List A → ℕ → (ℕ → A) → List A
stored l zero f = l
stored l (suc n) f = set (stored l n f) n (f n)

module _ {A : Type 0} (f : ℕ → A) (l : List A) where
  -- a loop that stores f i at i goes on
  pub stored_more : (i : ℕ) (m : List A) (v : A) → m ≡ stored l i f → v ≡ f i → set m i v ≡ stored l (i + 1) f
  unfolding stored
  stored_more i m v e w = rw (add-one i, e, w)

  length-stored : (n : ℕ) → length (stored l n f) ≡ length l
  unfolding stored
  length-stored zero = refl
  length-stored (suc n) = length-set (stored l n f) n (f n) ∙ length-stored n

  get_d_stored-new : (n i : ℕ) (d : A) → i < length l → i < n → get_or (stored l n f) i d ≡ f i
  unfolding stored
  get_d_stored-new zero i d h m = absurd (not-suc-le-zero m)
  get_d_stored-new (suc n) i d h m =
      by_eq i n
      (λ q. rw q (get_or-set_same (stored l n f) n (f n) d (omega (arith, length-stored n))))
      (λ q. get_or-set_other (stored l n f) n i (f n) d q ∙ get_d_stored-new n i d h (omega arith))

  get_d_stored-old : (n i : ℕ) (d : A) → n ≤ i → get_or (stored l n f) i d ≡ get_or l i d
  unfolding stored
  get_d_stored-old zero i d m = refl
  get_d_stored-old (suc n) i d m =
      get_or-set_other (stored l n f) n i (f n) d (λ q. omega arith) ∙ get_d_stored-old n i d (omega arith)

  -- so a list of n places, the first c of them stored, is a table
  pub stored-table : (n c : ℕ) (d : A) → length l ≡ n → stored l c f ≡ tabulate n (λ i. cond (ltb i c) (f i) (get_or l i d))
  stored-table n c d h =
      let g : ℕ → A = λ i. cond (ltb i c) (f i) (get_or l i d) in
      let same : length (stored l c f) ≡ length (tabulate n g) = length-stored c ∙ h ∙ sym (length-tabulate g n) in
      ext_get_or d (stored l c f) (tabulate n g) same
      (λ i m.
      let low : i < n = omega (arith, length-stored c) in
      let at : i < length l = omega (arith, low) in
      by_bool (ltb i c)
      (λ t. get_d_stored-new c i d at (ltb-true i c t) ∙ sym (get_d_tabulate g n i d low ∙ rw t))
      (λ t. get_d_stored-old c i d (ltb-false i c t) ∙ sym (get_d_tabulate g n i d low ∙ rw t)))

-- tables of what is equal below their length are equal
pub tabulate_ext : {A : Type 0} (n : ℕ) (f g : ℕ → A) → ((i : ℕ) → i < n → f i ≡ g i) → tabulate n f ≡ tabulate n g
unfolding tabulate each
tabulate_ext zero f g h = refl
tabulate_ext {A} (suc n) f g h =
    ap₂ (λ (l : List A) (a : A). l ++ (a ∷ [])) (tabulate_ext n f g (λ i l. h i (omega arith))) (h n (omega arith))

-- tests that are equal below a bound
pub all_below_ext : (n : ℕ) (p q : ℕ → Bool) → ((i : ℕ) → i < n → p i ≡ q i) → all_below n p ≡ all_below n q
unfolding all_below
all_below_ext zero p q h = refl
all_below_ext (suc n) p q h = ap₂ (λ (a b : Bool). a && b) (all_below_ext n p q (λ i l. h i (omega arith))) (h n (omega arith))

and-four : (a b c d : Bool) → (a && b && (c && d)) ≡ (a && c && (b && d))
and-four true b true d = refl
and-four true true false d = refl
and-four true false false d = refl
and-four false b c d = refl

-- two tests below a bound are one
pub all_below_both : (n : ℕ) (p q : ℕ → Bool) → (all_below n p && all_below n q) ≡ all_below n (λ i. p i && q i)
unfolding all_below
all_below_both zero p q = refl
all_below_both (suc n) p q = and-four (all_below n p) (p n) (all_below n q) (q n) ∙ ap (λ (b : Bool). b && (p n && q n)) (all_below_both n p q)

-- the first of the numbers is tested first
first : (q : ℕ → Bool) (n : ℕ) → (q 0 && all_below n (λ i. q (suc i))) ≡ all_below (suc n) q
unfolding all_below
first q zero = and-true (q 0)
first q (suc n) = sym (and_assoc (q 0) _ (q (suc n))) ∙ ap (λ (b : Bool). b && q (suc n)) (first q n)

-- a closure that is asked of the numbers of a range, in turn
pub in_turn : (p : ℕ → Bool) (a n : ℕ) → list_all p (range_with_len a n) ≡ all_below n (λ i. p (a + i))
unfolding all_below
in_turn p a zero = refl
in_turn p a (suc n) =
    ap (λ (b : Bool). p a && b) (in_turn p (a + 1) n ∙ all_below_ext n _ _ (λ i l. ap p (omega arith)))
    ∙ ap (λ (x : ℕ). p x && all_below n (λ i. p (a + suc i))) (sym (add-zero a))
    ∙ first (λ i. p (a + i)) n
