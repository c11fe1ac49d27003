-- Lists whose entries are replaced or mapped. Assumes nothing.
use mathlib.Core.Path.{◌≡◌, refl, sym, ap, ap₂, ◌∙◌, subst}
use mathlib.Core.List.{List, [], ◌∷◌, ◌++◌, map}
use Prim.Native.Nat.{ℕ, zero, suc}
use lib.ListN.{get_or, set}
use Rattle.finite.specs.Below.{tabulate, each}

pub map-set : {A B : Type 0} (f : A → B) (l : List A) (i : ℕ) (v : A) → map f (set l i v) ≡ set (map f l) i (f v)
map-set f [] i v = refl
map-set f (x ∷ l) zero v = refl
map-set {B = B} f (x ∷ l) (suc i) v = ap (λ (m : List B). f x ∷ m) (map-set f l i v)

-- an entry that is replaced by itself
pub set_own : {A : Type 0} (l : List A) (i : ℕ) (d : A) → set l i (get_or l i d) ≡ l
set_own [] i d = refl
set_own (x ∷ l) zero d = refl
set_own {A = A} (x ∷ l) (suc i) d = ap (λ (m : List A). x ∷ m) (set_own l i d)

-- what holds of the new entry and of the old ones holds after the replacement
pub set_either : {A : Type 0} (P : A → Type 0) (l : List A) (i x : ℕ) (v d : A) → (x ≡ i → P v) → P (get_or l x d) → P (get_or (set l i v) x d)
set_either P [] i x v d new old = old
set_either P (y ∷ l) zero zero v d new old = new refl
set_either P (y ∷ l) zero (suc x) v d new old = old
set_either P (y ∷ l) (suc i) zero v d new old = old
set_either P (y ∷ l) (suc i) (suc x) v d new old = set_either P l i x v d (λ e. new (ap suc e)) old

-- the same of two replacements, where what is asked depends on the place
pub set-two_either : {A : Type 0} (P : ℕ → A → Type 0) (l : List A) (j i x : ℕ) (v w d : A) → P j v → P i w → P x (get_or l x d)
    → P x (get_or (set (set l j v) i w) x d)
set-two_either P l j i x v w d first second old =
    set_either (P x) (set l j v) i x w d (λ e. subst (λ (y : ℕ). P y w) (sym e) second)
    (set_either (P x) l j x v d (λ e. subst (λ (y : ℕ). P y v) (sym e) first) old)

map_snoc : {A B : Type 0} (f : A → B) (l : List A) (a : A) → map f (l ++ (a ∷ [])) ≡ map f l ++ (f a ∷ [])
map_snoc f [] a = refl
map_snoc {B = B} f (x ∷ l) a = ap (λ (m : List B). f x ∷ m) (map_snoc f l a)

-- a table that a map leaves as it is
pub map-tabulate : {A : Type 0} (f : A → A) (h : ℕ → A) → ((i : ℕ) → f (h i) ≡ h i) → (n : ℕ) → map f (tabulate n h) ≡ tabulate n h
unfolding tabulate each
map-tabulate f h e zero = refl
map-tabulate {A = A} f h e (suc n) =
    map_snoc f (tabulate n h) (h n) ∙ ap₂ (λ (l : List A) (a : A). l ++ (a ∷ [])) (map-tabulate f h e n) (e n)
