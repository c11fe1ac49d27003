-- What columns show: a number that is put into columns is read from them again, ten hyphens show nothing, and no number shows hyphens.
-- Assumes nothing.
use mathlib.Core.Path.{◌≡◌, refl, sym, ap, subst, ◌∙◌}
use mathlib.Core.Bool.{false, cond}
use mathlib.Core.List.{List, [], ◌∷◌, ◌++◌, append_assoc, append-nil}
use Prim.Native.Nat.{ℕ, zero, suc, ◌+◌, ◌*◌, ◌-◌, ◌/◌, ◌%◌, ◌^◌, ◌≤◌, ◌<◌}
use native.Mathlib.Nat.{pow-suc}
use native.Mathlib.Omega.{arith}
use lib.Dec.{eqb, ltb}
use lib.ListN.{length, get_or, replicate}
use borrow.Author.Tests.{le-leb, ne_eqb}
use Rattle.finite.specs.Sum.{indicator}
use Rattle.finite.specs.Below.{all_below}
use Rattle.finite.proofs.Cases.{by_bool}
use Rattle.finite.proofs.Below.{all_below_fails}
use Rattle.aggregate.specs.Aggregate.{is_missing}
use Rattle.text.specs.Text.{digit, digits, padded}
use Rattle.sheet.specs.Layout.{column, count_column}
use Rattle.sheet.specs.Adding.{shown_from, shown, is_hyphens}

shown-digit : (v d : ℕ) (l : List ℕ) → shown_from v ((48 + d) ∷ l) ≡ shown_from (10 * v + d) l
unfolding shown_from
shown-digit v d l =
    rw (le-leb 48 (48 + d) (omega arith)) (ap (λ (x : ℕ). shown_from x l) {x = 10 * v + (48 + d - 48)} {y = 10 * v + d} (omega arith))

shown-blanks : (k v : ℕ) (l : List ℕ) → shown_from v (replicate k 32 ++ l) ≡ shown_from v l
unfolding shown_from
shown-blanks zero v l = refl
shown-blanks (suc k) v l = shown-blanks k v l

shown-digits : (f n : ℕ) (l : List ℕ) → n < 10 ^ f → shown_from 0 (digits f n ++ l) ≡ shown_from n l
unfolding digits
shown-digits zero n l low = let none : n ≡ 0 = omega (arith, low) in rw none
shown-digits (suc f) n l low =
    let less : n / 10 < 10 ^ f = omega (arith, low, pow-suc 10 f) in
    by_bool (ltb n 10)
    (λ one. rw one (shown-digit 0 n l ∙ ap (λ (x : ℕ). shown_from x l) {x = 10 * 0 + n} {y = n} (omega arith)))
    (λ more.
    rw more
    (ap (shown_from 0) (append_assoc (digits f (n / 10)) (digit (n % 10)) l)
    ∙ shown-digits f (n / 10) (digit (n % 10) ++ l) less
    ∙ shown-digit (n / 10) (n % 10) l
    ∙ ap (λ (x : ℕ). shown_from x l) {x = 10 * (n / 10) + n % 10} {y = n} (omega arith)))

pub shown-column : (w n : ℕ) → n < 10 ^ 20 → shown (column w n) ≡ n
unfolding column padded shown_from
shown-column w n low =
    shown-blanks (w - length (digits 20 n)) 0 (digits 20 n)
    ∙ ap (shown_from 0) (sym (append-nil (digits 20 n)))
    ∙ shown-digits 20 n [] low

pub shown_count : (count : ℕ) → count < 2 ^ 32 → shown (count_column count) ≡ cond (is_missing count) 0 count
unfolding count_column shown_from
shown_count count low =
    by_bool (is_missing count) (λ t. rw t) (λ f. rw f (shown-column 10 count (omega (arith, low))))

-- the first byte of a number is a digit, or a blank before it
first-digit : (f n : ℕ) (l : List ℕ) → 48 ≤ get_or (digits (suc f) n ++ l) 0 0
unfolding digits
first-digit zero n l = by_bool (ltb n 10) (λ one. rw one (omega arith)) (λ more. rw more (omega arith))
first-digit (suc f) n l =
    by_bool (ltb n 10) (λ one. rw one (omega arith)) (λ more. rw (more, append_assoc) (first-digit f (n / 10) (digit (n % 10) ++ l)))

first_byte : (k n : ℕ) → eqb (get_or (replicate k 32 ++ digits 20 n) 0 0) 45 ≡ false
first_byte zero n =
    let some = subst (λ (l : List ℕ). 48 ≤ get_or l 0 0) (append-nil (digits 20 n)) (first-digit 19 n []) in
    ne_eqb (get_or (digits 20 n) 0 0) 45 (λ e. omega (arith, some, e))
first_byte (suc k) n = refl

hyphens_none : (w n : ℕ) → is_hyphens (column w n) ≡ false
unfolding column padded
hyphens_none w n =
    all_below_fails (λ i. eqb (get_or (replicate (w - length (digits 20 n)) 32 ++ digits 20 n) i 0) 45) 10 0 (omega arith)
    (first_byte (w - length (digits 20 n)) n)

pub hyphens_count : (count : ℕ) → indicator (is_hyphens (count_column count)) ≡ cond (is_missing count) 1 0
unfolding count_column all_below indicator
hyphens_count count =
    by_bool (is_missing count) (λ t. rw t) (λ f. rw f (ap indicator (hyphens_none 10 count)))
