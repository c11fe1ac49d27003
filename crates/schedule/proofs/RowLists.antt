-- Rows list the steps that a net allows: a row has as many steps as its set has members, and the rows of a net's allowed steps, row by row,
-- are its list. The row of the reports is the same for every kind of net. Assumes nothing.
use Rattle.std.proofs.Common.{◌≡◌, ℕ, zero, suc, ◌+◌, ◌-◌, ◌*◌, ◌^◌, ◌<◌, ◌≤◌, Bool, false, cond, ◌&&◌, eqb, List, [], ◌∷◌, ◌++◌, map, length, sym, refl, ap, ◌∙◌, ap₂, le_trans, lt_of_lt_of_le, add-zero, mul-le-mul_right, mul-le-mul_left, zero-add, arith, pow_mono, lt-ltb, eq-eqb, ne_eqb, le-leb}
use mathlib.Core.Bool.{and-true, and-false}
use mathlib.Core.List.{flat_map}
use borrow.Author.Tests.{lt-leb}
use Rattle.finite.proofs.Cases.{by_bool, by_eq, eqb_self}
use Rattle.finite.specs.Sum.{fold_to, indicator}
use Rattle.finite.specs.Internal.Monoid.{addition, sum_to}
use Rattle.finite.proofs.Sums.{sum_ext, sum_first}
use Rattle.bitset.specs.Set.{member, size, bit_if}
use Rattle.bitset.specs.Internal.Selected.{set_of}
use Rattle.bitset.proofs.Laws.{size-sum, no_member-from, same_members, member_empty}
use Rattle.bitset.proofs.Selected.{set-lt, set-none, set-member, set_has, bit_has, bit-lt}
use Rattle.schedule.specs.declared.Step.{Step}
use Rattle.schedule.specs.Rules.{Rules, in_range, allowed}
use Rattle.schedule.specs.Listing.{numbers_from, range, select, step, candidates, listed}
use Rattle.schedule.specs.Rows.{steps_from, steps_of_kind, row_at, in_rows}
use Rattle.schedule.specs.Internal.Rows.{steps_of, listed_in, AreRows}
use Rattle.schedule.proofs.Listing.{allowed-low}
use Rattle.schedule.proofs.Parts.{select-append, candidates_are, five_kinds, length-select, length-steps_of}

-- how many of n steps pass a test
length_passing : (p : Step → Bool) (f : ℕ → Step) (a n : ℕ)
    → length (select p (map f (numbers_from a n))) ≡ sum_to addition n (λ i. indicator (p (f (a + i))))
unfolding select numbers_from fold_to indicator
length_passing p f a zero = refl
length_passing p f a (suc n) =
    let g : ℕ → ℕ = λ i. indicator (p (f (a + i))) in
    let rest : length (select p (map f (numbers_from (suc a) n))) ≡ sum_to addition n (λ i. g (suc i)) =
    length_passing p f (suc a) n ∙ sum_ext addition n _ _ (λ i l. ap (λ (m : ℕ). indicator (p (f m))) (omega arith)) in
    let first : indicator (p (f a)) ≡ g 0 = ap (λ (m : ℕ). indicator (p (f m))) (sym (add-zero a)) in
    by_bool (p (f a))
    (λ t. rw t (let one = ap indicator (sym t) in omega (arith, rest, first, one, sum_first n g)))
    (λ t. rw t (let none = ap indicator (sym t) in omega (arith, rest, first, none, sum_first n g)))

-- a row has as many steps as its set has members
pub row_length_lem : (rows : List ℕ) (kind s : ℕ) → row_at rows kind s < 2 ^ 64
    → size (row_at rows kind s) ≡ length (select (in_rows rows) (steps_from 64 kind s 0))
unfolding steps_from range in_rows
row_length_lem rows kind s h =
    size-sum 64 (row_at rows kind s) (omega arith) h
    ∙ sum_ext addition 64 _ _ (λ j l. ap (λ (n : ℕ). indicator (member n (row_at rows kind s))) (sym (zero-add j)))
    ∙ sym (length_passing (in_rows rows) (step kind s) 0 64)

-- steps are listed alike where each part is, and the parts past n have none
select-flat : (p q : Step → Bool) (f g : ℕ → List Step) (a n w : ℕ) → n ≤ w → ((x : ℕ) → a ≤ x → x < a + n → select p (f x) ≡ select q (g x))
    → ((x : ℕ) → a + n ≤ x → x < a + w → select p (f x) ≡ []) → select p (flat_map f (numbers_from a w)) ≡ select q (flat_map g (numbers_from a n))
unfolding flat_map numbers_from select
select-flat p q f g a zero zero h same none = refl
select-flat p q f g a zero (suc w) h same none =
    select-append p (f a) (flat_map f (numbers_from (suc a) w))
    ∙ ap₂ ◌++◌ (none a (omega arith) (omega arith))
    (select-flat p q f g (suc a) zero w (omega arith) (λ x l m. absurd (let z : ⊥ = omega arith in z)) (λ x l m. none x (omega arith) (omega arith)))
select-flat p q f g a (suc n) zero h same none = absurd (let z : ⊥ = omega arith in z)
select-flat p q f g a (suc n) (suc w) h same none =
    select-append p (f a) (flat_map f (numbers_from (suc a) w))
    ∙ ap₂ ◌++◌ (same a (omega arith) (omega arith))
    (select-flat p q f g (suc a) n w (omega arith) (λ x l m. same x (omega arith) (omega arith)) (λ x l m. none x (omega arith) (omega arith)))
    ∙ sym (select-append q (g a) (flat_map g (numbers_from (suc a) n)))

-- a row tested by its set, over all 64 receivers, and by what the set was made of, over those below k
select_row : (p q : Step → Bool) (f : ℕ → Step) (a k w : ℕ) → k ≤ w → ((i : ℕ) → a ≤ i → i < a + k → p (f i) ≡ q (f i))
    → ((i : ℕ) → a + k ≤ i → p (f i) ≡ false) → select p (map f (numbers_from a w)) ≡ select q (map f (numbers_from a k))
unfolding select numbers_from
select_row p q f a zero zero h same none = refl
select_row p q f a zero (suc w) h same none =
    rw (none a (omega arith)) (select_row p q f (suc a) zero w (omega arith) (λ i g l. absurd (let z : ⊥ = omega arith in z)) (λ i g. none i (omega arith)))
select_row p q f a (suc k) zero h same none = absurd (let z : ⊥ = omega arith in z)
select_row p q f a (suc k) (suc w) h same none =
    rw (same a (omega arith) (omega arith))
    (ap (λ (l : List Step). cond (q (f a)) (f a ∷ l) l) (select_row p q f (suc a) k w (omega arith) (λ i g l. same i (omega arith) (omega arith)) (λ i g. none i (omega arith))))

-- the row of a kind that a net does not have
pub no_row : {Net : Type 0} (R : Rules Net) (net : Net) (kind s : ℕ) → R.kinds net < kind
    → 0 ≡ set_of (R.stations net) (λ r. allowed R net (step kind s r))
unfolding allowed in_range
no_row R net kind s h = sym (set-none (R.stations net) _ (λ r. rw (lt-leb kind (R.kinds net) h) (simp and-false)))

-- the rows of a kind that are those of the steps allowed list them
module _ {Net : Type 0} (R : Rules Net) (net : Net) (few : R.stations net ≤ 64) (rows : List ℕ) (kind : ℕ)
    (are : (s : ℕ) → s < R.stations net → row_at rows kind s ≡ set_of (R.stations net) (λ r. allowed R net (step kind s r))) where
  row_lists : (s : ℕ) → s < R.stations net
      → select (in_rows rows) (steps_from 64 kind s 0) ≡ select (allowed R net) (steps_from (R.stations net) kind s 0)
  unfolding steps_from range in_rows
  row_lists s m =
      let k = R.stations net in
      let test : ℕ → Bool = λ r. allowed R net (step kind s r) in
      let row = are s m in
      let same : (n : ℕ) → n - 0 ≡ n = λ n. omega arith in
      rw (same k)
      (select_row (in_rows rows) (allowed R net) (step kind s) 0 k 64 few
      (λ i a b. ap (member i) row ∙ set-member k test i (omega arith))
      (λ i a. ap (member i) row ∙ no_member-from k i (set_of k test) (set-lt k test) (omega arith)))

  kind_lists : select (in_rows rows) (steps_of_kind 64 (R.stations net) kind 0) ≡ select (allowed R net) (steps_of_kind (R.stations net) (R.stations net) kind 0)
  unfolding steps_of_kind range
  kind_lists =
      let k = R.stations net in
      select-flat (in_rows rows) (allowed R net) _ _ 0 (k - 0) (k - 0) (omega arith)
      (λ s a b. row_lists s (omega arith))
      (λ s a b. absurd (let z : ⊥ = omega arith in z))

  row_empty : (s : ℕ) → R.kinds net < kind → s < R.stations net → select (in_rows rows) (steps_from 64 kind s 0) ≡ []
  unfolding steps_from range in_rows numbers_from select
  row_empty s h m =
      let row = are s m ∙ sym (no_row R net kind s h) in
      select_row (in_rows rows) (allowed R net) (step kind s) 0 0 64 (omega arith)
      (λ i a b. absurd (let z : ⊥ = omega arith in z))
      (λ i a. ap (member i) row ∙ member_empty i)

  kind_empty : R.kinds net < kind → select (in_rows rows) (steps_of_kind 64 (R.stations net) kind 0) ≡ []
  unfolding steps_of_kind range flat_map numbers_from select
  kind_empty h =
      select-flat (in_rows rows) (allowed R net) _ (λ s. []) 0 0 (R.stations net - 0) (omega arith)
      (λ s a b. absurd (let z : ⊥ = omega arith in z))
      (λ s a b. row_empty s h (omega arith))

-- the rows of the steps that a net allows list them
module _ {Net : Type 0} (R : Rules Net) (net : Net) (rows : List ℕ) (are : AreRows R net rows) (few : R.stations net ≤ 64) where
  abbrev k : ℕ
  k = R.stations net

  -- in a net of four kinds or fewer
  pub rows_list : R.kinds net ≤ 4 → listed_in rows 4 k ≡ listed R net
  unfolding listed_in listed steps_of range
  rows_list kinds =
      select-flat (in_rows rows) (allowed R net) _ _ 1 _ _ (omega arith)
      (λ kind h l. kind_lists R net few rows kind (λ s m. are.row kind s h (omega arith) m))
      (λ kind h l. kind_empty R net few rows kind (λ s m. are.row kind s (omega arith) (omega arith) m) (omega arith))
      ∙ sym (ap (select (allowed R net)) (candidates_are (R.kinds net) k))

  -- in a net of five, where those of the fifth stand beside
  module _ (more : List ℕ) (fifth : (s : ℕ) → s < k → row_at more 5 s ≡ set_of k (λ r. allowed R net (step 5 s r))) where
    four_list : listed_in rows 4 k ≡ select (allowed R net) (steps_of k 4 k 1)
    unfolding listed_in steps_of range
    four_list =
        select-flat (in_rows rows) (allowed R net) _ _ 1 4 4 (omega arith)
        (λ kind h l. kind_lists R net few rows kind (λ s m. are.row kind s h (omega arith) m))
        (λ kind h l. absurd (let z : ⊥ = omega arith in z))

    pub rows_list_beside : R.kinds net ≡ 5 → listed_in rows 4 k ++ select (in_rows more) (steps_of_kind 64 k 5 0) ≡ listed R net
    unfolding listed
    rows_list_beside e =
        ap₂ ◌++◌ four_list (kind_lists R net few more 5 fifth)
        ∙ sym (select-append (allowed R net) (steps_of k 4 k 1) (steps_of_kind k k 5 0))
        ∙ ap (select (allowed R net)) (sym (five_kinds k k) ∙ sym (candidates_are 5 k))
        ∙ ap (λ (n : ℕ). select (allowed R net) (candidates n k)) (sym e)

-- The row of the reports of station s, which is empty but for the root: `ready` is the guard of the root's own report.
module _ {Net : Type 0} (R : Rules Net) (net : Net) (low : 1 ≤ R.reports) (high : R.reports ≤ R.kinds net) (s : ℕ) (below : s < R.stations net)
    (few : R.stations net ≤ 64) (ready : Bool) (guarded : R.guard net (step R.reports s s) ≡ ready) where
  report_has : (r : ℕ) → member r (bit_if (eqb s (R.root net) && ready) s) ≡ allowed R net (step R.reports s r)
  unfolding allowed in_range
  report_has r =
      let root = R.root net in
      bit_has (eqb s root && ready) s r
      ∙ rw (lt-ltb s 64 (omega arith), le-leb 1 R.reports low, le-leb R.reports (R.kinds net) high, lt-ltb s (R.stations net) below, eqb_self R.reports)
      (by_eq s root
      (λ (e : s ≡ root). rw (eq-eqb s root e)
      (by_eq r s
      (λ (q : r ≡ s). rw (q, eqb_self s, lt-ltb s (R.stations net) below, eq-eqb s root e, guarded) (and-true ready))
      (λ n. rw (ne_eqb r s n, ne_eqb r root (λ q. n (q ∙ sym e))) (simp and-false))))
      (λ n. rw (ne_eqb s root n) (simp and-false)))

  pub report-row : bit_if (eqb s (R.root net) && ready) s ≡ set_of (R.stations net) (λ r. allowed R net (step R.reports s r))
  report-row =
      same_members 64 _ _ (bit-lt (eqb s (R.root net) && ready) s) (lt_of_lt_of_le (set-lt (R.stations net) _) (pow_mono few))
      (λ r l. report_has r ∙ sym (set_has (R.stations net) _ r ∙ allowed-low R net (step R.reports s r)))

-- no rows list so many steps
pub listed_few : (rows : List ℕ) (kinds k : ℕ) → kinds ≤ 255 → k ≤ 255 → length (listed_in rows kinds k) ≤ 255 * (255 * 64)
unfolding listed_in
listed_few rows kinds k h l =
    le_trans (length-select (in_rows rows) (steps_of 64 kinds k 1))
    (rw (length-steps_of 64 kinds k) (le_trans (mul-le-mul_right (k * 64) h) (mul-le-mul_left 255 (mul-le-mul_right 64 l))))
