-- Rows as a loop over the senders stores them, four a sender, and counts them: the rows of the senders below n stand, and the sizes are
-- theirs. Assumes nothing.
use Rattle.std.proofs.Common.{◌≡◌, ℕ, zero, suc, ◌+◌, ◌-◌, ◌*◌, ◌%◌, ◌^◌, ◌<◌, ◌≤◌, List, length, get_or, set, sym, refl, ap, ◌∙◌, add-zero, mod-eq_of_lt, add-one, arith, length-append, length-set, get_or-set_other, get_or-set_same, subst}
use mathlib.Core.List.{flat_map}
use borrow.Author.Tests.{lt-ltb}
use Rattle.finite.specs.Sum.{fold_to}
use Rattle.finite.specs.Internal.Monoid.{addition, sum_to}
use Rattle.finite.proofs.Sums.{sum_ext, sum_first}
use Rattle.finite.proofs.Cases.{by_eq}
use Rattle.bitset.specs.Set.{size}
use Rattle.bitset.proofs.Laws.{size-le}
use Rattle.schedule.specs.declared.rows.Sizes.{Sizes}
use Rattle.schedule.specs.declared.rows.Four.{Four}
use Rattle.schedule.specs.Listing.{numbers_from, range, select}
use Rattle.schedule.specs.Rows.{steps_from, steps_of_kind, row_at, in_rows, added, size_of, four_set, with_four, sizes_stored}
use Rattle.schedule.specs.Internal.Rows.{sizes_of, AreFour, HoldRows}
use Rattle.schedule.specs.Rows as rows
use Rattle.schedule.proofs.Parts.{select-append}
use Rattle.schedule.proofs.RowLists.{row_length_lem}

module _ (rows : List ℕ) (n a b c d : ℕ) where
  pub four-length : length (four_set rows n a b c d) ≡ length rows
  four-length =
      length-set (set (set (set rows (4 * n) a) (4 * n + 1) b) (4 * n + 2) c) (4 * n + 3) d
      ∙ length-set (set (set rows (4 * n) a) (4 * n + 1) b) (4 * n + 2) c
      ∙ length-set (set rows (4 * n) a) (4 * n + 1) b
      ∙ length-set rows (4 * n) a

  -- the rows of every other sender stay
  pub four-other : (kind s : ℕ) → 1 ≤ kind → kind ≤ 4 → (s ≡ n → ⊥) → row_at (four_set rows n a b c d) kind s ≡ row_at rows kind s
  four-other kind s h l apart =
      let i = 4 * s + kind - 1 in
      get_or-set_other (set (set (set rows (4 * n) a) (4 * n + 1) b) (4 * n + 2) c) (4 * n + 3) i d 0 (λ e. apart (omega arith))
      ∙ get_or-set_other (set (set rows (4 * n) a) (4 * n + 1) b) (4 * n + 2) i c 0 (λ e. apart (omega arith))
      ∙ get_or-set_other (set rows (4 * n) a) (4 * n + 1) i b 0 (λ e. apart (omega arith))
      ∙ get_or-set_other rows (4 * n) i a 0 (λ e. apart (omega arith))

  -- and the sender's are those stored: `row` gives them by kind
  module _ (sized : length rows ≡ 256) (low : n < 64) (row : ℕ → ℕ) (ha : a ≡ row 1) (hb : b ≡ row 2) (hc : c ≡ row 3) (hd : d ≡ row 4) where
    abbrev one : List ℕ
    one = set rows (4 * n) a

    abbrev two : List ℕ
    two = set one (4 * n + 1) b

    abbrev three : List ℕ
    three = set two (4 * n + 2) c

    one_sized : length one ≡ 256
    one_sized = length-set rows (4 * n) a ∙ sized

    two_sized : length two ≡ 256
    two_sized = length-set one (4 * n + 1) b ∙ one_sized

    three_sized : length three ≡ 256
    three_sized = length-set two (4 * n + 2) c ∙ two_sized

    first : get_or (four_set rows n a b c d) (4 * n) 0 ≡ row 1
    first =
        get_or-set_other three (4 * n + 3) (4 * n) d 0 (λ e. omega arith)
        ∙ get_or-set_other two (4 * n + 2) (4 * n) c 0 (λ e. omega arith)
        ∙ get_or-set_other one (4 * n + 1) (4 * n) b 0 (λ e. omega arith)
        ∙ get_or-set_same rows (4 * n) a 0 (omega (arith, sized, low))
        ∙ ha

    second : get_or (four_set rows n a b c d) (4 * n + 1) 0 ≡ row 2
    second =
        get_or-set_other three (4 * n + 3) (4 * n + 1) d 0 (λ e. omega arith)
        ∙ get_or-set_other two (4 * n + 2) (4 * n + 1) c 0 (λ e. omega arith)
        ∙ get_or-set_same one (4 * n + 1) b 0 (omega (arith, one_sized, low))
        ∙ hb

    third : get_or (four_set rows n a b c d) (4 * n + 2) 0 ≡ row 3
    third =
        get_or-set_other three (4 * n + 3) (4 * n + 2) d 0 (λ e. omega arith)
        ∙ get_or-set_same two (4 * n + 2) c 0 (omega (arith, two_sized, low))
        ∙ hc

    fourth : get_or (four_set rows n a b c d) (4 * n + 3) 0 ≡ row 4
    fourth = get_or-set_same three (4 * n + 3) d 0 (omega (arith, three_sized, low)) ∙ hd

    -- a place, and what stands there
    at : (kind i : ℕ) → i ≡ 4 * n + kind - 1 → get_or (four_set rows n a b c d) i 0 ≡ row kind → row_at (four_set rows n a b c d) kind n ≡ row kind
    at kind i e h = ap (λ (x : ℕ). get_or (four_set rows n a b c d) x 0) (sym e) ∙ h

    pub four_own : (kind : ℕ) → 1 ≤ kind → kind ≤ 4 → row_at (four_set rows n a b c d) kind n ≡ row kind
    four_own kind h l =
        by_eq kind 1 (λ (e : kind ≡ 1). rw e (at 1 (4 * n) (omega arith) first))
        (λ n1. by_eq kind 2 (λ (e : kind ≡ 2). rw e (at 2 (4 * n + 1) (omega arith) second))
        (λ n2. by_eq kind 3 (λ (e : kind ≡ 3). rw e (at 3 (4 * n + 2) (omega arith) third))
        (λ n3. let e : kind ≡ 4 = omega arith in rw e (at 4 (4 * n + 3) (omega arith) fourth))))

-- `row` gives the row of a kind and a sender
module _ (row : ℕ → ℕ → ℕ) where
  -- the rows of the senders below n stand
  pub record Stored (n : ℕ) (rows : List ℕ) : Type 0 where
    pub sized : length rows ≡ 256
    pub done : (kind s : ℕ) → 1 ≤ kind → kind ≤ 4 → s < n → row_at rows kind s ≡ row kind s

  pub stored-none : {rows : List ℕ} → length rows ≡ 256 → Stored 0 rows
  stored-none e = record { sized = e; done = λ kind s h l m. absurd (let z : ⊥ = omega arith in z) }

  pub stored-four : {n : ℕ} {rows : List ℕ} {a b c d : ℕ} → Stored n rows → n < 64 → a ≡ row 1 n → b ≡ row 2 n → c ≡ row 3 n → d ≡ row 4 n
      → Stored (n + 1) (four_set rows n a b c d)
  stored-four {n} {rows} {a} {b} {c} {d} S low ha hb hc hd =
      record {
        sized = four-length rows n a b c d ∙ S.sized;
        done = λ kind s h l m. by_eq s n
            (λ (e : s ≡ n). rw e (four_own rows n a b c d S.sized low (λ (x : ℕ). row x n) ha hb hc hd kind h l))
            (λ e. four-other rows n a b c d kind s h l e ∙ S.done kind s h l (omega arith));
      }

  -- how many steps of a kind they list
  abbrev pub sum : ℕ → ℕ → ℕ
  sum kind n = sum_to addition n (λ s. size (row kind s))

  -- the sizes of the rows of the senders below n
  pub record Counted (n : ℕ) (z : Sizes) : Type 0 where
    pub small : (kind s : ℕ) → 1 ≤ kind → kind ≤ 4 → s < n → row kind s < 2 ^ 64
    pub first : (z.first ≡ sum 1 n) × (z.first ≤ 64 * n)
    pub second : (z.second ≡ sum 2 n) × (z.second ≤ 64 * n)
    pub third : (z.third ≡ sum 3 n) × (z.third ≤ 64 * n)
    pub fourth : (z.fourth ≡ sum 4 n) × (z.fourth ≤ 64 * n)

  pub counted_none : Counted 0 rows.none
  unfolding fold_to
  counted_none =
      record {
        small = λ kind s h l m. absurd (let z : ⊥ = omega arith in z);
        first = (refl, omega arith);
        second = (refl, omega arith);
        third = (refl, omega arith);
        fourth = (refl, omega arith);
      }

  -- one row more, and in 32 bits
  pub sum_more : {kind n x a : ℕ} → a < 2 ^ 64 → a ≡ row kind n → (x ≡ sum kind n) × (x ≤ 64 * n)
      → (x + size a ≡ sum kind (n + 1)) × (x + size a ≤ 64 * (n + 1))
  unfolding fold_to
  sum_more {kind} {n} {x} {a} fits e h =
      let more : sum kind (n + 1) ≡ sum kind n + size (row kind n) = ap (sum kind) (add-one n) in
      (omega (arith, h.0, more, ap size e), omega (arith, size-le 64 a (omega arith) fits, h.1))

  sum-next : {kind n x a : ℕ} → n < 64 → a < 2 ^ 64 → a ≡ row kind n → (x ≡ sum kind n) × (x ≤ 64 * n)
      → ((x + size a) % 2 ^ 32 ≡ sum kind (n + 1)) × ((x + size a) % 2 ^ 32 ≤ 64 * (n + 1))
  sum-next {kind} {n} {x} {a} low fits e h =
      let more = sum_more {kind = kind} {n = n} fits e h in
      let whole : (x + size a) % 2 ^ 32 ≡ x + size a = mod-eq_of_lt (omega (arith, more.1, low)) in
      rw whole more

  pub counted-four : {n : ℕ} {z : Sizes} {a b c d : ℕ} → Counted n z → n < 64 → (a < 2 ^ 64) × (b < 2 ^ 64) × (c < 2 ^ 64) × (d < 2 ^ 64)
      → a ≡ row 1 n → b ≡ row 2 n → c ≡ row 3 n → d ≡ row 4 n → Counted (n + 1) (added z a b c d)
  unfolding added
  counted-four {n} {z} {a} {b} {c} {d} C low fits ha hb hc hd =
      record {
        small = λ kind s h l m. by_eq s n
            (λ (e : s ≡ n). rw e
            (by_eq kind 1 (λ (q : kind ≡ 1). rw (q, ← ha) fits.0)
            (λ n1. by_eq kind 2 (λ (q : kind ≡ 2). rw (q, ← hb) fits.1)
            (λ n2. by_eq kind 3 (λ (q : kind ≡ 3). rw (q, ← hc) fits.2)
            (λ n3. let q : kind ≡ 4 = omega arith in rw (q, ← hd) fits.3)))))
            (λ e. C.small kind s h l (omega arith));
        first = sum-next low fits.0 ha C.first;
        second = sum-next low fits.1 hb C.second;
        third = sum-next low fits.2 hc C.third;
        fourth = sum-next low fits.3 hd C.fourth;
      }

  -- the steps of a kind, row by row
  length-rows : (l : List ℕ) (kind a n : ℕ) → ((s : ℕ) → a ≤ s → s < a + n → row_at l kind s < 2 ^ 64)
      → length (select (in_rows l) (flat_map (λ (s : ℕ). steps_from 64 kind s 0) (numbers_from a n))) ≡ sum_to addition n (λ i. size (row_at l kind (a + i)))
  unfolding numbers_from flat_map select fold_to
  length-rows l kind a zero small = refl
  length-rows l kind a (suc n) small =
      let g : ℕ → ℕ = λ i. size (row_at l kind (a + i)) in
      let rest : length (select (in_rows l) (flat_map (λ (s : ℕ). steps_from 64 kind s 0) (numbers_from (suc a) n))) ≡ sum_to addition n (λ i. g (suc i)) =
      length-rows l kind (suc a) n (λ s h m. small s (omega arith) (omega arith))
      ∙ sum_ext addition n _ _ (λ i m. ap (λ (x : ℕ). size (row_at l kind x)) (omega arith)) in
      let first : g 0 ≡ length (select (in_rows l) (steps_from 64 kind a 0)) =
      ap (λ (x : ℕ). size (row_at l kind x)) (add-zero a) ∙ row_length_lem l kind a (small a (omega arith) (omega arith)) in
      ap length (select-append (in_rows l) (steps_from 64 kind a 0) _)
      ∙ length-append (select (in_rows l) (steps_from 64 kind a 0)) _
      ∙ omega (arith, rest, first, sum_first n g)

  pub rows-sum : (l : List ℕ) (kind k : ℕ) → ((s : ℕ) → s < k → row_at l kind s ≡ row kind s) → ((s : ℕ) → s < k → row kind s < 2 ^ 64)
      → size_of l k kind ≡ sum kind k
  unfolding size_of steps_of_kind range
  rows-sum l kind k same small =
      let all : k - 0 ≡ k = omega arith in
      rw all
      (length-rows l kind 0 k (λ s h m. let low : s < k = omega arith in rw (same s low) (small s low))
      ∙ sum_ext addition k _ _ (λ i m. ap size (ap (row_at l kind) (let z : 0 + i ≡ i = omega arith in z) ∙ same i m)))

  -- the sizes of rows that stand
  pub counted-all : {k : ℕ} {l : List ℕ} {z : Sizes} → Stored k l → Counted k z → z ≡ sizes_of l k
  counted-all {k} {l} {z} S C =
      let are : (x kind : ℕ) → 1 ≤ kind → kind ≤ 4 → x ≡ sum kind k → x ≡ size_of l k kind =
      λ x kind h m e. e ∙ sym (rows-sum l kind k (λ s n. S.done kind s h m n) (λ s n. C.small kind s h m n)) in
      rw (
        ← are _ 1 (omega arith) (omega arith) C.first.0,
        ← are _ 2 (omega arith) (omega arith) C.second.0,
        ← are _ 3 (omega arith) (omega arith) C.third.0,
        ← are _ 4 (omega arith) (omega arith) C.fourth.0,
      )

  -- rows that a loop stores from the first sender on, with their sizes: the senders below n are done
  pub record Filling (n : ℕ) (rows : List ℕ) (z : Sizes) : Type 0 where
    pub stored : Stored n rows
    pub counted : Counted n z

  pub filling_none : {l : List ℕ} {z : Sizes} → length l ≡ 256 → z ≡ rows.none → Filling 0 l z
  filling_none e q = record { stored = stored-none e; counted = subst (Counted 0) (sym q) counted_none }

  pub filling_next : {n : ℕ} {rows rows' : List ℕ} {z z' : Sizes} {f : Four} → Filling n rows z → n < 64 → AreFour (λ kind. row kind n) f
      → rows' ≡ with_four rows n f → z' ≡ sizes_stored z n f → Filling (n + 1) rows' z'
  filling_next {n} {rows} {z = z} {f = f} F low A e q =
      rw (e, q, lt-ltb n 64 low)
      record {
        stored = stored-four F.stored low A.first.0 A.second.0 A.third.0 A.fourth.0;
        counted = counted-four F.counted low (A.first.1, A.second.1, A.third.1, A.fourth.1) A.first.0 A.second.0 A.third.0 A.fourth.0;
      }

  pub filling_all : {k : ℕ} {rows : List ℕ} {z : Sizes} → Filling k rows z → HoldRows (λ s. Unit {0}) k row rows z
  filling_all F =
      record {
        sized = F.stored.sized;
        small = λ kind s h m low. rw (F.stored.done kind s h m low) (F.counted.small kind s h m low);
        row = λ kind s h m low t. F.stored.done kind s h m low;
        sizes = counted-all F.stored F.counted;
      }
