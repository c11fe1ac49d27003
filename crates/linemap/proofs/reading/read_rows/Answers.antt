-- `linemap::reading::read_rows` meets its contract. Invariant: the places of the first i stations are read, and the others are zero; once a
-- row is read all rows stand within the bytes, since the first of them starts farthest back. Assumes nothing.
use Rattle.std.proofs.Common.{◌≡◌, ℕ, ◌+◌, ◌-◌, ◌*◌, ◌<◌, ◌≤◌, List, length, set, sym, ap, ◌∙◌, ap₂, inl, inr, ⊎_elim, arith, rules}
use borrow.Rule.Slice.PartMut.{mid_of, put_mid, mid_len}
use Rattle.finite.specs.Below.{tabulate}
use Rattle.finite.specs.Numbers.{number}
use Rattle.linemap.specs.Maps.{place}
use Rattle.linemap.specs.Words.{sum_words}
use Rattle.linemap.specs.Stored.{row_length, stored_length, word_count}
use Rattle.linemap.specs.Reading.{column, grid, count_in, judged}
use Rattle.linemap.proofs.Each.{column-none, column_more, length-grid, grid-none, grid_more}
use Rattle.linemap.proofs.Rules.{row_below, row_read, row_outside, rows_outside, words_off, words_add}
use Rattle.linemap.proofs.reading.read_rows.Invariants.{start_of, counts_of, set_of}
use Rattle.linemap.proofs.reading.read_rows.Goals as goal
use Rattle.linemap.proofs.reading.read_rows.Goals.{In-Some, After-sum_words, After-loop-i}

-- the places of the counts of row i, which the rows before it left
places_are : {l : List ℕ} (s : List ℕ) (c k i : ℕ) → c ≤ 8 → i < 64 → l ≡ grid (counts_of s c k) c i
    → length (mid_of (8 * i) (place i c - 8 * i) l) ≡ c
places_are {l} s c k i few below before =
    let all : length l ≡ 512 = ap length before ∙ length-grid (counts_of s c k) c few i (omega (arith, below)) in
    mid_len (8 * i) (place i c) l (omega (arith, all, few, below)) ∙ omega arith

-- the counts of row i in them
counts_more : {l read : List ℕ} {at : ℕ} (s : List ℕ) (c k i : ℕ) → c ≤ 8 → i < 64 → l ≡ grid (counts_of s c k) c i
    → at ≡ start_of s c k + row_length c * i → read ≡ tabulate (length (mid_of (8 * i) (place i c - 8 * i) l)) (count_in s at)
    → put_mid (8 * i) (place i c - 8 * i) l read ≡ grid (counts_of s c k) c (i + 1)
counts_more s c k i few below before start counts =
    ap₂ (put_mid (8 * i) (place i c - 8 * i)) before
    (counts ∙ ap₂ (λ (n at : ℕ). tabulate n (count_in s at)) (places_are s c k i few below before) start)
    ∙ grid_more (counts_of s c k) c few i below

pub loop-i-init : goal.loop-i-init
loop-i-init c = (inl (search rules), sym (grid-none _ _ c.requires.1), sym (column-none _))

pub returns-in_default : goal.returns-in_default
returns-in_default c =
    let a = c.args in
    let outside = row_outside a.s.now _ _ (sym c.read_row.ensures ∙ c.in_default.is) in
    let far : length a.s.now < stored_length a.classes a.k = omega (arith, outside, c.stored_length-need.ensures) in
    sym (rows_outside a.s.now a.classes a.k a.desk a.lot far)

-- what the row that was read is
row_is : (c : In-Some)
    → let a = c.args in
    let place = start_of a.s.now a.classes a.k + row_length a.classes * c.loop-i.i in
    (stored_length a.classes a.k ≤ length a.s.now)
    × (c.in-Some.field-0.at ≡ place)
    × (c.in-Some.field-0.set ≡ number a.s.now (place + 4 * a.classes) 8)
row_is c =
    let a = c.args in
    row_read a.s.now a.classes a.k c.loop-i.i _ _ _ c.loop-i-test.true c.row_length-width.ensures.0
    c.stored_length-need.ensures c.loop-i.invariant.0 (sym c.read_row.ensures ∙ c.in-Some.is)

pub read_counts-requires : goal.read_counts-requires
read_counts-requires c =
    let a = c.args in
    let i = c.loop-i.i in
    let more = c.loop-i-test.true in
    let row = row_is (goal.at.read_counts-requires c).In-Some in
    let places = places_are a.s.now a.classes a.k i c.requires.1 (omega (arith, c.requires.3, more)) c.loop-i.invariant.1 in
    omega (arith, row.0, row.1, places, row_below (row_length a.classes) i a.k more)

pub loop-i-preserved : goal.loop-i-preserved
loop-i-preserved c =
    let a = c.args in
    let s = a.s.now in
    let i = c.loop-i.i in
    let row = row_is (goal.at.loop-i-preserved c).In-Some in
    let few : i < 64 = omega (arith, c.requires.3, c.loop-i-test.true) in (
      inr row.0,
      counts_more s a.classes a.k i c.requires.1 few c.loop-i.invariant.1 row.1 c.read_counts.ensures,
      ap₂ (λ (l : List ℕ) (n : ℕ). set l i n) c.loop-i.invariant.2 row.2 ∙ column_more (set_of s a.classes a.k) i few,
    )

-- all rows were read, and they stand within the bytes
all_read : (c : After-loop-i) → c.loop-i.i ≡ c.args.k
all_read c = omega arith

all_fit : (c : After-loop-i)
    → let a = c.args in stored_length a.classes a.k ≤ length a.s.now
all_fit c = ⊎_elim (λ e. absurd (omega (arith, e, all_read c))) (λ f. f) c.loop-i.invariant.0

summed : (c : After-sum_words)
    → let a = c.args in
    c.sum_words.result ≡ sum_words a.s.now (start_of a.s.now a.classes a.k) (word_count a.classes a.k)
summed c = rw c.stored_length-need.ensures at c.sum_words.ensures

pub returns-then-sum_words-ne0 : goal.returns-then-sum_words-ne0
returns-then-sum_words-ne0 c =
    let a = c.args in
    sym (words_off a.s.now a.classes a.k a.desk a.lot (all_fit (goal.at.returns-then-sum_words-ne0 c).After-loop-i)
    (λ z. c.if-sum_words-ne0.true (summed (goal.at.returns-then-sum_words-ne0 c).After-sum_words ∙ z)))

pub returns : goal.returns
returns c =
    let a = c.args in
    let s = a.s.now in
    let inv = c.loop-i.invariant in
    let all = all_read (goal.at.returns c).After-loop-i in
    c.judge.ensures
    ∙ ap₂ (λ (x y : List ℕ). judged (record { k = a.k; classes = a.classes; desk = a.desk; lot = a.lot; counts = x; neighbours = y }))
    (inv.1 ∙ ap (grid (counts_of s a.classes a.k) a.classes) all)
    (inv.2 ∙ ap (column 64 (set_of s a.classes a.k)) all)
    ∙ sym (words_add s a.classes a.k a.desk a.lot (all_fit (goal.at.returns c).After-loop-i)
    (sym (summed (goal.at.returns c).After-sum_words) ∙ c.if-sum_words-ne0.false))
