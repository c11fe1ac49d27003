-- Rows of which those of one sender are stored anew: their sizes are those without the old ones and with the new. Assumes nothing.
use Rattle.std.proofs.Common.{◌≡◌, ℕ, zero, suc, ◌+◌, ◌-◌, ◌*◌, ◌%◌, ◌^◌, ◌<◌, ◌≤◌, ◌⊎◌, List, length, sym, refl, ap, ◌∙◌, inl, inr, mod-eq_of_lt, arith}
use borrow.Author.Tests.{lt-ltb}
use Rattle.finite.specs.Sum.{fold_to}
use Rattle.finite.specs.Internal.Monoid.{addition, sum_to}
use Rattle.finite.proofs.Sums.{except, sum_ext, sum_extract, except-same, except-other}
use Rattle.finite.proofs.Cases.{by_eq, by-sum}
use Rattle.bitset.specs.Set.{size}
use Rattle.bitset.proofs.Laws.{size-le}
use Rattle.schedule.specs.declared.Step.{Step}
use Rattle.schedule.specs.declared.rows.Sizes.{Sizes}
use Rattle.schedule.specs.declared.rows.Four.{Four}
use Rattle.schedule.specs.Rows.{row_at, added, removed, size_of, sizes_without, four_set, with_four, sizes_replaced}
use Rattle.schedule.specs.Internal.Rows.{sizes_of, AreFour, Others, HoldRows}
use Rattle.schedule.proofs.Counting.{four-length, four_own, four-other, rows-sum}

sum_most : (n : ℕ) (f : ℕ → ℕ) → ((i : ℕ) → i < n → f i ≤ 64) → sum_to addition n f ≤ 64 * n
unfolding fold_to
sum_most zero f h = omega arith
sum_most (suc n) f h = omega (arith, sum_most n f (λ i l. h i (omega arith)), h n (omega arith))

-- a part o of a sum is exchanged for n, in 32 bits
exchanged : (x o r n : ℕ) → x ≡ o + r → o ≤ 64 → r + n ≤ 4096 → ((x + (2 ^ 32 - o)) % 2 ^ 32 + n) % 2 ^ 32 ≡ r + n
exchanged x o r n e h l =
    let whole : x + (2 ^ 32 - o) ≡ r + 2 ^ 32 = omega arith in
    let rest : (r + 2 ^ 32) % 2 ^ 32 ≡ r = omega arith in
    rw (whole, rest) (mod-eq_of_lt (omega arith))

module _ (rows : List ℕ) (k : ℕ) (few : k ≤ 64) (sized : length rows ≡ 256)
    (small : (kind s : ℕ) → 1 ≤ kind → kind ≤ 4 → s < k → row_at rows kind s < 2 ^ 64)
    (j : ℕ) (low : j < k) (row : ℕ → ℕ) (fits : (kind : ℕ) → 1 ≤ kind → kind ≤ 4 → row kind < 2 ^ 64) where
  -- the rows with the sender's stored anew, by kind
  abbrev next : List ℕ
  next = four_set rows j (row 1) (row 2) (row 3) (row 4)

  next_own : (kind : ℕ) → 1 ≤ kind → kind ≤ 4 → row_at next kind j ≡ row kind
  next_own = four_own rows j _ _ _ _ sized (omega arith) row refl refl refl refl

  next-other : (kind s : ℕ) → 1 ≤ kind → kind ≤ 4 → (s ≡ j → ⊥) → row_at next kind s ≡ row_at rows kind s
  next-other = four-other rows j _ _ _ _

  next_small : (kind s : ℕ) → 1 ≤ kind → kind ≤ 4 → s < k → row_at next kind s < 2 ^ 64
  next_small kind s h l m =
      by_eq s j
      (λ (e : s ≡ j). rw (e, next_own kind h l) (fits kind h l))
      (λ n. rw (next-other kind s h l n) (small kind s h l m))

  module _ (kind : ℕ) (h : 1 ≤ kind) (l : kind ≤ 4) where
    abbrev old : ℕ → ℕ
    old s = size (row_at rows kind s)

    abbrev new : ℕ → ℕ
    new s = size (row_at next kind s)

    rest-same : sum_to addition k (except addition j old) ≡ sum_to addition k (except addition j new)
    rest-same = sum_ext addition k _ _ (λ s m. by_eq s j
        (λ (e : s ≡ j). rw e (except-same addition j old ∙ sym (except-same addition j new)))
        (λ n. except-other addition j s old n ∙ ap size (sym (next-other kind s h l n)) ∙ sym (except-other addition j s new n)))

    resized : (x : ℕ) → x ≡ size_of rows k kind
        → ((x + (2 ^ 32 - size (row_at rows kind j))) % 2 ^ 32 + size (row kind)) % 2 ^ 32 ≡ size_of next k kind
    resized x e =
        let r = sum_to addition k (except addition j old) in
        let was : x ≡ size (row_at rows kind j) + r =
        e ∙ rows-sum (λ (t s : ℕ). row_at rows t s) rows kind k (λ s m. refl) (λ s m. small kind s h l m) ∙ sum_extract addition k j old low in
        let is : size_of next k kind ≡ new j + sum_to addition k (except addition j new) =
        rows-sum (λ (t s : ℕ). row_at next t s) next kind k (λ s m. refl) (λ s m. next_small kind s h l m) ∙ sum_extract addition k j new low in
        let most : sum_to addition k new ≤ 64 * k = sum_most k new (λ s m. size-le 64 _ (omega arith) (next_small kind s h l m)) in
        let own : new j ≡ size (row kind) = ap size (next_own kind h l) in
        let whole = sum_extract addition k j new low in
        exchanged x (size (row_at rows kind j)) r (size (row kind)) was (size-le 64 _ (omega arith) (small kind j h l low))
        (omega (arith, rest-same, most, own, whole, few))
        ∙ omega (arith, is, own, rest-same)

  sizes_anew_lem : {z : Sizes} → z ≡ sizes_of rows k
      → added (removed z (row_at rows 1 j) (row_at rows 2 j) (row_at rows 3 j) (row_at rows 4 j)) (row 1) (row 2) (row 3) (row 4) ≡ sizes_of next k
  unfolding added removed
  sizes_anew_lem {z} e =
      rw (
        ← resized 1 (omega arith) (omega arith) z.first (ap (λ (y : Sizes). y.first) e),
        ← resized 2 (omega arith) (omega arith) z.second (ap (λ (y : Sizes). y.second) e),
        ← resized 3 (omega arith) (omega arith) z.third (ap (λ (y : Sizes). y.third) e),
        ← resized 4 (omega arith) (omega arith) z.fourth (ap (λ (y : Sizes). y.fourth) e),
      )

-- ---- rows that hold those of some senders
module _ {those : ℕ → Type 0} {k : ℕ} {row_of : ℕ → ℕ → ℕ} {rows : List ℕ} {z : Sizes} (H : HoldRows those k row_of rows z) where
  -- the rows of sender j are stored anew
  pub rows_anew_lem : k ≤ 64 → (j : ℕ) → j < k → ((kind : ℕ) → 1 ≤ kind → kind ≤ 4 → row_of kind j < 2 ^ 64)
      → HoldRows (λ s. those s ⊎ (s ≡ j)) k row_of (four_set rows j (row_of 1 j) (row_of 2 j) (row_of 3 j) (row_of 4 j))
      (added (sizes_without j rows z) (row_of 1 j) (row_of 2 j) (row_of 3 j) (row_of 4 j))
  rows_anew_lem few j low fits =
      let row : ℕ → ℕ = λ kind. row_of kind j in
      record {
        sized = four-length rows j _ _ _ _ ∙ H.sized;
        small = next_small rows k few H.sized H.small j low row fits;
        row = λ kind s h l m t. by_eq s j
            (λ (e : s ≡ j). rw e (next_own rows k few H.sized H.small j low row fits kind h l))
            (λ n. next-other rows k few H.sized H.small j low row fits kind s h l n
            ∙ H.row kind s h l m (by-sum t (λ u. u) (λ e. absurd (n e))));
        sizes = sizes_anew_lem rows k few H.sized H.small j low row fits H.sizes;
      }

  -- and with them the sizes, as code stores them
  pub rows_replaced : k ≤ 64 → (j : ℕ) → j < k → {f : Four} → AreFour (λ kind. row_of kind j) f → {rows' : List ℕ} {z' : Sizes}
      → rows' ≡ with_four rows j f → z' ≡ sizes_replaced rows z j f → HoldRows (λ s. those s ⊎ (s ≡ j)) k row_of rows' z'
  rows_replaced few j low A e q =
      let fits : (kind : ℕ) → 1 ≤ kind → kind ≤ 4 → row_of kind j < 2 ^ 64 =
      λ kind h l. by_eq kind 1 (λ (t : kind ≡ 1). rw (t, ← A.first.0) A.first.1)
      (λ n1. by_eq kind 2 (λ (t : kind ≡ 2). rw (t, ← A.second.0) A.second.1)
      (λ n2. by_eq kind 3 (λ (t : kind ≡ 3). rw (t, ← A.third.0) A.third.1)
      (λ n3. let t : kind ≡ 4 = omega arith in rw (t, ← A.fourth.0) A.fourth.1))) in
      rw (e, q, lt-ltb j 64 (omega (arith, few, low)), A.first.0, A.second.0, A.third.0, A.fourth.0) (rows_anew_lem few j low fits)

  -- fewer senders, or others of which it is known
  pub hold_those : {these : ℕ → Type 0} → ((s : ℕ) → s < k → these s → those s) → HoldRows these k row_of rows z
  hold_those f = record { sized = H.sized; small = H.small; row = λ kind s h l m t. H.row kind s h l m (f s m t); sizes = H.sizes }

-- any sender is no station of the step, or one of the two
pub others_or_two : (step : Step) (s : ℕ) → (Others step s ⊎ (s ≡ step.sender)) ⊎ (s ≡ step.receiver)
others_or_two step s = by_eq s step.sender (λ e. inl (inr e)) (λ n. by_eq s step.receiver (λ e. inr e) (λ m. inl (inl (n, m))))
