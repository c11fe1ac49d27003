-- What is kept, in lent words: each place after one is written, and nothing in zeros. Assumes nothing.
use mathlib.Core.Path.{◌≡◌, refl, sym, ap₂, ◌∙◌}
use mathlib.Core.List.{List}
use Prim.Native.Nat.{ℕ, ◌+◌, ◌*◌, ◌<◌}
use native.Mathlib.Omega.{arith}
use lib.ListN.{length, get_or, set, replicate, length-set}
use lib.Seq.{get_or-set_same, get_or-set_other, ext_get_or}
use borrow.Author.Tests.{lt-ltb}
use Rattle.finite.specs.Below as Below
use Rattle.finite.specs.Numbers as Numbers
use Rattle.finite.proofs.Cases.{by_eq}
use Rattle.finite.proofs.Below.{length-tabulate, get_d_tabulate}
use Rattle.aggregate.specs.declared.Aggregate.{Aggregate}
use Rattle.aggregate.specs.Aggregate.{of_words, nothing, absent}
use Rattle.stations.specs.Words as Words
use Rattle.stations.specs.Words.{aggregate_from, with_aggregate}
use Rattle.stations.specs.Kept.{kept_in, kept_read}
use Rattle.stations.specs.Internal.Fitting.{FitsHeld}
use Rattle.stations.proofs.Words.{sums_alike, aggregate-other, aggregate_again}

module _ (words : List ℕ) where
  pub length_kept : length (kept_in words) ≡ 64
  unfolding kept_in
  length_kept = length-tabulate (λ i. aggregate_from words (9 * i)) 64

  module _ (i : ℕ) (low : i < 64) where
    pub kept_at : get_or (kept_in words) i absent ≡ aggregate_from words (9 * i)
    unfolding kept_in
    kept_at = get_d_tabulate (λ i. aggregate_from words (9 * i)) 64 i absent low

    pub kept_read_lem : kept_read words i ≡ get_or (kept_in words) i absent
    kept_read_lem = rw (lt-ltb i 64 low) (sym kept_at)

-- what is read of words that are alike
aggregate_alike : (l m : List ℕ) (at : ℕ) → ((j : ℕ) → j < 9 → get_or l (at + j) 0 ≡ get_or m (at + j) 0) → aggregate_from l at ≡ aggregate_from m at
aggregate_alike l m at h = ap₂ of_words (sums_alike l m at (λ j u. h j (omega arith))) (h 8 (omega arith))

-- place i is written
pub kept_stored : (words : List ℕ) → length words ≡ 576 → (i : ℕ) → i < 64 → (v : Aggregate) → FitsHeld v
    → kept_in (with_aggregate words (9 * i) v) ≡ set (kept_in words) i v
kept_stored words long i low v fits =
    let after = with_aggregate words (9 * i) v in
    let same : length (kept_in after) ≡ length (set (kept_in words) i v) =
    length_kept after ∙ sym (length-set (kept_in words) i v ∙ length_kept words) in
    ext_get_or absent (kept_in after) (set (kept_in words) i v) same
    (λ x l.
    let inside : x < 64 = omega (arith, length_kept after) in
    kept_at after x inside
    ∙ by_eq x i
    (λ (e : x ≡ i). rw e
    (aggregate_again words (9 * i) v (omega arith) fits after (λ j u. refl)
    ∙ sym (get_or-set_same (kept_in words) i v absent (omega (arith, length_kept words)))))
    (λ n.
    aggregate_alike after words (9 * x) (λ j u. aggregate-other words (9 * i) v (9 * x + j) (λ h w e. n (omega arith)))
    ∙ sym (kept_at words x inside)
    ∙ sym (get_or-set_other (kept_in words) i x v absent n)))

-- zeros keep nothing
pub kept-zeros : kept_in (replicate 576 0) ≡ replicate 64 nothing
unfolding kept_in Below.tabulate Below.each nothing Words.sums_in Numbers.bytes
kept-zeros = refl
