-- A loop over the classes in use stores a cell in each: what it has done at class i, how it goes on, and what it leaves, written once for
-- every such loop. Assumes nothing.
use mathlib.Core.Path.{◌≡◌, refl, ◌∙◌, ap, ap₂}
use mathlib.Core.Bool.{Bool, true, false, cond}
use mathlib.Core.List.{List}
use Prim.Native.Nat.{ℕ, ◌+◌}
use lib.Dec.{ltb}
use lib.ListN.{length, set, get_or-replicate}
use Rattle.finite.proofs.Below.{stored, stored_more, stored-table, tabulate_ext}
use Rattle.aggregate.specs.declared.Cell.{Cell}
use Rattle.aggregate.specs.declared.Aggregate.{Aggregate}
use Rattle.aggregate.specs.Aggregate.{cell, places, zero_cell, nothing}
use Rattle.aggregate.proofs.Joining.{pair}
use Rattle.aggregate.proofs.Laws.{places_ext}

-- f 0, .., f (i − 1) are stored over the places that were there
pub record Storing (f : ℕ → Cell) (before after : Aggregate) (i : ℕ) : Type 0 where
  pub sums_are : after.sums ≡ stored before.sums i (λ j. (f j).sum)
  pub missing_are : after.missing ≡ stored before.missing i (λ j. (f j).missing)

module _ (f : ℕ → Cell) (before : Aggregate) where
  pub storing_none : Storing f before before 0
  unfolding stored
  storing_none = record { sums_are = refl; missing_are = refl }

  module _ (after : Aggregate) (i : ℕ) (S : Storing f before after i) where
    pub storing_more : (z : Cell) → z ≡ f i → Storing f before (record { sums = set after.sums i z.sum; missing = set after.missing i z.missing }) (i + 1)
    storing_more z e =
        record {
          sums_are = stored_more (λ j. (f j).sum) before.sums i after.sums z.sum S.sums_are (ap (λ (y : Cell). y.sum) e);
          missing_are = stored_more (λ j. (f j).missing) before.missing i after.missing z.missing S.missing_are (ap (λ (y : Cell). y.missing) e);
        }

    -- past the last class in use: the places below it are f's, the others what they were
    pub storing_all : (n : ℕ) → i ≡ n → length before.sums ≡ 8 → length before.missing ≡ 8 → after ≡ places (λ j. cond (ltb j n) (f j) (cell before j))
    storing_all n e ls lm =
        ap₂ (λ (s m : List ℕ). record { sums = s; missing = m })
        (S.sums_are ∙ ap (λ (k : ℕ). stored before.sums k (λ j. (f j).sum)) e ∙ stored-table (λ j. (f j).sum) before.sums 8 n 0 ls
        ∙ tabulate_ext 8 _ _ (λ j l. part (λ (y : Cell). y.sum) (ltb j n) (f j) (cell before j)))
        (S.missing_are ∙ ap (λ (k : ℕ). stored before.missing k (λ j. (f j).missing)) e ∙ stored-table (λ j. (f j).missing) before.missing 8 n 0 lm
        ∙ tabulate_ext 8 _ _ (λ j l. part (λ (y : Cell). y.missing) (ltb j n) (f j) (cell before j)))
      where
        part : (p : Cell → ℕ) (b : Bool) (x y : Cell) → cond b (p x) (p y) ≡ p (cond b x y)
        part p true x y = refl
        part p false x y = refl

-- over zeros
pub storing_over-zeros : (f : ℕ → Cell) (after : Aggregate) (i n : ℕ) → Storing f nothing after i → i ≡ n → after ≡ places (λ j. cond (ltb j n) (f j) zero_cell)
unfolding nothing
storing_over-zeros f after i n S e =
    storing_all f nothing after i S n e refl refl
    ∙ places_ext _ _ (λ j l. ap (cond (ltb j n) (f j)) (pair (get_or-replicate 8 j 0 0 l) (get_or-replicate 8 j 0 0 l)))
