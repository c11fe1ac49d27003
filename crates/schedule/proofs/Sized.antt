-- A search in rows by their sizes: these add up to the length of the list, and they say in which kind an entry stands, so what a draw picks by
-- them is an entry of the list. Assumes nothing.
use Rattle.std.proofs.Common.{◌≡◌, ℕ, ◌+◌, ◌-◌, ◌*◌, ◌%◌, ◌^◌, ◌≤◌, true, false, ltb, List, length, refl, ap, ◌∙◌, mod-eq_of_lt, arith, length-append, ltb-false, ltb-true, eq-eqb, ne_eqb}
use Rattle.finite.proofs.Cases.{by_bool, by_eq}
use Rattle.schedule.specs.declared.Step.{Step}
use Rattle.schedule.specs.declared.rows.Sizes.{Sizes}
use Rattle.schedule.specs.Listing.{select}
use Rattle.schedule.specs.Draws.{picked}
use Rattle.schedule.specs.Rows.{steps_of_kind, entry, in_rows, entry_of_kind, size_of, total_of, entry_by_size, picked_by_size}
use Rattle.schedule.specs.Internal.Rows.{steps_of, listed_in, sizes_of}
use Rattle.schedule.proofs.Parts.{steps_of-none, steps_of_more, select-append}
use Rattle.schedule.proofs.Scan.{AtKind, kind_found, kind_past, kind_last}
use Rattle.schedule.proofs.RowLists.{listed_few}
use Rattle.schedule.proofs.Picks.{picked_none, picked-entry}

module _ (rows : List ℕ) (k : ℕ) where
  -- the steps of the kinds from `kind` on
  abbrev from : ℕ → List Step
  from kind = select (in_rows rows) (steps_of 64 4 k kind)

  kind_length : (kind : ℕ) → kind ≤ 4 → length (from kind) ≡ size_of rows k kind + length (from (kind + 1))
  unfolding size_of
  kind_length kind h =
      ap length (ap (select (in_rows rows)) (steps_of_more 64 4 k kind h) ∙ select-append (in_rows rows) (steps_of_kind 64 k kind 0) (steps_of 64 4 k (kind + 1)))
      ∙ length-append (select (in_rows rows) (steps_of_kind 64 k kind 0)) (from (kind + 1))

  past-length : length (from 5) ≡ 0
  unfolding select
  past-length = ap (λ (l : List Step). length (select (in_rows rows) l)) (steps_of-none 64 4 k 5 (omega arith))

  pub total-listed : k ≤ 255 → total_of (sizes_of rows k) ≡ length (listed_in rows 4 k)
  unfolding total_of listed_in
  total-listed low =
      let one = kind_length 1 (omega arith) in
      let two = kind_length 2 (omega arith) in
      let three = kind_length 3 (omega arith) in
      let four = kind_length 4 (omega arith) in
      let few : length (from 1) ≤ 255 * (255 * 64) = listed_few rows 4 k (omega arith) low in
      let whole : size_of rows k 1 + size_of rows k 2 + size_of rows k 3 + size_of rows k 4 ≡ length (from 1) = omega (arith, one, two, three, four, past-length) in
      rw (
        mod-eq_of_lt {n = size_of rows k 1 + size_of rows k 2} {m = 2 ^ 32} (omega (arith, whole, few)),
        mod-eq_of_lt {n = size_of rows k 1 + size_of rows k 2 + size_of rows k 3} {m = 2 ^ 32} (omega (arith, whole, few)),
        mod-eq_of_lt {n = size_of rows k 1 + size_of rows k 2 + size_of rows k 3 + size_of rows k 4} {m = 2 ^ 32} (omega (arith, whole, few)),
      ) whole

  -- before a kind, in the search for entry n
  module _ (n : ℕ) where
    abbrev Before : ℕ → ℕ → Type 0
    Before kind left = AtKind (in_rows rows) (entry (listed_in rows 4 k) n) 64 4 k kind left

    before_all : Before 1 n
    unfolding listed_in
    before_all = record { same = refl }

    in_kind : {kind left : ℕ} → Before kind left → kind ≤ 4 → ltb left (size_of rows k kind) ≡ true → entry_of_kind rows k kind left ≡ entry (listed_in rows 4 k) n
    unfolding size_of
    in_kind b h t = kind_found (ltb-true _ _ t) h b

    past_kind : {kind left : ℕ} → Before kind left → kind ≤ 4 → ltb left (size_of rows k kind) ≡ false → Before (kind + 1) (left - size_of rows k kind)
    unfolding size_of
    past_kind b h t = kind_past (ltb-false _ _ t) h b

    pub entry_by_size_lem : entry_by_size rows (sizes_of rows k) k n ≡ entry (listed_in rows 4 k) n
    unfolding entry_by_size
    entry_by_size_lem =
        let one = before_all in
        by_bool (ltb n (size_of rows k 1)) (λ t. rw t (in_kind one (omega arith) t))
        (λ f. let two = past_kind one (omega arith) f in
        rw f (by_bool (ltb (n - size_of rows k 1) (size_of rows k 2)) (λ t. rw t (in_kind two (omega arith) t))
        (λ f. let three = past_kind two (omega arith) f in
        rw f (by_bool (ltb (n - size_of rows k 1 - size_of rows k 2) (size_of rows k 3)) (λ t. rw t (in_kind three (omega arith) t))
        (λ f. rw f (kind_last refl (past_kind three (omega arith) f)))))))

  -- a pick by the sizes of the rows is that of their list
  pub picked_by_size_lem : {z : Sizes} → k ≤ 255 → z ≡ sizes_of rows k → (d : ℕ) → picked_by_size rows z k d ≡ picked (listed_in rows 4 k) d
  unfolding picked_by_size
  picked_by_size_lem low e d =
      let l = listed_in rows 4 k in
      rw (e, total-listed low, entry_by_size_lem (d % length l))
      (by_eq (length l) 0
      (λ z. rw (eq-eqb (length l) 0 z) (picked_none l d z))
      (λ n. rw (ne_eqb (length l) 0 n) (picked-entry l d n)))
