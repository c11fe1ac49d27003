-- A search where a fifth kind has rows of its own, beside those of the other four: its entries go after theirs. Assumes nothing.
use Rattle.std.proofs.Common.{◌≡◌, ℕ, ◌+◌, ◌*◌, ◌%◌, ◌^◌, ◌<◌, ◌≤◌, ltb, List, ◌++◌, length, sym, ◌∙◌, le_trans, mul-le-mul_right, mod-eq_of_lt, arith, length-append, ltb-false, ltb-true, lt-ltb, eq-eqb, ne_eqb}
use Rattle.finite.proofs.Cases.{by_bool, by_eq}
use Rattle.schedule.specs.declared.Step.{Step}
use Rattle.schedule.specs.declared.rows.Sizes.{Sizes}
use Rattle.schedule.specs.Listing.{select, step}
use Rattle.schedule.specs.Draws.{picked}
use Rattle.schedule.specs.Rows.{steps_of_kind, entry, in_rows, size_of, total_of, step_found, picked_by_size, entry_beside, picked_beside}
use Rattle.schedule.specs.Internal.Rows.{listed_in, sizes_of}
use Rattle.schedule.proofs.Parts.{length-select, length-steps_of_kind, entry_at, entry_first, entry_beyond, entry-second}
use Rattle.schedule.proofs.RowLists.{listed_few}
use Rattle.schedule.proofs.Sized.{total-listed, entry_by_size_lem}
use Rattle.schedule.proofs.Picks.{picked_none, picked-entry}

-- no rows list so many steps of a kind
size_few : (rows : List ℕ) (k kind : ℕ) → k ≤ 255 → size_of rows k kind ≤ 255 * 64
unfolding size_of
size_few rows k kind low =
    le_trans (length-select (in_rows rows) (steps_of_kind 64 k kind 0)) (rw (length-steps_of_kind 64 k kind) (mul-le-mul_right 64 low))

-- a number below the total picks the entry that it is, of those before the fifth kind
pub picked_low : (rows : List ℕ) (z : Sizes) (more : List ℕ) (k n : ℕ) → n < total_of z
    → picked_by_size rows z k n ≡ step_found (entry_beside rows z more k n)
unfolding picked_by_size entry_beside
picked_low rows z more k n low =
    rw (ne_eqb (total_of z) 0 (λ e. omega (arith, low, e)), mod-eq_of_lt {n = n} {m = total_of z} low, lt-ltb n (total_of z) low)

module _ (rows : List ℕ) (k : ℕ) (more : List ℕ) (low : k ≤ 255) where
  abbrev four : List Step
  four = listed_in rows 4 k

  abbrev fifth : List Step
  fifth = select (in_rows more) (steps_of_kind 64 k 5 0)

  entry_beside_lem : (n : ℕ) → entry_beside rows (sizes_of rows k) more k n ≡ entry (four ++ fifth) n
  unfolding entry_beside
  entry_beside_lem n =
      let many = total-listed rows k low in
      rw many (by_bool (ltb n (length four))
      (λ t.
      let l = ltb-true n (length four) t in
      let at = entry_at four n (step 0 0 0) l in
      rw t (entry_by_size_lem rows k n ∙ at ∙ sym (entry_first four fifth n _ at)))
      (λ f. rw f (sym (entry-second four fifth n _ (entry_beyond four n (ltb-false n (length four) f))))))

  -- a pick by the sizes of the rows is that of their list
  pub picked_beside_lem : {z : Sizes} → z ≡ sizes_of rows k → (d : ℕ) → picked_beside rows z more k d ≡ picked (four ++ fifth) d
  unfolding picked_beside size_of
  picked_beside_lem e d =
      let l = four ++ fifth in
      let parts : length l ≡ length four + length fifth = length-append four fifth in
      let few : length fifth ≤ 255 * 64 = size_few more k 5 low in
      let all : (length four + length fifth) % 2 ^ 32 ≡ length l =
      mod-eq_of_lt {n = length four + length fifth} {m = 2 ^ 32} (omega (arith, few, listed_few rows 4 k (omega arith) low)) ∙ sym parts in
      rw (e, total-listed rows k low, all, entry_beside_lem (d % length l))
      (by_eq (length l) 0
      (λ z. rw (eq-eqb (length l) 0 z) (picked_none l d z))
      (λ n. rw (ne_eqb (length l) 0 n) (picked-entry l d n)))
