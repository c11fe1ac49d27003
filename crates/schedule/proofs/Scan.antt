-- A scan for entry `index` of the steps that pass a test: what holds at each place of it, and how it goes from one place to the next.
-- e is the entry looked for, and `left` how many passing steps are still to pass. Assumes nothing.
use Rattle.std.proofs.Common.{◌≡◌, ℕ, zero, suc, ◌+◌, ◌-◌, ◌<◌, ◌≤◌, Bool, true, false, ltb, List, ◌++◌, length, sym, ap, ◌∙◌, subst, append-nil, arith, ltb-false, ltb-true, Result, Ok, Err}
use Rattle.finite.proofs.Cases.{by_bool}
use Rattle.schedule.specs.declared.Step.{Step}
use Rattle.schedule.specs.Listing.{select, step}
use Rattle.schedule.specs.Rows.{steps_from, steps_of_kind, entry}
use Rattle.schedule.specs.Internal.Rows.{steps_of}
use Rattle.schedule.proofs.Parts.{steps_from-none, steps_from_more, steps_of_kind-none, steps_of_kind_more, steps_of-none, steps_of_more, select-append, entry-met, entry_passed, entry_skipped, entry_first, entry-second, entry_at, entry_beyond}

-- before sender s
pub record AtSender (p : Step → Bool) (e : Result Step ℕ) (w k kind s left : ℕ) : Type 0 where
  pub same : e ≡ entry (select p (steps_of_kind w k kind s)) left

-- at sender s, before receiver r
pub record AtReceiver (p : Step → Bool) (e : Result Step ℕ) (w k kind s r left : ℕ) : Type 0 where
  pub same : e ≡ entry (select p (steps_from w kind s r ++ steps_of_kind w k kind (s + 1))) left

-- before a kind
pub record AtKind (p : Step → Bool) (e : Result Step ℕ) (w kinds k kind left : ℕ) : Type 0 where
  pub same : e ≡ entry (select p (steps_of w kinds k kind)) left

module _ {p : Step → Bool} {e : Result Step ℕ} {w k kind s left : ℕ} where
  pub senders_end : k ≤ s → AtSender p e w k kind s left → Err left ≡ e
  unfolding select entry
  senders_end h i = sym (i.same ∙ rw (steps_of_kind-none w k kind s h))

  pub row-start : s < k → AtSender p e w k kind s left → AtReceiver p e w k kind s 0 left
  row-start h i = record { same = rw (steps_of_kind_more w k kind s h) at i.same }

  -- a row that ends before the entry is passed by its length
  pub row_passed : (n : ℕ) → n ≡ length (select p (steps_from w kind s 0)) → n ≤ left
      → AtReceiver p e w k kind s 0 left → AtReceiver p e w k kind s w (left - n)
  row_passed n c h i =
      let row = select p (steps_from w kind s 0) in
      let rest = select p (steps_of_kind w k kind (s + 1)) in
      let beyond : entry row left ≡ Err (left - n) = entry_beyond row left (omega (arith, c, h)) ∙ ap (λ (m : ℕ). Err (left - m)) (sym c) in
      record {
        same =
            i.same
            ∙ ap (λ (l : List Step). entry l left) (select-append p (steps_from w kind s 0) (steps_of_kind w k kind (s + 1)))
            ∙ entry-second row rest left (left - n) beyond
            ∙ ap (λ (l : List Step). entry (select p (l ++ steps_of_kind w k kind (s + 1))) (left - n)) (sym (steps_from-none w kind s w (omega arith)));
      }

module _ {p : Step → Bool} {e : Result Step ℕ} {w k kind s r left : ℕ} where
  pub row-end : w ≤ r → AtReceiver p e w k kind s r left → AtSender p e w k kind (s + 1) left
  row-end h i = record { same = rw (steps_from-none w kind s r h) at i.same }

  pub met : r < w → p (step kind s r) ≡ true → left ≡ 0 → AtReceiver p e w k kind s r left → Ok (step kind s r) ≡ e
  met h t z i = sym ((rw (steps_from_more w kind s r h) at i.same) ∙ entry-met p _ _ left t z)

  pub passed : r < w → p (step kind s r) ≡ true → (left ≡ 0 → ⊥) → AtReceiver p e w k kind s r left → AtReceiver p e w k kind s (r + 1) (left - 1)
  passed h t z i = record { same = (rw (steps_from_more w kind s r h) at i.same) ∙ entry_passed p _ _ left t z }

  pub skipped : r < w → p (step kind s r) ≡ false → AtReceiver p e w k kind s r left → AtReceiver p e w k kind s (r + 1) left
  skipped h t i = record { same = (rw (steps_from_more w kind s r h) at i.same) ∙ entry_skipped p _ _ left t }

  past : p (step kind s r) ≡ false → AtReceiver p e w k kind s r left → AtReceiver p e w k kind s (r + 1) left
  past t i =
      by_bool (ltb r w)
      (λ l. skipped (ltb-true r w l) t i)
      (λ g.
      let far : w ≤ r = ltb-false r w g in
      let same = steps_from-none w kind s r far ∙ sym (steps_from-none w kind s (r + 1) (omega arith)) in
      record { same = i.same ∙ ap (λ (l : List Step). entry (select p (l ++ steps_of_kind w k kind (s + 1))) left) same })

-- n receivers of whom none passes
pub all_past : {p : Step → Bool} {e : Result Step ℕ} {w k kind s left : ℕ} (r n : ℕ) → ((i : ℕ) → i < n → p (step kind s (r + i)) ≡ false)
    → AtReceiver p e w k kind s r left → AtReceiver p e w k kind s (r + n) left
all_past {p} {e} {w} {k} {kind} {s} {left} r zero none i = subst (λ (x : ℕ). AtReceiver p e w k kind s x left) (omega arith) i
all_past {p} {e} {w} {k} {kind} {s} {left} r (suc n) none i =
    let before = all_past r n (λ j l. none j (omega arith)) i in
    subst (λ (x : ℕ). AtReceiver p e w k kind s x left) (omega arith) (past (none n (omega arith)) before)

module _ {p : Step → Bool} {e : Result Step ℕ} {w kinds k kind left : ℕ} where
  kind_start : kind ≤ kinds → AtKind p e w kinds k kind left → e ≡ entry (select p (steps_of_kind w k kind 0) ++ select p (steps_of w kinds k (kind + 1))) left
  kind_start h i = i.same ∙ ap (λ (l : List Step). entry l left) (ap (select p) (steps_of_more w kinds k kind h) ∙ select-append p _ _)

  -- the entry stands in this kind
  pub kind_found : left < length (select p (steps_of_kind w k kind 0)) → kind ≤ kinds → AtKind p e w kinds k kind left
      → entry (select p (steps_of_kind w k kind 0)) left ≡ e
  kind_found l h i =
      let at = entry_at (select p (steps_of_kind w k kind 0)) left (step 0 0 0) l in
      at ∙ sym (kind_start h i ∙ entry_first _ _ left _ at)

  -- the entry stands past this kind
  pub kind_past : length (select p (steps_of_kind w k kind 0)) ≤ left → kind ≤ kinds → AtKind p e w kinds k kind left
      → AtKind p e w kinds k (kind + 1) (left - length (select p (steps_of_kind w k kind 0)))
  kind_past l h i = record { same = kind_start h i ∙ entry-second _ _ left _ (entry_beyond (select p (steps_of_kind w k kind 0)) left l) }

  -- the last kind
  pub kind_last : kind ≡ kinds → AtKind p e w kinds k kind left → entry (select p (steps_of_kind w k kind 0)) left ≡ e
  unfolding select
  kind_last h i =
      sym (kind_start (omega arith) i
      ∙ ap (λ (l : List Step). entry (select p (steps_of_kind w k kind 0) ++ select p l) left) (steps_of-none w kinds k (kind + 1) (omega arith))
      ∙ ap (λ (l : List Step). entry l left) (append-nil (select p (steps_of_kind w k kind 0))))
