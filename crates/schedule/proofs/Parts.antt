-- Laws of the parts of the list of steps: one more kind, sender or receiver, entries by number, and lengths. Assumes nothing.
use Rattle.std.proofs.Common.{◌≡◌, ℕ, zero, suc, ◌+◌, ◌-◌, ◌*◌, ◌<◌, ◌≤◌, Bool, true, false, cond, List, [], ◌∷◌, ◌++◌, length, get_or, sym, refl, ap, ◌∙◌, append_assoc, append-nil, suc-mul, zero-mul, add-one, arith, length-append, Ok, Err}
use mathlib.Core.List.{flat_map}
use lib.ListN.{length-map}
use Rattle.schedule.specs.declared.Step.{Step}
use Rattle.schedule.specs.Listing.{numbers_from, range, select, step, candidates}
use Rattle.schedule.specs.Rows.{steps_from, steps_of_kind, entry}
use Rattle.schedule.specs.Internal.Rows.{steps_of}

pub candidates_are : (kinds k : ℕ) → candidates kinds k ≡ steps_of k kinds k 1
unfolding candidates steps_of steps_of_kind steps_from
candidates_are kinds k = refl

range_none : (a b : ℕ) → b ≤ a → range a b ≡ []
unfolding range numbers_from
range_none a b h = ap (numbers_from a) (let z : b - a ≡ 0 = omega arith in z)

range_more : (a b : ℕ) → a < b → range a b ≡ a ∷ range (a + 1) b
unfolding range numbers_from
range_more a b h =
    let e : b - a ≡ suc (b - suc a) = omega arith in
    rw (e, add-one a)

module _ (w : ℕ) where
  pub steps_from-none : (kind s r : ℕ) → w ≤ r → steps_from w kind s r ≡ []
  unfolding steps_from
  steps_from-none kind s r h = rw (range_none r w h)

  pub steps_from_more : (kind s r : ℕ) → r < w → steps_from w kind s r ≡ step kind s r ∷ steps_from w kind s (r + 1)
  unfolding steps_from
  steps_from_more kind s r h = rw (range_more r w h)

  pub steps_of_kind-none : (k kind s : ℕ) → k ≤ s → steps_of_kind w k kind s ≡ []
  unfolding steps_of_kind flat_map
  steps_of_kind-none k kind s h = rw (range_none s k h)

  pub steps_of_kind_more : (k kind s : ℕ) → s < k → steps_of_kind w k kind s ≡ steps_from w kind s 0 ++ steps_of_kind w k kind (s + 1)
  unfolding steps_of_kind flat_map
  steps_of_kind_more k kind s h = rw (range_more s k h)

  pub steps_of-none : (kinds k kind : ℕ) → kinds < kind → steps_of w kinds k kind ≡ []
  unfolding steps_of flat_map
  steps_of-none kinds k kind h = rw (range_none kind (suc kinds) h)

  pub steps_of_more : (kinds k kind : ℕ) → kind ≤ kinds → steps_of w kinds k kind ≡ steps_of_kind w k kind 0 ++ steps_of w kinds k (kind + 1)
  unfolding steps_of flat_map
  steps_of_more kinds k kind h = rw (range_more kind (suc kinds) (omega arith))

  -- a fifth kind after four
  pub five_kinds : (k : ℕ) → steps_of w 5 k 1 ≡ steps_of w 4 k 1 ++ steps_of_kind w k 5 0
  five_kinds k =
      let part : ℕ → List Step = λ kind. steps_of_kind w k kind 0 in
      let last : steps_of w 5 k 5 ≡ part 5 = steps_of_more 5 k 5 (omega arith) ∙ ap (λ (l : List Step). part 5 ++ l) (steps_of-none 5 k 6 (omega arith)) ∙ append-nil (part 5) in
      let from : (kind : ℕ) → kind ≤ 4 → steps_of w 5 k (kind + 1) ≡ steps_of w 4 k (kind + 1) ++ part 5 → steps_of w 5 k kind ≡ steps_of w 4 k kind ++ part 5 =
      λ kind h e.
      steps_of_more 5 k kind (omega arith)
      ∙ ap (λ (l : List Step). part kind ++ l) e
      ∙ sym (append_assoc (part kind) (steps_of w 4 k (kind + 1)) (part 5))
      ∙ ap (λ (l : List Step). l ++ part 5) (sym (steps_of_more 4 k kind h)) in
      from 1 (omega arith) (from 2 (omega arith) (from 3 (omega arith) (from 4 (omega arith)
      (last ∙ ap (λ (l : List Step). l ++ part 5) (sym (steps_of-none 4 k 5 (omega arith)))))))

-- entries of the steps that pass a test
module _ (p : Step → Bool) where
  pub entry-met : (s : Step) (l : List Step) (n : ℕ) → p s ≡ true → n ≡ 0 → entry (select p (s ∷ l)) n ≡ Ok s
  unfolding entry select
  entry-met s l n h z = rw (h, z)

  pub entry_passed : (s : Step) (l : List Step) (n : ℕ) → p s ≡ true → (n ≡ 0 → ⊥) → entry (select p (s ∷ l)) n ≡ entry (select p l) (n - 1)
  unfolding entry select
  entry_passed s l zero h z = absurd (z refl)
  entry_passed s l (suc n) h z =
      let e : suc n - 1 ≡ n = omega arith in
      rw (h, e)

  pub entry_skipped : (s : Step) (l : List Step) (n : ℕ) → p s ≡ false → entry (select p (s ∷ l)) n ≡ entry (select p l) n
  unfolding entry select
  entry_skipped s l n h = rw h

  -- where all pass it, all are selected
  pub select-all : ((s : Step) → p s ≡ true) → (l : List Step) → select p l ≡ l
  unfolding select
  select-all all [] = refl
  select-all all (s ∷ l) = rw (all s) (ap (λ (x : List Step). s ∷ x) (select-all all l))

  pub select-append : (l m : List Step) → select p (l ++ m) ≡ select p l ++ select p m
  unfolding select
  select-append [] m = refl
  select-append (s ∷ l) m = go (p s) (select-append l m)
    where
      go : (b : Bool) → select p (l ++ m) ≡ select p l ++ select p m → cond b (s ∷ select p (l ++ m)) (select p (l ++ m)) ≡ cond b (s ∷ select p l) (select p l) ++ select p m
      go true e = ap (λ (x : List Step). s ∷ x) e
      go false e = e

  pub select-passes : (l : List Step) (n : ℕ) (d : Step) → n < length (select p l) → p (get_or (select p l) n d) ≡ true
  unfolding select
  select-passes [] n d h = absurd (let z : ⊥ = omega arith in z)
  select-passes (s ∷ l) n d h = go (p s) refl n h (λ n. select-passes l n d)
    where
      go : (b : Bool) → p s ≡ b → (n : ℕ) → n < length (cond b (s ∷ select p l) (select p l)) → ((n : ℕ) → n < length (select p l) → p (get_or (select p l) n d) ≡ true) → p (get_or (cond b (s ∷ select p l) (select p l)) n d) ≡ true
      go true e zero h f = e
      go true e (suc n) h f = f n (omega arith)
      go false e n h f = f n h

  pub length-select : (l : List Step) → length (select p l) ≤ length l
  unfolding select
  length-select [] = omega arith
  length-select (s ∷ l) = go (p s) (length-select l)
    where
      go : (b : Bool) → length (select p l) ≤ length l → length (cond b (s ∷ select p l) (select p l)) ≤ suc (length l)
      go true e = omega arith
      go false e = omega arith

-- an entry of two lists joined
pub entry_first : (l m : List Step) (n : ℕ) (s : Step) → entry l n ≡ Ok s → entry (l ++ m) n ≡ Ok s
unfolding entry
entry_first [] m n s h = absurd (let z : ◌≡◌ {A = ℕ} 0 1 = cc in omega arith)
entry_first (t ∷ l) m zero s h = h
entry_first (t ∷ l) m (suc n) s h = entry_first l m n s h

pub entry-second : (l m : List Step) (n n' : ℕ) → entry l n ≡ Err n' → entry (l ++ m) n ≡ entry m n'
unfolding entry
entry-second [] m n n' h = ap (entry m) (let e : n ≡ n' = cc in e)
entry-second (t ∷ l) m zero n' h = absurd (let z : ◌≡◌ {A = ℕ} 0 1 = cc in omega arith)
entry-second (t ∷ l) m (suc n) n' h = entry-second l m n n' h

-- an entry by `get_or`
pub entry_at : (l : List Step) (n : ℕ) (d : Step) → n < length l → entry l n ≡ Ok (get_or l n d)
unfolding entry
entry_at [] n d h = absurd (let z : ⊥ = omega arith in z)
entry_at (t ∷ l) zero d h = refl
entry_at (t ∷ l) (suc n) d h = entry_at l n d (omega arith)

pub entry_beyond : (l : List Step) (n : ℕ) → length l ≤ n → entry l n ≡ Err (n - length l)
unfolding entry
entry_beyond [] n h = ap Err (omega arith)
entry_beyond (t ∷ l) zero h = absurd (let z : ⊥ = omega arith in z)
entry_beyond (t ∷ l) (suc n) h = entry_beyond l n (omega arith) ∙ ap Err (omega arith)

-- how many steps there are before the test
length_count : (a n : ℕ) → length (numbers_from a n) ≡ n
unfolding numbers_from
length_count a zero = refl
length_count a (suc n) = ap suc (length_count (suc a) n)

length-flat : (f : ℕ → List Step) (m : ℕ) → ((x : ℕ) → length (f x) ≡ m) → (a n : ℕ) → length (flat_map f (numbers_from a n)) ≡ n * m
unfolding numbers_from flat_map
length-flat f m h a zero = sym (zero-mul m)
length-flat f m h a (suc n) = length-append (f a) _ ∙ (let i = length-flat f m h (suc a) n in omega (arith, h a, suc-mul n m))

pub length-steps_of_kind : (w k kind : ℕ) → length (steps_of_kind w k kind 0) ≡ k * w
unfolding steps_of_kind steps_from range
length-steps_of_kind w k kind =
    let z : (n : ℕ) → n - 0 ≡ n = λ n. omega arith in
    length-flat _ w (λ s. length-map (range 0 w) (step kind s) ∙ length_count 0 (w - 0) ∙ z w) 0 (k - 0) ∙ ap (λ (n : ℕ). n * w) (z k)

pub length-steps_of : (w kinds k : ℕ) → length (steps_of w kinds k 1) ≡ kinds * (k * w)
unfolding steps_of range
length-steps_of w kinds k = length-flat _ (k * w) (λ kind. length-steps_of_kind w k kind) 1 (suc kinds - 1) ∙ ap (λ (n : ℕ). n * (k * w)) (omega arith)
