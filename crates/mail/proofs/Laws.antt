-- What each mailbox holds, and what an answer in it brings, after one is written and after starts are posted, of 36,992 words. Assumes
-- nothing.
use mathlib.Core.Path.{◌≡◌, refl, ap₂, ◌∙◌, fun_ext}
use mathlib.Core.Bool.{Bool, true, false, not, ◌&&◌, ◌||◌, cond, and-false}
use mathlib.Core.List.{List}
use Prim.Native.Nat.{ℕ, zero, suc, ◌+◌, ◌<◌, ◌≤◌}
use native.Mathlib.Nat.{not-suc-le-zero}
use native.Mathlib.Omega.{arith}
use lib.ListN.{length, get_or, set, length-set}
use lib.Seq.{get_or-set_same, get_or-set_other}
use lib.Dec.{eqb}
use borrow.Author.Tests.{ne_eqb}
use Rattle.finite.proofs.Cases.{by_bool, by_eq, eqb_self}
use Rattle.bitset.specs.Set.{member}
use Rattle.bitset.proofs.Unions.{member_union, member-minus, member-put}
use Rattle.aggregate.specs.declared.Config.{Config}
use Rattle.aggregate.specs.declared.Aggregate.{Aggregate}
use Rattle.aggregate.specs.Aggregate.{cell, clipped, from_words, missing_word}
use Rattle.aggregate.proofs.Words.{words_ext, FitsWord, words_again}
use Rattle.mail.specs.declared.Message.TheVariants.{Start, Answer}
use Rattle.mail.specs.declared.Mailbox.{Mailbox}
use Rattle.mail.specs.declared.Mailbox.TheVariants.{Empty, Full}
use Rattle.mail.specs.Mail.{starts_of, answers_of, missing_place, sum_place, box_at, brought_at, with_sets, with_waiting, with_sums, with_answer}
use Rattle.mail.specs.Mail.{with_message, with_box, starts_posted}

-- ---- the lengths stay
length-sets : (boxes : List ℕ) (s a b : ℕ) → length (with_sets boxes s a b) ≡ length boxes
length-sets boxes s a b = length-set (set boxes s a) (64 + s) b ∙ length-set boxes s a

length-waiting : (boxes : List ℕ) (s r : ℕ) (a b : Bool) → length (with_waiting boxes s r a b) ≡ length boxes
unfolding with_waiting
length-waiting boxes s r a b = length-sets boxes s _ _

length-sums : (boxes : List ℕ) (s r : ℕ) (v : Aggregate) (n : ℕ) → length (with_sums boxes s r v n) ≡ length boxes
unfolding with_sums
length-sums boxes s r v zero = refl
length-sums boxes s r v (suc n) = length-set (with_sums boxes s r v n) (sum_place n s r) (cell v n).sum ∙ length-sums boxes s r v n

pub length_box : (boxes : List ℕ) (s r : ℕ) (b : Mailbox) (v : Aggregate) → length (with_box boxes s r b v) ≡ length boxes
unfolding with_box with_message with_answer
length_box boxes s r Empty v = length-waiting boxes s r false false
length_box boxes s r (Full Start) v = length-waiting boxes s r true false
length_box boxes s r (Full Answer) v =
    length-sums (set (with_waiting boxes s r false true) (missing_place s r) (missing_word v)) s r v 8
    ∙ length-set (with_waiting boxes s r false true) (missing_place s r) (missing_word v)
    ∙ length-waiting boxes s r false true

pub length-starts : (boxes : List ℕ) (s stations : ℕ) → length (starts_posted boxes s stations) ≡ length boxes
unfolding starts_posted
length-starts boxes s stations = length-sets boxes s _ _

-- ---- the words of an answer
module _ (boxes : List ℕ) (s r : ℕ) (v : Aggregate) where
  -- a word that is no sum of it
  sums-other : (i : ℕ) → ((j : ℕ) → i ≡ sum_place j s r → ⊥) → (n : ℕ) → get_or (with_sums boxes s r v n) i 0 ≡ get_or boxes i 0
  unfolding with_sums
  sums-other i other zero = refl
  sums-other i other (suc n) = get_or-set_other (with_sums boxes s r v n) (sum_place n s r) i (cell v n).sum 0 (other n) ∙ sums-other i other n

  -- its sum of class j
  sums_same : length boxes ≡ 36992 → s < 64 → r < 64 → (n j : ℕ) → j < n → n ≤ 8 → get_or (with_sums boxes s r v n) (sum_place j s r) 0 ≡ (cell v j).sum
  unfolding with_sums
  sums_same long hs hr zero j l m = absurd (not-suc-le-zero l)
  sums_same long hs hr (suc n) j l m =
      by_eq j n
      (λ (e : j ≡ n). rw e (get_or-set_same (with_sums boxes s r v n) (sum_place n s r) (cell v n).sum 0 (omega (arith, length-sums boxes s r v n))))
      (λ q.
      get_or-set_other (with_sums boxes s r v n) (sum_place n s r) (sum_place j s r) (cell v n).sum 0 (λ e. q (omega arith))
      ∙ sums_same long hs hr n j (omega arith) (omega arith))

-- a word that is none of it
answer-other : (boxes : List ℕ) (s r : ℕ) (v : Aggregate) (i : ℕ) → (i ≡ missing_place s r → ⊥) → ((j : ℕ) → i ≡ sum_place j s r → ⊥)
    → get_or (with_answer boxes s r v) i 0 ≡ get_or (with_waiting boxes s r false true) i 0
unfolding with_answer
answer-other boxes s r v i other others =
    sums-other (set (with_waiting boxes s r false true) (missing_place s r) (missing_word v)) s r v i others 8
    ∙ get_or-set_other (with_waiting boxes s r false true) (missing_place s r) i (missing_word v) 0 other

-- ---- the sets of other senders stay: the words below 128 but two
module _ (boxes : List ℕ) (s i : ℕ) (low : i < 128) (n : i ≡ s → ⊥) (m : i ≡ 64 + s → ⊥) where
  word_sets : (a b : ℕ) → get_or (with_sets boxes s a b) i 0 ≡ get_or boxes i 0
  word_sets a b = get_or-set_other (set boxes s a) (64 + s) i b 0 m ∙ get_or-set_other boxes s i a 0 n

  word_waiting : (r : ℕ) (a b : Bool) → get_or (with_waiting boxes s r a b) i 0 ≡ get_or boxes i 0
  unfolding with_waiting
  word_waiting r a b = word_sets _ _

  pub word_box : (r : ℕ) (b : Mailbox) (v : Aggregate) → get_or (with_box boxes s r b v) i 0 ≡ get_or boxes i 0
  unfolding with_box with_message
  word_box r Empty v = word_waiting r false false
  word_box r (Full Start) v = word_waiting r true false
  word_box r (Full Answer) v = answer-other boxes s r v i (λ e. omega arith) (λ j e. omega arith) ∙ word_waiting r false true

  pub word_starts : (stations : ℕ) → get_or (starts_posted boxes s stations) i 0 ≡ get_or boxes i 0
  unfolding starts_posted
  word_starts stations = word_sets _ _

-- ---- what an answer brings stays where its words do
brought_alike : (t : Config) (l m : List ℕ) (x y : ℕ) → ((j : ℕ) → get_or l (sum_place j x y) 0 ≡ get_or m (sum_place j x y) 0)
    → get_or l (missing_place x y) 0 ≡ get_or m (missing_place x y) 0 → brought_at t l x y ≡ brought_at t m x y
unfolding brought_at
brought_alike t l m x y sums missing = ap₂ (from_words t) (fun_ext sums) missing

module _ (t : Config) (boxes : List ℕ) (s : ℕ) (hs : s < 64) (x y : ℕ) where
  -- the words past the sets stay
  word_past : (a b i : ℕ) → 128 ≤ i → get_or (with_sets boxes s a b) i 0 ≡ get_or boxes i 0
  word_past a b i past =
      get_or-set_other (set boxes s a) (64 + s) i b 0 (λ e. omega arith)
      ∙ get_or-set_other boxes s i a 0 (λ e. omega arith)

  brought_sets : (a b : ℕ) → brought_at t (with_sets boxes s a b) x y ≡ brought_at t boxes x y
  brought_sets a b =
      brought_alike t (with_sets boxes s a b) boxes x y (λ j. word_past a b (sum_place j x y) (omega arith))
      (word_past a b (missing_place x y) (omega arith))

  pub brought_starts : (stations : ℕ) → brought_at t (starts_posted boxes s stations) x y ≡ brought_at t boxes x y
  unfolding starts_posted
  brought_starts stations = brought_sets _ _

  brought_waiting : (r : ℕ) (start answer : Bool) → brought_at t (with_waiting boxes s r start answer) x y ≡ brought_at t boxes x y
  unfolding with_waiting
  brought_waiting r start answer = brought_sets _ _

  pub brought_emptied : (r : ℕ) (v : Aggregate) → brought_at t (with_box boxes s r Empty v) x y ≡ brought_at t boxes x y
  unfolding with_box
  brought_emptied r v = brought_waiting r false false

-- what a mailbox is, of its two tests
abbrev held : Bool → Bool → Mailbox
held start answer = cond start (Full Start) (cond answer (Full Answer) Empty)

-- ---- the words of a sender x after those of s are written
module _ (boxes : List ℕ) (long : length boxes ≡ 36992) (s : ℕ) (hs : s < 64) (x : ℕ) (hx : x < 64) where
  module _ (a b : ℕ) where
    starts-after : starts_of (with_sets boxes s a b) x ≡ cond (eqb x s) a (starts_of boxes x)
    starts-after =
        get_or-set_other (set boxes s a) (64 + s) x b 0 (λ e. omega arith)
        ∙ by_eq x s
        (λ (e : x ≡ s). rw (e, eqb_self s) (get_or-set_same boxes s a 0 (omega arith)))
        (λ n. rw (ne_eqb x s n) (get_or-set_other boxes s x a 0 n))

    answers-after : answers_of (with_sets boxes s a b) x ≡ cond (eqb x s) b (answers_of boxes x)
    answers-after =
        by_eq x s
        (λ (e : x ≡ s). rw (e, eqb_self s) (get_or-set_same (set boxes s a) (64 + s) b 0 (omega (arith, length-set boxes s a))))
        (λ n. rw (ne_eqb x s n)
        (get_or-set_other (set boxes s a) (64 + s) (64 + x) b 0 (λ e. n (omega arith)) ∙ get_or-set_other boxes s (64 + x) a 0 (λ e. omega arith)))

    -- a mailbox after other sets are written for a sender
    sets-after : (y : ℕ) → box_at (with_sets boxes s a b) x y ≡ cond (eqb x s) (held (member y a) (member y b)) (box_at boxes x y)
    unfolding box_at
    sets-after y = rw (starts-after, answers-after) (by_bool (eqb x s) (λ t. rw t) (λ f. rw f))

  -- every mailbox after a station posted its starts: those from it to the stations in the set hold one
  pub box_after-starts : (stations y : ℕ)
      → box_at (starts_posted boxes s stations) x y ≡ cond (eqb x s && member y stations) (Full Start) (box_at boxes x y)
  unfolding starts_posted box_at
  box_after-starts stations y =
      sets-after _ _ y
      ∙ by_eq x s
      (λ (e : x ≡ s). rw (e, eqb_self s, member_union y (starts_of boxes s) stations, member-minus y (answers_of boxes s) stations)
      (posts (member y (starts_of boxes s)) (member y (answers_of boxes s)) (member y stations)))
      (λ n. rw (ne_eqb x s n))
    where
      posts : (start answer m : Bool) → held (start || m) (answer && not m) ≡ cond m (Full Start) (held start answer)
      posts true answer true = refl
      posts true answer false = refl
      posts false answer true = refl
      posts false true false = refl
      posts false false false = refl

  module _ (r : ℕ) (hr : r < 64) (y : ℕ) (hy : y < 64) where
    -- a mailbox of which is told what waits in it: that one by what is told, or as it was
    box_after-waiting : (start answer : Bool)
        → box_at (with_waiting boxes s r start answer) x y ≡ cond (eqb x s && eqb y r) (held start answer) (box_at boxes x y)
    unfolding with_waiting box_at
    box_after-waiting start answer =
        sets-after _ _ y
        ∙ by_eq x s
        (λ (e : x ≡ s). rw (e, eqb_self s, member-put r start (starts_of boxes s) y hr, member-put r answer (answers_of boxes s) y hr)
        (by_bool (eqb y r) (λ t. rw t) (λ f. rw f)))
        (λ n. rw (ne_eqb x s n))

    -- what an answer brings is beside the sets
    box_after-answer : (v : Aggregate) → box_at (with_answer boxes s r v) x y ≡ box_at (with_waiting boxes s r false true) x y
    unfolding box_at
    box_after-answer v =
        rw (
          answer-other boxes s r v x (λ e. omega arith) (λ j e. omega arith),
          answer-other boxes s r v (64 + x) (λ e. omega arith) (λ j e. omega arith),
        )

    -- every mailbox after one is written: that one, or as it was
    pub box_after : (b : Mailbox) (v : Aggregate) → box_at (with_box boxes s r b v) x y ≡ cond (eqb x s && eqb y r) b (box_at boxes x y)
    unfolding with_box with_message
    box_after Empty v = box_after-waiting false false
    box_after (Full Start) v = box_after-waiting true false
    box_after (Full Answer) v = box_after-answer v ∙ box_after-waiting false true

    module _ (t : Config) where
      -- what an answer brings after it is written
      brought_same : (v : Aggregate) → brought_at t (with_answer boxes s r v) s r ≡ from_words t (λ j. (cell v j).sum) (missing_word v)
      unfolding brought_at with_answer
      brought_same v =
          let l = with_waiting boxes s r false true in
          let m = set l (missing_place s r) (missing_word v) in
          let enough : length m ≡ 36992 = length-set l (missing_place s r) (missing_word v) ∙ length-waiting boxes s r false true ∙ long in
          let missing = sums-other m s r v (missing_place s r) (λ j e. omega arith) 8
          ∙ get_or-set_same l (missing_place s r) (missing_word v) 0 (omega (arith, length-waiting boxes s r false true)) in
          rw missing (words_ext t _ _ (missing_word v) (λ j u. sums_same m s r v enough hs hr 8 j (omega arith) (omega arith)))

      -- and in every other mailbox
      brought_other : (v : Aggregate) → (x ≡ s → y ≡ r → ⊥) → brought_at t (with_answer boxes s r v) x y ≡ brought_at t boxes x y
      brought_other v apart =
          brought_alike t (with_answer boxes s r v) (with_waiting boxes s r false true) x y
          (λ j. answer-other boxes s r v (sum_place j x y) (λ e. omega arith) (λ i e. apart (omega arith) (omega arith)))
          (answer-other boxes s r v (missing_place x y) (λ e. apart (omega arith) (omega arith)) (λ i e. omega arith))
          ∙ brought_waiting t boxes s hs x y r false true

      -- what every answer brings after one is posted with what a station gives: that one this, or as it was
      pub brought_posted : (a : Aggregate) → FitsWord t a
          → brought_at t (with_box boxes s r (Full Answer) (clipped t a)) x y ≡ cond (eqb x s && eqb y r) (clipped t a) (brought_at t boxes x y)
      unfolding with_box with_message
      brought_posted a fits =
          by_eq x s
          (λ (e : x ≡ s). by_eq y r
          (λ (f : y ≡ r). rw (e, f, eqb_self s, eqb_self r) (brought_same (clipped t a) ∙ words_again t a fits))
          (λ n. rw (ne_eqb y r n, and-false (eqb x s)) (brought_other (clipped t a) (λ _ f. n f))))
          (λ n. rw (ne_eqb x s n) (brought_other (clipped t a) (λ e _. n e)))
