-- Rows that follow a step: those of a sender that may send to no station of the step stand, since only these two have come to other states.
-- Assumes nothing.
use mathlib.Core.Path.{◌≡◌, sym, ◌∙◌, ap}
use mathlib.Core.Bool.{Bool, true, false, ◌&&◌}
use mathlib.Core.Logic.{◌⊎◌, inl, inr}
use mathlib.Core.List.{List}
use Prim.Native.Nat.{ℕ, ◌+◌, ◌<◌}
use native.Mathlib.Omega.{arith}
use lib.Bits.{bit_and}
use borrow.Author.Tests.{lt-ltb, ne_eqb}
use Rattle.finite.proofs.Cases.{by_bool, by_eq, by-sum, eqb_self, or_left, or_right, clash}
use Rattle.bitset.specs.Set.{member, union, bit_if, put}
use Rattle.bitset.proofs.Laws.{member_empty, same_sets}
use Rattle.bitset.proofs.Selected.{bit_has, member-and}
use Rattle.bitset.proofs.Unions.{member_union, member-put}
use Rattle.aggregate.specs.declared.Config.{Config}
use Rattle.station.specs.declared.Station.{Station}
use Rattle.schedule.specs.declared.Step.{Step}
use Rattle.schedule.specs.declared.rows.Sizes.{Sizes}
use Rattle.schedule.specs.Internal.Rows.{Others}
use Rattle.schedule.proofs.Resizing.{hold_those, others_or_two}
use Rattle.rendezvous.specs.declared.listing.States.{States}
use Rattle.rendezvous.specs.declared.listing.Sends.{Sends}
use Rattle.rendezvous.specs.Internal.Receivers.{takers_in, kept_at, Agree, Renewed, HoldTakers, HoldSome}
use Rattle.rendezvous.proofs.Kept.{stored_other}

pub hold_all : {those : ℕ → Type 0} {k : ℕ} {states : States} {sent : ℕ → Sends} {rows : List ℕ} {z : Sizes}
    → ((s : ℕ) → s < k → those s) → HoldSome those k states sent rows z → HoldTakers k states sent rows z
hold_all f H = record { sized = H.hold.sized; row = λ kind s h l m. H.hold.row kind s h l m (f s m); sizes = H.hold.sizes }

-- the two stations of a step
abbrev both_of : Step → ℕ
both_of step = union (bit_if true step.sender) (bit_if true step.receiver)

-- what is sent to the stations of a set
abbrev met : ℕ → Sends → ℕ
met set x = bit_and (union x.starts x.home) set

-- the senders below n, and those that may send to no station of a set
abbrev pub Passed : ℕ → (ℕ → Sends) → ℕ → ℕ → Type 0
Passed set sent n s = (s < n) ⊎ (met set (sent s) ≡ 0)

-- ---- the rows of a sender stand that may send to neither station of the step
module _ (step : Step) (hs : step.sender < 64) (hr : step.receiver < 64) where
  bit_own : (i : ℕ) → i < 64 → member i (bit_if true i) ≡ true
  bit_own i l = bit_has true i i ∙ rw (lt-ltb i 64 l, eqb_self i)

  sender_in : member step.sender (both_of step) ≡ true
  sender_in = member_union step.sender _ _ ∙ or_left _ _ (bit_own step.sender hs)

  receiver_in : member step.receiver (both_of step) ≡ true
  receiver_in = member_union step.receiver _ _ ∙ or_right (member step.receiver (bit_if true step.sender)) _ (bit_own step.receiver hr)

  -- no station of the step is in a part of what is sent
  missed : (x : Sends) (i part : ℕ) → met (both_of step) x ≡ 0 → (member i part ≡ true → member i (union x.starts x.home) ≡ true)
      → member i (both_of step) ≡ true → member i part ≡ false
  missed x i part e in_all b =
      by_bool (member i part)
      (λ t.
      let in-met : member i (met (both_of step) x) ≡ true = member-and i (union x.starts x.home) (both_of step) ∙ rw (in_all t, b) in
      clash in-met (ap (member i) e ∙ member_empty i))
      (λ f. f)

  -- a part that misses both is cut the same by sets that agree on the others
  same_cut : (part a b : ℕ) → ((i : ℕ) → Others step i → member i b ≡ member i a)
      → ((i : ℕ) → member i (both_of step) ≡ true → member i part ≡ false) → bit_and part a ≡ bit_and part b
  same_cut part a b agree none =
      same_sets _ _
      (λ i.
      let two : member i (both_of step) ≡ true → (member i part && member i a) ≡ (member i part && member i b) = λ t. rw (none i t) in
      member-and i part a
      ∙ by-sum (others_or_two step i)
      (λ t. by-sum t
      (λ o. ap (λ (c : Bool). member i part && c) (sym (agree i o)))
      (λ e. two (ap (λ (n : ℕ). member n (both_of step)) e ∙ sender_in)))
      (λ e. two (ap (λ (n : ℕ). member n (both_of step)) e ∙ receiver_in))
      ∙ sym (member-and i part b))

  module _ {old states : States} (A : Agree step old states) where
    takers_stand : (kind : ℕ) (x : Sends) → met (both_of step) x ≡ 0 → takers_in kind x old ≡ takers_in kind x states
    unfolding takers_in
    takers_stand kind x e =
        let starts : (i : ℕ) → member i (both_of step) ≡ true → member i x.starts ≡ false =
        λ i. missed x i x.starts e (λ t. member_union i x.starts x.home ∙ or_left _ _ t) in
        let home : (i : ℕ) → member i (both_of step) ≡ true → member i x.home ≡ false =
        λ i. missed x i x.home e (λ t. member_union i x.starts x.home ∙ or_right (member i x.starts) _ t) in
        rw (
          same_cut x.starts old.asleep states.asleep A.asleep_as starts,
          same_cut x.starts old.active states.active A.active_as starts,
          same_cut x.home old.active states.active A.active_as home,
        )

    pub rows_stand : {k : ℕ} {sent : ℕ → Sends} {rows : List ℕ} {z : Sizes} → HoldSome (Others step) k old sent rows z
        → HoldSome (λ s. Others step s × (met (both_of step) (sent s) ≡ 0)) k states sent rows z
    rows_stand {k} {sent} H =
        record {
          hold = record {
            sized = H.hold.sized;
            small = H.hold.small;
            row = λ kind s h l m t. H.hold.row kind s h l m t.0 ∙ takers_stand kind (sent s) t.1;
            sizes = H.hold.sizes;
          };
        }

-- ---- the senders passed, one after the other
module _ (set : ℕ) {k : ℕ} {states : States} {sent : ℕ → Sends} {rows : List ℕ} {z : Sizes} where
  pub passed_none : (step : Step) → set ≡ both_of step
      → HoldSome (λ s. ((Others step s × (met (both_of step) (sent s) ≡ 0)) ⊎ (s ≡ step.sender)) ⊎ (s ≡ step.receiver)) k states sent rows z
      → HoldSome (Passed set sent 0) k states sent rows z
  passed_none step e H =
      record {
        hold = hold_those H.hold (λ s m t.
            let missing : met (both_of step) (sent s) ≡ 0 = by-sum t (λ l. absurd (omega (arith, l))) (λ q. ap (λ (b : ℕ). met b (sent s)) (sym e) ∙ q) in
            by-sum (others_or_two step s) (λ u. by-sum u (λ o. inl (inl (o, missing))) (λ q. inl (inr q))) (λ q. inr q));
      }

  pub passed_missing : {x : ℕ} → met set (sent x) ≡ 0 → HoldSome (Passed set sent x) k states sent rows z
      → HoldSome (Passed set sent (x + 1)) k states sent rows z
  passed_missing {x} e H =
      record {
        hold = hold_those H.hold (λ s m t. by-sum t
            (λ l. by_eq s x (λ (q : s ≡ x). inr (rw q e)) (λ n. inl (omega (arith, l, n))))
            (λ q. inr q));
      }

  pub passed_anew : {x : ℕ} → HoldSome (λ s. Passed set sent x s ⊎ (s ≡ x)) k states sent rows z
      → HoldSome (Passed set sent (x + 1)) k states sent rows z
  passed_anew {x} H =
      record {
        hold = hold_those H.hold (λ s m t. by-sum t
            (λ l. by_eq s x (λ q. inr q) (λ n. inl (inl (omega (arith, l, n)))))
            (λ q. inl (inr q)));
      }

-- ---- a step leaves what is kept of every station but its two
put_other : (i j set : ℕ) (c : Bool) → j < 64 → (i ≡ j → ⊥) → member i (put j c set) ≡ member i set
put_other i j set c l n = member-put j c set i l ∙ rw (ne_eqb i j n)

module _ (step : Step) (hs : step.sender < 64) (hr : step.receiver < 64) (t : Config) (a b : Station) (kept : List Sends) (states : States)
    {kept₁ kept₂ : List Sends} {states₁ states₂ : States} (x : Renewed t step.sender a kept states kept₁ states₁)
    (y : Renewed t step.receiver b kept₁ states₁ kept₂ states₂) where
  pub states_agree : Agree step states states₂
  states_agree =
      record {
        asleep_as = λ i o.
            ap (λ (u : States). member i u.asleep) y.1 ∙ put_other i step.receiver states₁.asleep _ hr o.1
            ∙ ap (λ (u : States). member i u.asleep) x.1 ∙ put_other i step.sender states.asleep _ hs o.0;
        active_as = λ i o.
            ap (λ (u : States). member i u.active) y.1 ∙ put_other i step.receiver states₁.active _ hr o.1
            ∙ ap (λ (u : States). member i u.active) x.1 ∙ put_other i step.sender states.active _ hs o.0;
      }

  pub kept_others : (i : ℕ) → Others step i → kept_at kept₂ i ≡ kept_at kept i
  kept_others i o =
      ap (λ (w : List Sends). kept_at w i) y.0 ∙ stored_other kept₁ step.receiver _ i o.1
      ∙ ap (λ (w : List Sends). kept_at w i) x.0 ∙ stored_other kept step.sender _ i o.0
