-- Two steps far apart may change places. A step reads and writes the places that it names, and reads what the net was opened with (Places, `reach`),
-- so a step elsewhere leaves its leave and its effect as they were; a tell asks besides for the report, which no step takes back. The form is
-- asked place by place, so after both each place is in form as one of them alone leaves it. Assumes nothing.
use mathlib.Core.Path.{◌≡◌, refl, sym, ◌∙◌, ap, ap₂, subst}
use mathlib.Core.Bool.{Bool, true, cond, ◌&&◌}
use mathlib.Core.Logic.{◌⊎◌, inl, inr}
use Prim.Native.Nat.{ℕ, ◌≤◌, ◌<◌}
use native.Mathlib.Omega.{arith}
use lib.Dec.{eqb}
use borrow.Author.Tests.{eqb-true}
use Rattle.finite.specs.Below.{all_below}
use Rattle.finite.proofs.Cases.{by_bool, by_eq, by-sum, and_both}
use Rattle.finite.proofs.Below.{all_below_lem, all_below-at}
use Rattle.aggregate.specs.Aggregate.{root_of, valid}
use Rattle.schedule.specs.declared.Step.{Step}
use Rattle.schedule.specs.Rules.{step_in_range, in_range, allowed}
use Rattle.schedule.specs.Outcome.{StepOutcome, step_made}
use Rattle.schedule.specs.Draws.{step_on}
use Rattle.schedule.proofs.Outcomes.{step-allowed}
use Rattle.rendezvous.specs.Net.{Net, carries, well_formed}
use Rattle.rendezvous.specs.Figure.{report, may_step}
use Rattle.rendezvous.specs.Telling.{tell, is_tell, is_reported, may_tell}
use Rattle.rendezvous.specs.Rules.{apply, rules}
use Rattle.rendezvous.specs.FarApart.{Names, Apart, after, FarApart, Exchange}
use Rattle.rendezvous.specs.Internal.Receivers.{place_formed, may_tell_of}
use Rattle.rendezvous.proofs.Laws.{form_valid, flag_zero}
use Rattle.rendezvous.proofs.Settled.{tell_parts}
use Rattle.rendezvous.proofs.Places.{Place, place, Opened, opened, put, put_comm, Leaves, reach, opened_after, place_after, reported-after}
use Rattle.rendezvous.proofs.FormAfter.{formed_places, flag_low, placed, all_placed}

-- ---- the form, place by place
-- a place that is in form under what its net was opened with
abbrev PlaceFormed : Opened → ℕ → Place → Type 0
PlaceFormed o x a = x < o.config.k → place_formed o.carrying o.config x a.station a.kept ≡ true

flag_most : (net : Net) → well_formed net ≡ true → net.carrying ≤ 1
flag_most net f =
    by_bool (carries net)
    (λ b. let e = eqb-true net.carrying 1 b in omega (arith, e))
    (λ b. let e = flag_zero net f b in omega (arith, e))

places_formed : (net : Net) → well_formed net ≡ true → (x : ℕ) → PlaceFormed (opened net) x (place net x)
places_formed net f x l =
    let flag = flag_low net.carrying (flag_most net f) in
    let all = and_both (valid net.config) (all_below net.config.k (placed net)) (sym (formed_places net flag) ∙ f) in
    all_below-at (placed net) net.config.k x all.1 l

-- a net whose every place is that of one of two nets in form is in form
mixed_formed : (a b net : Net) → opened a ≡ opened net → opened b ≡ opened net → well_formed a ≡ true → well_formed b ≡ true
    → ((x : ℕ) → (place net x ≡ place a x) ⊎ (place net x ≡ place b x)) → well_formed net ≡ true
mixed_formed a b net ea eb fa fb from =
    let as-in : (m : Net) → opened m ≡ opened net → well_formed m ≡ true → (x : ℕ) → place net x ≡ place m x → PlaceFormed (opened net) x (place net x) =
    λ m e f x q. subst (PlaceFormed (opened net) x) (sym q) (subst (λ (o : Opened). PlaceFormed o x (place m x)) e (places_formed m f x)) in
    all_placed net (subst (λ (o : Opened). o.carrying ≤ 1) ea (flag_most a fa)) (subst (λ (o : Opened). valid o.config ≡ true) ea (form_valid a fa))
    (all_below_lem (placed net) net.config.k (λ x l. by-sum (from x) (λ q. as-in a ea fa x q l) (λ q. as-in b eb fb x q l)))

-- ---- what a step reads and writes
two_comm : (net : Net) (j i x y : ℕ) (a b c d : Place) → (j ≡ x → ⊥) → (j ≡ y → ⊥) → (i ≡ x → ⊥) → (i ≡ y → ⊥)
    → put (put (put (put net j a) i b) x c) y d ≡ put (put (put (put net x c) y d) j a) i b
two_comm net j i x y a b c d jx jy ix iy =
    ap (λ (n : Net). put n y d) (put_comm (put net j a) i x b c ix)
    ∙ put_comm (put (put net j a) x c) i y b d iy
    ∙ ap (λ (n : Net). put (put n y d) i b) (put_comm net j x a c jx)
    ∙ ap (λ (n : Net). put n i b) (put_comm (put net x c) j y a d jy)

-- what a step leaves at a place, from `net`
abbrev left_from : Net → Step → Leaves → Place
left_from net s f = f net.config (place net s.sender) (place net s.receiver)

-- both that it leaves, put into another net
abbrev puts : Step → Net → Net → Net
puts s net into = put (put into s.sender (left_from net s (reach s).sends)) (reach s).second (left_from net s (reach s).takes)

named : {P : Type 0} (s : Step) (x : ℕ) → (Names s x → P) → ((Names s x → ⊥) → P) → P
named s x p q = by_eq x s.sender (λ e. p (inl e)) (λ n. by_eq x s.receiver (λ e. p (inr e)) (λ m. q (λ w. by-sum w n m)))

same_place : (net : Net) (s : Step) (x : ℕ) → (Names s x → ⊥) → place (apply net s) x ≡ place net x
same_place net s x n = place_after net s x (λ e. n (inl e)) (λ e. n (inr e))

-- what the leave of a step is read from: what the net was opened with, the step's two places, and for a tell whether the desk has reported
abbrev leave : Step → Opened → Bool → Place → Place → Bool
leave s o done a b =
    let t = o.config in
    step_in_range (cond (eqb o.carrying 1) tell report) report t.k (root_of t) s
    && cond (is_tell s)
    (may_tell_of t s.sender s.receiver done a.station b.station)
    (may_step t s.kind s.sender s.receiver a.station b.station)

abbrev leave_in : Net → Step → Bool → Bool
leave_in net s done = leave s (opened net) done (place net s.sender) (place net s.receiver)

leave-read : (net : Net) (s : Step) → allowed rules net s ≡ leave_in net s (is_reported net)
unfolding allowed in_range may_tell
leave-read net s = refl

-- ---- t after s
module _ (net : Net) (s t : Step) (apart : Apart s t) where
  abbrev next : Net
  next = apply net s

  -- what is read of the places of t, and of what the net was opened with, stays
  read_kept : {A : Type 0} (f : Opened → Place → Place → A)
      → f (opened next) (place next t.sender) (place next t.receiver) ≡ f (opened net) (place net t.sender) (place net t.receiver)
  read_kept f =
      ap (λ (o : Opened). f o (place next t.sender) (place next t.receiver)) (opened_after net s)
      ∙ ap₂ (f (opened net))
      (same_place net s t.sender (λ n. apart t.sender n (inl refl)))
      (same_place net s t.receiver (λ n. apart t.receiver n (inr refl)))

  pub allowed_kept : allowed rules net s ≡ true → allowed rules net t ≡ true → allowed rules next t ≡ true
  allowed_kept may-s may-t =
      let here = sym (leave-read net t) ∙ may-t in
      leave-read next t
      ∙ read_kept (λ o a b. leave t o (is_reported next) a b)
      ∙ by_bool (is_tell t)
      (λ w. let r = (tell_parts net t may-t w).reported in ap (leave_in net t) (reported-after net s may-s r ∙ sym r) ∙ here)
      (λ w. rw w (rw w at here))

  effect_kept : apply next t ≡ puts t net next
  effect_kept =
      let r = reach t in
      r.effect next
      ∙ ap₂ (λ (a b : Place). put (put next t.sender a) r.second b)
      (read_kept (λ o a b. r.sends o.config a b)) (read_kept (λ o a b. r.takes o.config a b))

  twice_put : apply next t ≡ puts t net (puts s net net)
  twice_put = effect_kept ∙ ap (puts t net) ((reach s).effect net)

  -- the places written differ
  differ : (x y : ℕ) → Names s x → Names t y → x ≡ y → ⊥
  differ x y n m e = apart x n (subst (Names t) (sym e) m)

pub turned_apart : (s t : Step) → Apart s t → Apart t s
turned_apart s t apart x n m = apart x m n

-- either order leads to the same net,
pub same_net : (net : Net) (s t : Step) → Apart s t → Apart t s → apply (apply net s) t ≡ apply (apply net t) s
same_net net s t apart turned =
    let a = (reach s).named in
    let b = (reach t).named in
    let from-s = differ net s t apart s.sender in
    let at-s = differ net s t apart (reach s).second in
    twice_put net s t apart
    ∙ two_comm net _ _ _ _ _ _ _ _ (from-s _ (inl refl) (inl refl)) (from-s _ (inl refl) b) (at-s _ a (inl refl)) (at-s _ a b)
    ∙ sym (twice_put net t s turned)

-- and to one in form
pub both_formed : (net : Net) (s t : Step) → Apart s t → Apart t s → well_formed (apply net s) ≡ true → well_formed (apply net t) ≡ true
    → well_formed (apply (apply net s) t) ≡ true
both_formed net s t apart turned formed_s formed_t =
    let next-s = apply net s in
    let next-t = apply net t in
    mixed_formed next-s next-t (apply next-s t)
    (sym (opened_after next-s t)) (opened_after net t ∙ sym (opened_after net s) ∙ sym (opened_after next-s t)) formed_s formed_t
    (λ x. named s x
    (λ n. inl (same_place next-s t x (apart x n)))
    (λ n. inr (ap (λ (m : Net). place m x) (same_net net s t apart turned) ∙ same_place next-t s x n)))

-- ---- the law
pub exchange : (net : Net) (s t : Step) → FarApart net s t → Exchange net s t
exchange net s t h =
    let may-s = h.both_allowed.0 in
    let may-t = h.both_allowed.1 in
    let turned = turned_apart s t h.apart in
    let next-s = apply net s in
    let next-t = apply net t in
    let made : (u : Step) → allowed rules net u ≡ true → after net u ≡ apply net u =
    λ u a. ap (λ (o : StepOutcome Net). o.net) (step-allowed rules net u h.form_kept.formed a) in
    let formed_s = subst (λ (n : Net). well_formed n ≡ true) (made s may-s) h.form_kept.formed_s in
    let formed_t = subst (λ (n : Net). well_formed n ≡ true) (made t may-t) h.form_kept.formed_t in
    record {
      both = apply next-s t;
      s_then_t = ap (λ (n : Net). step_on rules n t) (made s may-s) ∙ step-allowed rules next-s t formed_s (allowed_kept net s t h.apart may-s may-t);
      t_then_s = ap (λ (n : Net). step_on rules n s) (made t may-t)
          ∙ step-allowed rules next-t s formed_t (allowed_kept net t s turned may-t may-s)
          ∙ ap (step_made s) (sym (same_net net s t h.apart turned));
      formed = both_formed net s t h.apart turned formed_s formed_t;
    }
