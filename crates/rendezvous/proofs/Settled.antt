-- Told stations taken as finished: of the steps of kinds 1 to 4 no guard of Figure 2 tells a told station from a finished one, and no effect
-- makes one; a tell changes nothing then. So a net that carries back is, but for tells, one that does not. Assumes nothing.
use mathlib.Core.Path.{◌≡◌, refl, sym, ap, ap₂, ◌∙◌, subst}
use mathlib.Core.Bool.{Bool, true, false, not, ◌&&◌, ◌||◌, cond}
use mathlib.Core.List.{List, map}
use Prim.Native.Nat.{ℕ, ◌<◌, ◌≤◌}
use native.Mathlib.Omega.{arith}
use lib.ListN.{get_or, set, length, replicate, get_or-map}
use lib.Seq.{get_or-set_same, get_or-set_other}
use lib.Dec.{eqb}
use borrow.Author.Tests.{eqb-true, eqb-false, eq-eqb, ne_eqb, not-true}
use Rattle.finite.proofs.Cases.{clash, by_eq, and_both}
use Rattle.finite.proofs.Lists.{map-set, set_own, set_either, set-two_either}
use Rattle.aggregate.specs.declared.Config.{Config}
use Rattle.aggregate.specs.Aggregate.{root_of, nothing, clipped, absent}
use Rattle.station.specs.declared.Station.{Station}
use Rattle.station.specs.Events.{finished}
use Rattle.stations.specs.Stations.{no_station}
use Rattle.schedule.specs.declared.Step.{Step}
use Rattle.schedule.specs.Rules.{allowed}
use Rattle.schedule.specs.Listing.{step}
use Rattle.schedule.proofs.Listing.{range_bounds, bounds_range}
use Rattle.schedule.proofs.Answers.{allowed_parts}
use Rattle.rendezvous.specs.Net.{Net, carries, station, kept_at, told, settled}
use Rattle.rendezvous.specs.Figure.{wake, pass, answer, report, may_step, assigned, finishes, starts, wakes, hears, gathers}
use Rattle.rendezvous.specs.Telling.{tell, is_tell, is_reported, knows, known, may_tell, hears_total, told_by}
use Rattle.rendezvous.specs.Rules.{apply, rules}

-- a net of these stations that does not carry back
abbrev pub flat : Config → List Station → Net
flat t l = record { config = t; stations = l; carrying = 0; kept = replicate 64 nothing }

-- the net without what is carried back
abbrev pub plain : Net → Net
plain c = flat c.config (map settled c.stations)

-- station i has been told
abbrev pub is_told : Net → ℕ → Bool
is_told c i = eqb (station c i).state told

pub at_plain : (c : Net) (i : ℕ) → station (plain c) i ≡ settled (station c i)
at_plain c i = get_or-map settled c.stations i no_station

-- a told station is neither asleep nor active, as a finished one
pub settled_early : (n m : ℕ) → m < 2 → eqb (cond (eqb n told) 2 n) m ≡ eqb n m
settled_early n m l =
    by_eq n told
    (λ (e : n ≡ told). rw e (ne_eqb 2 m (λ q. omega (arith, l, q)) ∙ sym (ne_eqb 3 m (λ q. omega (arith, l, q)))))
    (λ f. rw (ne_eqb n told f))

-- one that is not told is settled
pub settled_untold : (s : Station) → eqb s.state told ≡ false → settled s ≡ s
settled_untold s u =
    ap (λ (b : Bool). record { held = s.held; unstarted = s.unstarted; parent = s.parent; waits = s.waits; state = cond b 2 s.state }) u

may-settled : (t : Config) (kind j i : ℕ) (s r : Station) → may_step t kind j i (settled s) (settled r) ≡ may_step t kind j i s r
unfolding may_step
may-settled t kind j i s r =
    rw (settled_early s.state 1 (omega arith), settled_early r.state 0 (omega arith), settled_early r.state 1 (omega arith))

-- a net that does not carry back has no tells
pub no_tell : (c : Net) (s : Step) → c.carrying ≡ 0 → allowed rules c s ≡ true → is_tell s ≡ false
no_tell c s z a =
    let b = range_bounds rules c s (allowed_parts rules c s a).0 in
    let high : s.kind ≤ 4 = subst (λ (x : ℕ). s.kind ≤ cond (eqb x 1) tell report) z b.kind_high in
    ne_eqb s.kind tell (λ e. omega (arith, high, e))

-- what is asked of the numbers of a step of kinds 1 to 4
pub record WaveRange (t : Config) (s : Step) : Type 0 where
  pub kind_low : 1 ≤ s.kind
  pub kind_high : s.kind ≤ 4
  pub sender-low : s.sender < t.k
  pub receiver-low : s.receiver < t.k
  pub at-root : s.kind ≡ report → (s.sender ≡ root_of t) × (s.receiver ≡ root_of t)

-- where it is none of the first three it is a report, and the root's alone
pub reports_alone : {t : Config} {s : Step} → WaveRange t s → eqb s.kind wake ≡ false → eqb s.kind pass ≡ false → eqb s.kind answer ≡ false
    → s.sender ≡ s.receiver
reports_alone {t} {s} r w p a =
    let at = r.at-root (omega (arith, eqb-false s.kind wake w, eqb-false s.kind pass p, eqb-false s.kind answer a, r.kind_low, r.kind_high)) in
    at.0 ∙ sym at.1

-- what is known of such a step that is allowed
pub record WaveStep (net : Net) (s : Step) : Type 0 where
  pub range : WaveRange net.config s
  pub guarded : may_step net.config s.kind s.sender s.receiver (station net s.sender) (station net s.receiver) ≡ true

pub kinds_least : (b : Bool) → 4 ≤ cond b tell report
kinds_least true = omega arith
kinds_least false = omega arith

pub kinds_most : (b : Bool) → cond b tell report ≤ 5
kinds_most true = omega arith
kinds_most false = omega arith

module _ (c : Net) (s : Step) where
  same-guard : may_step c.config s.kind s.sender s.receiver (station (plain c) s.sender) (station (plain c) s.receiver)
      ≡ may_step c.config s.kind s.sender s.receiver (station c s.sender) (station c s.receiver)
  same-guard =
      ap₂ (may_step c.config s.kind s.sender s.receiver) (at_plain c s.sender) (at_plain c s.receiver)
      ∙ may-settled c.config s.kind s.sender s.receiver (station c s.sender) (station c s.receiver)

  pub wave_of : allowed rules c s ≡ true → is_tell s ≡ false → WaveStep c s
  wave_of a w =
      let p = allowed_parts rules c s a in
      let b = range_bounds rules c s p.0 in
      record {
        range =
            record {
              kind_low = b.kind_low;
              kind_high = omega (arith, b.kind_high, kinds_most (carries c), eqb-false s.kind tell w);
              sender-low = b.sender-low;
              receiver-low = b.receiver-low;
              at-root = b.report-at-root;
            };
        guarded =
            sym (ap (λ (x : Bool). cond x (may_tell c s.sender s.receiver) (may_step c.config s.kind s.sender s.receiver (station c s.sender) (station c s.receiver))) w)
            ∙ p.1;
      }

  -- it is one of the net without carrying back, too
  pub plain_wave : WaveStep c s → WaveStep (plain c) s
  plain_wave v = record { range = v.range; guarded = same-guard ∙ v.guarded }

  pub wave_plain : WaveStep (plain c) s → WaveStep c s
  wave_plain v = record { range = v.range; guarded = sym same-guard ∙ v.guarded }

  pub wave_allowed : WaveStep c s → allowed rules c s ≡ true
  unfolding allowed
  wave_allowed v =
      let r = v.range in
      let no : is_tell s ≡ false = ne_eqb s.kind tell (λ e. omega (arith, r.kind_high, e)) in
      ap₂ (λ (x y : Bool). x && y)
      (bounds_range rules c s (record {
        kind_low = r.kind_low;
        kind_high = omega (arith, r.kind_high, kinds_least (carries c));
        sender-low = r.sender-low;
        receiver-low = r.receiver-low;
        report-at-root = r.at-root;
      }))
      (ap (λ (x : Bool). cond x (may_tell c s.sender s.receiver) (may_step c.config s.kind s.sender s.receiver (station c s.sender) (station c s.receiver))) no
      ∙ v.guarded)

  -- the net after a step of kinds 1 to 4, and after a tell
  pub apply_wave : is_tell s ≡ false → apply c s ≡ assigned c s.kind s.sender s.receiver
  apply_wave w = ap (λ (x : Bool). cond x (told_by c s.sender s.receiver) (assigned c s.kind s.sender s.receiver)) w

  pub apply-tell : is_tell s ≡ true → apply c s ≡ told_by c s.sender s.receiver
  apply-tell w = ap (λ (x : Bool). cond x (told_by c s.sender s.receiver) (assigned c s.kind s.sender s.receiver)) w

-- Effects: settling the stations after a step is that step on settled stations.
module _ (c : Net) (j i : ℕ) where
  -- two stations replaced, the new sender made of the old one, the new receiver of both
  settle_two : (f : Station → Station) (h : Station → Station → Station)
      → ((s : Station) → settled (f s) ≡ f (settled s)) → ((s r : Station) → settled (h s r) ≡ h (settled s) (settled r))
      → map settled (set (set c.stations j (f (station c j))) i (h (station c j) (station c i)))
      ≡ set (set (plain c).stations j (f (station (plain c) j))) i (h (station (plain c) j) (station (plain c) i))
  settle_two f h ef eh =
      map-set settled (set c.stations j (f (station c j))) i (h (station c j) (station c i))
      ∙ ap₂ (λ (l : List Station) (r : Station). set l i r)
      (map-set settled c.stations j (f (station c j)) ∙ ap (set (plain c).stations j) (ef (station c j) ∙ ap f (sym (at_plain c j))))
      (eh (station c j) (station c i) ∙ ap₂ h (sym (at_plain c j)) (sym (at_plain c i)))

  settle_one : (f : Station → Station) → ((s : Station) → settled (f s) ≡ f (settled s))
      → map settled (set c.stations j (f (station c j))) ≡ set (plain c).stations j (f (station (plain c) j))
  settle_one f ef =
      map-set settled c.stations j (f (station c j)) ∙ ap (set (plain c).stations j) (ef (station c j) ∙ ap f (sym (at_plain c j)))

  pub settle_assigned : (kind : ℕ) → plain (assigned c kind j i) ≡ assigned (plain c) kind j i
  unfolding assigned
  settle_assigned kind =
      by_eq kind 1
      (λ e. rw e (ap (flat c.config) (settle_two (starts i) (λ s r. wakes j r) (λ s. refl) (λ s r. refl))))
      (λ n₁. by_eq kind 2
      (λ e. rw e (ap (flat c.config) (settle_two (starts i) (λ s r. hears r) (λ s. refl) (λ s r. refl))))
      (λ n₂. by_eq kind 3
      (λ e. rw e (ap (flat c.config) (settle_two finishes (λ s r. gathers c.config s r) (λ s. refl) (λ s r. refl))))
      (λ n₃. rw (ne_eqb kind 1 n₁, ne_eqb kind 2 n₂, ne_eqb kind 3 n₃) (ap (flat c.config) (settle_one finishes (λ s. refl))))))

  -- who is told after a step of kinds 1 to 4 was told before
  abbrev Was : ℕ → Station → Type 0
  Was x s = eqb s.state told ≡ true → is_told c x ≡ true

  was_two : (x : ℕ) (s r : Station) → Was j s → Was i r → Was x (get_or (set (set c.stations j s) i r) x no_station)
  was_two x s r a b = set-two_either Was c.stations j i x s r no_station a b (λ u. u)

  pub was_assigned : (kind x : ℕ) → Was x (station (assigned c kind j i) x)
  unfolding assigned
  was_assigned kind x =
      by_eq kind 1
      (λ e. rw e (was_two x _ _ (λ u. u) (λ u. clash u refl)))
      (λ n₁. by_eq kind 2
      (λ e. rw e (was_two x _ _ (λ u. u) (λ u. u)))
      (λ n₂. by_eq kind 3
      (λ e. rw e (was_two x _ _ (λ u. clash u refl) (λ u. u)))
      (λ n₃. rw (ne_eqb kind 1 n₁, ne_eqb kind 2 n₂, ne_eqb kind 3 n₃)
      (set_either (Was x) c.stations j x (finishes (station c j)) no_station (λ e u. clash u refl) (λ u. u)))))

  -- a tell to a finished station
  pub tell-settled : (station c i).state ≡ 2 → map settled (set c.stations i (hears_total (station c i))) ≡ (plain c).stations
  tell-settled e =
      let same : settled (hears_total (station c i)) ≡ settled (station c i) =
      ap (λ (n : ℕ). record { held = (station c i).held; unstarted = (station c i).unstarted; parent = (station c i).parent; waits = (station c i).waits; state = cond (eqb n told) 2 n }) (sym e) in
      map-set settled c.stations i (hears_total (station c i))
      ∙ ap (set (plain c).stations i) (same ∙ sym (at_plain c i))
      ∙ set_own (plain c).stations i no_station

-- what a tell asks
pub record Telling (c : Net) (j i : ℕ) : Type 0 where
  pub reported : is_reported c ≡ true
  pub sender-knows : knows c j ≡ true
  pub finished-is : (station c i).state ≡ 2
  pub no_root : i ≡ root_of c.config → ⊥
  pub parent_is : (station c i).parent ≡ j

pub telling : (c : Net) (j i : ℕ) → may_tell c j i ≡ true → Telling c j i
unfolding may_tell
telling c j i e =
    let root = root_of c.config in
    let x = is_reported c in
    let y = knows c j in
    let z = eqb (station c i).state finished in
    let u = not (eqb i root) in
    let p = and_both (x && y && z && u) (eqb (station c i).parent j) e in
    let q = and_both (x && y && z) u p.0 in
    let r = and_both (x && y) z q.0 in
    let v = and_both x y r.0 in
    record {
      reported = v.0;
      sender-knows = v.1;
      finished-is = eqb-true (station c i).state 2 r.1;
      no_root = eqb-false i root (not-true (eqb i root) q.1);
      parent_is = eqb-true (station c i).parent j p.1;
    }

pub may_tell_lem : (c : Net) (j i : ℕ) → Telling c j i → may_tell c j i ≡ true
unfolding may_tell
may_tell_lem c j i t =
    ap₂ (λ (x y : Bool). x && y)
    (ap₂ (λ (x y : Bool). x && y)
    (ap₂ (λ (x y : Bool). x && y)
    (ap₂ (λ (x y : Bool). x && y) t.reported t.sender-knows)
    (eq-eqb (station c i).state 2 t.finished-is))
    (ap not (ne_eqb i (root_of c.config) t.no_root)))
    (eq-eqb (station c i).parent j t.parent_is)

pub allowed-tell : (c : Net) (j i : ℕ) → carries c ≡ true → j < c.config.k → i < c.config.k → Telling c j i → allowed rules c (step tell j i) ≡ true
unfolding allowed
allowed-tell c j i b hj hi t =
    ap₂ (λ (x y : Bool). x && y)
    (bounds_range rules c (step tell j i) (record {
      kind_low = omega arith;
      kind_high = subst (λ (x : Bool). 5 ≤ cond x tell report) (sym b) (omega arith);
      sender-low = hj;
      receiver-low = hi;
      report-at-root = λ e. absurd (let z : ⊥ = omega (arith, e) in z);
    }))
    (may_tell_lem c j i t)

-- a tell that is allowed
module _ (c : Net) (s : Step) (a : allowed rules c s ≡ true) (w : is_tell s ≡ true) where
  pub tell_parts : Telling c s.sender s.receiver
  tell_parts =
      telling c s.sender s.receiver
      (sym (ap (λ (x : Bool). cond x (may_tell c s.sender s.receiver) (may_step c.config s.kind s.sender s.receiver (station c s.sender) (station c s.receiver))) w)
      ∙ (allowed_parts rules c s a).1)

  pub tell-plain : plain (apply c s) ≡ plain c
  unfolding told_by
  tell-plain =
      ap plain (apply-tell c s w)
      ∙ ap (flat c.config) (tell-settled c s.sender s.receiver tell_parts.finished-is)

-- what a tell does to each place
module _ (c : Net) (s : Step) (w : is_tell s ≡ true) (x : ℕ) where
  pub tell-told : s.receiver < length c.stations → is_told (apply c s) x ≡ (eqb x s.receiver || is_told c x)
  unfolding told_by
  tell-told l =
      let i = s.receiver in
      let new = hears_total (station c i) in
      ap (λ (d : Net). is_told d x) (apply-tell c s w)
      ∙ by_eq x i
      (λ e.
      ap (λ (y : ℕ). eqb (get_or (set c.stations i new) y no_station).state told) e
      ∙ ap (λ (r : Station). eqb r.state told) (get_or-set_same c.stations i new no_station l)
      ∙ sym (ap (λ (b : Bool). b || is_told c x) (eq-eqb x i e)))
      (λ n.
      ap (λ (r : Station). eqb r.state told) (get_or-set_other c.stations i x new no_station n)
      ∙ sym (ap (λ (b : Bool). b || is_told c x) (ne_eqb x i n)))

  pub tell_kept : s.receiver < length c.kept
      → kept_at (apply c s) x ≡ cond (eqb x s.receiver) (clipped c.config (known c s.sender)) (kept_at c x)
  unfolding told_by
  tell_kept l =
      let i = s.receiver in
      let new = clipped c.config (known c s.sender) in
      ap (λ (d : Net). kept_at d x) (apply-tell c s w)
      ∙ by_eq x i
      (λ e.
      ap (λ (y : ℕ). get_or (set c.kept i new) y absent) e
      ∙ get_or-set_same c.kept i new absent l
      ∙ sym (ap (λ (b : Bool). cond b new (kept_at c x)) (eq-eqb x i e)))
      (λ n.
      get_or-set_other c.kept i x new absent n
      ∙ sym (ap (λ (b : Bool). cond b new (kept_at c x)) (ne_eqb x i n)))
