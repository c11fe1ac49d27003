-- What an allowed step leaves of the form: the sender keeps its own, and the receiver's can be broken only by what it has gathered, or, told, by
-- waiting still. Assumes nothing.
use mathlib.Core.Path.{◌≡◌, refl, sym, ◌∙◌, ap, ap₂, subst}
use mathlib.Core.Bool.{Bool, true, false, not, ◌&&◌, cond, and-true, and-false, and_assoc}
use mathlib.Core.List.{List, [], ◌∷◌}
use mathlib.Core.Logic.{◌⊎◌, inl, inr}
use Prim.Native.Nat.{ℕ, zero, suc, ◌-◌, ◌<◌, ◌≤◌}
use native.Mathlib.Omega.{arith}
use lib.ListN.{get_or, set, length}
use lib.Seq.{get_or-set_same, get_or-set_other}
use lib.Dec.{eqb}
use borrow.Author.Tests.{eqb-true, eqb-false, ne_eqb, not-true}
use Rattle.finite.specs.Below.{all_below}
use Rattle.finite.proofs.Cases.{by_bool, by_eq, by-sum, and_both, or_right}
use Rattle.finite.proofs.Below.{all_below_lem, all_below-at, all_below_fails, all_below-one, all_below_both, all_below_ext}
use Rattle.finite.proofs.Lists.{set_either, set-two_either}
use Rattle.aggregate.specs.declared.Config.{Config}
use Rattle.aggregate.specs.declared.Aggregate.{Aggregate}
use Rattle.aggregate.specs.Aggregate.{root_of, valid, bounded, clipped, absent}
use Rattle.aggregate.proofs.Laws.{clipped-bounded}
use Rattle.station.specs.declared.Station.{Station}
use Rattle.station.specs.Events.{may_send_start}
use Rattle.station.specs.Form as form
use Rattle.station.proofs.Formed.{facts, woken_formed, answer_taken_formed, start_sent_formed, start_taken_formed, ended_formed}
use Rattle.schedule.specs.declared.Step.{Step}
use Rattle.schedule.specs.Rules.{allowed}
use Rattle.schedule.proofs.Listing.{range_bounds}
use Rattle.schedule.proofs.Answers.{allowed_parts}
use Rattle.stations.specs.Stations.{no_station, station_at, are_well_formed}
use Rattle.stations.specs.Words.{config_in, stations_in}
use Rattle.stations.specs.Kept.{kept_read}
use Rattle.stations.proofs.Kept.{kept_read_lem}
use Rattle.stations.proofs.Laws.{config_valid, well_formed-at, replaced_kept, replaced_bounded}
use Rattle.aggregate.proofs.Laws.{valid-k}
use Rattle.rendezvous.specs.Net.{Net, carries, carrying_in, net_in, station, kept_at, with_one, with_two, told, settled, told_well, carrying_well, well_formed}
use Rattle.rendezvous.specs.Figure.{wake, pass, answer, starts, wakes, hears, gathers, finishes, may_step, assigned}
use Rattle.rendezvous.specs.Telling.{is_tell, known, hears_total, told_by}
use Rattle.rendezvous.specs.Rules.{apply, rules}
use Rattle.rendezvous.specs.Internal.Receivers.{keeps_form, place_formed}
use Rattle.rendezvous.proofs.Guards.{wake-guard}
use Rattle.rendezvous.proofs.Laws.{formed_back, formed_flat, back_parts, flag_zero, held-bounded}
use Rattle.rendezvous.proofs.Places.{config_kept, carrying_kept, kept_kept}
use Rattle.rendezvous.proofs.Settled.{plain, at_plain, WaveStep, reports_alone, wave_of, plain_wave, apply_wave, apply-tell, settle_assigned, tell_parts, tell-plain}

-- in a net, only what station i holds decides on the form of its stations
abbrev Decides : Net → ℕ → Type 0
Decides net i = are_well_formed net.config net.stations ≡ bounded net.config (station net i).held

-- ---- steps of kinds 1 to 4, among stations in form
module _ (net : Net) (f : are_well_formed net.config net.stations ≡ true) (j i : ℕ) (lj : j < net.config.k) (li : i < net.config.k) where
  abbrev t : Config
  t = net.config

  at : (x : ℕ) → x < t.k → form.well_formed t x (station net x) ≡ true
  at = well_formed-at t net.stations f

  holds : bounded t (station net i).held ≡ true
  holds = (facts t i (station net i) (at i li)).held-bounded

  two-decide : (s r : Station) → form.well_formed t j s ≡ true → form.well_formed t i r ≡ bounded t r.held → Decides (with_two net j s i r) i
  two-decide s r hs hr = replaced_bounded t (set net.stations j s) (replaced_kept t net.stations f j s lj hs) i r li hr

  wakes-decide : (j ≡ i → ⊥) → Decides (with_two net j (starts i (station net j)) i (wakes j (station net i))) i
  wakes-decide apart =
      two-decide _ _ (start_sent_formed t j (station net j) (at j lj) i)
      (woken_formed t i (station net i) (at i li) j (valid-k t (config_valid t net.stations f)).1 lj
      ∙ or_right (eqb i (root_of t)) (not (eqb j i)) (rw (ne_eqb j i apart))
      ∙ sym holds)

  ended_decides : j ≡ i → Decides (with_one net j (finishes (station net j))) i
  ended_decides e =
      rw (← e)
      (replaced_bounded t net.stations f j (finishes (station net j)) lj
      (ended_formed t j (station net j) (at j lj) ∙ sym (facts t j (station net j) (at j lj)).held-bounded))

  applied_decide : (kind : ℕ) → (eqb kind wake ≡ true → j ≡ i → ⊥) → (eqb kind wake ≡ false → eqb kind pass ≡ false → eqb kind answer ≡ false → j ≡ i)
      → Decides (assigned net kind j i) i
  unfolding assigned
  applied_decide kind apart alone =
      by_bool (eqb kind wake) (λ w. rw w (wakes-decide (apart w)))
      (λ w. by_bool (eqb kind pass)
      (λ p. rw (w, p) (two-decide _ _ (start_sent_formed t j (station net j) (at j lj) i) (start_taken_formed t i (station net i) (at i li) ∙ sym holds)))
      (λ p. by_bool (eqb kind answer)
      (λ a. rw (w, p, a) (two-decide _ _ (ended_formed t j (station net j) (at j lj)) (answer_taken_formed t i (station net i) (at i li) (station net j).held)))
      (λ a. rw (w, p, a) (ended_decides (alone w p a)))))

wave_after : (net : Net) (s : Step) → are_well_formed net.config net.stations ≡ true → WaveStep net s
    → Decides (assigned net s.kind s.sender s.receiver) s.receiver
wave_after net s f v =
    let kind = s.kind in
    let j = s.sender in
    let i = s.receiver in
    applied_decide net f j i v.range.sender-low v.range.receiver-low kind
    (λ w e.
    let guard : (eqb (station net i).state 0 && (may_send_start i (station net j) && not (eqb i j))) ≡ true =
    sym (wake-guard net.config j i (station net j) (station net i))
    ∙ ap (λ (k : ℕ). may_step net.config k j i (station net j) (station net i)) (sym (eqb-true kind wake w))
    ∙ v.guarded in
    eqb-false i j (not-true (eqb i j) (and_both (may_send_start i (station net j)) (not (eqb i j)) (and_both (eqb (station net i).state 0) _ guard).1).1) (sym e))
    (λ w p a. reports_alone v.range w p a)

-- ---- told stations
-- a message less to wait for leaves a told station well
hears_well : (t : Config) (x : ℕ) (s r : Station) → r.state ≡ s.state → r.waits ≡ s.waits - 1 → told_well t x s ≡ true → told_well t x r ≡ true
unfolding told_well
hears_well t x s r e f w =
    by_bool (eqb s.state told)
    (λ q.
    let both = and_both (not (eqb x (root_of t))) (eqb s.waits 0) (rw q at w) in
    let none : r.waits ≡ 0 = omega (arith, f, eqb-true s.waits 0 both.1) in
    rw (e, q, none) (ap (λ (b : Bool). b && true) both.0))
    (λ q. rw (e, q))

-- a finished station has a place
long_enough : (l : List Station) (i : ℕ) → (get_or l i no_station).state ≡ 2 → i < length l
long_enough [] i e = absurd (let z : ⊥ = omega (arith, e) in z)
long_enough (s ∷ l) zero e = omega arith
long_enough (s ∷ l) (suc i) e = omega (arith, long_enough l i e)

-- what a net that carries back asks of a place beside
abbrev beside_well : Net → ℕ → Bool
beside_well net i = told_well net.config i (station net i) && bounded net.config (kept_at net i)

module _ (c : Net) (b : carries c ≡ true) (f : well_formed c ≡ true) where
  abbrev here : Config
  here = c.config

  parts : (are_well_formed here (plain c).stations ≡ true) × (all_below here.k (beside_well c) ≡ true)
  parts = back_parts c (sym (formed_back c b) ∙ f)

  place : (x : ℕ) → x < here.k → (told_well here x (station c x) ≡ true) × (bounded here (kept_at c x) ≡ true)
  place x l = and_both (told_well here x (station c x)) (bounded here (kept_at c x)) (all_below-at (beside_well c) here.k x parts.1 l)

  -- what a station knows is bounded
  known-bounded : (x : ℕ) → x < here.k → bounded here (known c x) ≡ true
  known-bounded x l =
      by_bool (eqb x (root_of here))
      (λ e. ap (λ (b : Bool). bounded here (cond b (station c x).held (kept_at c x))) e ∙ held-bounded c f x l)
      (λ e. ap (λ (b : Bool). bounded here (cond b (station c x).held (kept_at c x))) e ∙ (place x l).1)

  -- the stations that a step of kinds 1 to 4 leaves
  module _ (j i : ℕ) (lj : j < here.k) (li : i < here.k) where
    well_two : (x : ℕ) (s r : Station) → x < here.k → told_well here j s ≡ true → told_well here i r ≡ true
        → told_well here x (get_or (set (set c.stations j s) i r) x no_station) ≡ true
    well_two x s r l a b =
        set-two_either (λ (y : ℕ) (st : Station). told_well here y st ≡ true) c.stations j i x s r no_station a b (place x l).0

    finishes_well : told_well here j (finishes (station c j)) ≡ true
    unfolding told_well
    finishes_well = refl

    wakes_well : told_well here i (wakes j (station c i)) ≡ true
    unfolding told_well
    wakes_well = refl

    starts_well : told_well here j (starts i (station c j)) ≡ true
    unfolding told_well
    starts_well = (place j lj).0

    assigned_well : (kind x : ℕ) → x < here.k → told_well here x (station (assigned c kind j i) x) ≡ true
    unfolding assigned
    assigned_well kind x l =
        by_eq kind 1
        (λ e. rw e (well_two x _ _ l starts_well wakes_well))
        (λ n₁. by_eq kind 2
        (λ e. rw e (well_two x _ _ l starts_well (hears_well here i (station c i) (hears (station c i)) refl refl (place i li).0)))
        (λ n₂. by_eq kind 3
        (λ e. rw e (well_two x _ _ l finishes_well (hears_well here i (station c i) (gathers here (station c j) (station c i)) refl refl (place i li).0)))
        (λ n₃. rw (ne_eqb kind 1 n₁, ne_eqb kind 2 n₂, ne_eqb kind 3 n₃)
        (set_either (λ (st : Station). told_well here x st ≡ true) c.stations j x (finishes (station c j)) no_station
        (λ e. subst (λ (y : ℕ). told_well here y (finishes (station c j)) ≡ true) (sym e) finishes_well) (place x l).0))))

  module _ (next : Net) (same : next.config ≡ here) (still : next.carrying ≡ c.carrying) where
    -- the form of a next net, in its two parts
    formed_next : (p q : Bool) → are_well_formed here (plain next).stations ≡ p
        → all_below here.k (λ x. told_well here x (station next x) && bounded here (kept_at next x)) ≡ q → well_formed next ≡ (p && q)
    unfolding carrying_well
    formed_next p q u v =
        formed_back next (ap (λ (n : ℕ). eqb n 1) still ∙ b)
        ∙ ap₂ (λ (x y : Bool). x && y)
        (ap (λ (d : Config). are_well_formed d (plain next).stations) same ∙ u)
        (ap (λ (d : Config). all_below d.k (λ x. told_well d x (station next x) && bounded d (kept_at next x))) same ∙ v)

  module _ (s : Step) (a : allowed rules c s ≡ true) where
    abbrev next : Net
    next = apply c s

    -- a step of kinds 1 to 4: what the receiver holds decides
    back_wave : is_tell s ≡ false → well_formed next ≡ bounded here (station next s.receiver).held
    back_wave w =
        let e = apply_wave c s w in
        let v = wave_of c s a w in
        let kind = s.kind in
        let j = s.sender in
        let i = s.receiver in
        let same : next.config ≡ here = ap (λ (d : Net). d.config) e ∙ config_kept c kind j i in
        let still : next.carrying ≡ c.carrying = ap (λ (d : Net). d.carrying) e ∙ carrying_kept c kind j i in
        let settles : plain next ≡ assigned (plain c) kind j i = ap plain e ∙ settle_assigned c j i kind in
        let first : are_well_formed here (plain next).stations ≡ bounded here (station next i).held =
        ap (λ (d : Config). are_well_formed d (plain next).stations) (sym same)
        ∙ subst (λ (d : Net). are_well_formed d.config d.stations ≡ bounded d.config (station d i).held) (sym settles)
        (wave_after (plain c) s parts.0 (plain_wave c s v))
        ∙ ap₂ bounded same (ap (λ (st : Station). st.held) (at_plain next i)) in
        let second : all_below here.k (λ x. told_well here x (station next x) && bounded here (kept_at next x)) ≡ true =
        all_below_lem _ here.k (λ x l.
        ap₂ (λ (y z : Bool). y && z)
        (ap (λ (d : Net). told_well here x (station d x)) e ∙ assigned_well j i v.range.sender-low v.range.receiver-low kind x l)
        (ap (λ (d : Net). bounded here (kept_at d x)) e ∙ ap (λ (l : List Aggregate). bounded here (get_or l x absent)) (kept_kept c kind j i) ∙ (place x l).1)) in
        formed_next next same still _ _ first second ∙ and-true (bounded here (station next i).held)

    -- a tell: whether its receiver still waits decides
    back-tell : is_tell s ≡ true → well_formed next ≡ eqb (station next s.receiver).waits 0
    unfolding told_by told_well
    back-tell w =
        let e = apply-tell c s w in
        let bounds = range_bounds rules c s (allowed_parts rules c s a).0 in
        let p = tell_parts c s a w in
        let i = s.receiver in
        let new = hears_total (station c i) in
        let given = clipped here (known c s.sender) in
        let same : next.config ≡ here = ap (λ (d : Net). d.config) e in
        let still : next.carrying ≡ c.carrying = ap (λ (d : Net). d.carrying) e in
        let own : station next i ≡ new =
        ap (λ (d : Net). station d i) e ∙ get_or-set_same c.stations i new no_station (long_enough c.stations i p.finished-is) in
        let first : are_well_formed here (plain next).stations ≡ true = ap (λ (d : Net). are_well_formed here d.stations) (tell-plain c s a w) ∙ parts.0 in
        let kept_low : (x : ℕ) → x < here.k → bounded here (kept_at next x) ≡ true =
        λ x l.
        ap (λ (d : Net). bounded here (kept_at d x)) e
        ∙ set_either (λ (u : Aggregate). bounded here u ≡ true) c.kept i x given absent
        (λ q. clipped-bounded here (known c s.sender) ∙ known-bounded s.sender bounds.sender-low) (place x l).1 in
        let test : ℕ → Bool = λ x. told_well here x (station next x) && bounded here (kept_at next x) in
        let others : (x : ℕ) → x < here.k → (x ≡ i → ⊥) → test x ≡ true =
        λ x l n.
        ap₂ (λ (y z : Bool). y && z)
        (ap (λ (d : Net). told_well here x (station d x)) e ∙ ap (told_well here x) (get_or-set_other c.stations i x new no_station n) ∙ (place x l).0)
        (kept_low x l) in
        let well : told_well here i (station next i) ≡ eqb (station next i).waits 0 =
        ap (told_well here i) own
        ∙ ap (λ (x : Bool). not x && eqb (station c i).waits 0) (ne_eqb i (root_of here) p.no_root)
        ∙ sym (ap (λ (st : Station). eqb st.waits 0) own) in
        let second : all_below here.k test ≡ eqb (station next i).waits 0 =
        all_below-one test here.k i bounds.receiver-low others
        ∙ ap₂ (λ (y z : Bool). y && z) well (kept_low i bounds.receiver-low)
        ∙ and-true (eqb (station next i).waits 0) in
        formed_next next same still _ _ first second

-- ---- the form after an allowed step
formed_after : (net : Net) (s : Step) → well_formed net ≡ true → allowed rules net s ≡ true
    → well_formed (apply net s) ≡ keeps_form net.config s.kind (station (apply net s) s.receiver)
formed_after net s f a =
    let r = station (apply net s) s.receiver in
    by_bool (is_tell s)
    (λ w. by_bool (carries net)
    (λ b. back-tell net b f s a w ∙ sym (ap (λ (x : Bool). cond x (eqb r.waits 0) (bounded net.config r.held)) w))
    (λ b. let high : s.kind ≤ 4 = subst (λ (x : Bool). s.kind ≤ cond x 5 4) b (range_bounds rules net s (allowed_parts rules net s a).0).kind_high in
    absurd (let z : ⊥ = omega (arith, high, eqb-true s.kind 5 w) in z)))
    (λ w.
    let held : well_formed (apply net s) ≡ bounded net.config r.held =
    by_bool (carries net)
    (λ b. back_wave net b f s a w)
    (λ b.
    let zero = flag_zero net f b in
    let e = apply_wave net s w in
    let kind = s.kind in
    let j = s.sender in
    let i = s.receiver in
    let still : (apply net s).carrying ≡ 0 = ap (λ (d : Net). d.carrying) e ∙ carrying_kept net kind j i ∙ zero in
    formed_flat (apply net s) still
    ∙ subst (λ (d : Net). are_well_formed d.config d.stations ≡ bounded d.config (station d i).held) (sym e)
    (wave_after net s (sym (formed_flat net zero) ∙ f) (wave_of net s a w))
    ∙ ap (λ (d : Config). bounded d r.held) (ap (λ (d : Net). d.config) e ∙ config_kept net kind j i)) in
    held ∙ sym (ap (λ (x : Bool). cond x (eqb r.waits 0) (bounded net.config r.held)) w))

-- what the receiver shows decides on the form of the net after an allowed step
pub next_formed : (net : Net) (s : Step) → well_formed net ≡ true → allowed rules net s ≡ true → {next : Net} → next ≡ apply net s
    → well_formed next ≡ keeps_form net.config s.kind (station next s.receiver)
next_formed net s f a e =
    subst (λ (x : Net). well_formed x ≡ keeps_form net.config s.kind (station x s.receiver)) (sym e) (formed_after net s f a)

-- ---- the form, place by place: what one loop of the code tests
-- of a flag that is one of the two
pub formed_places : (net : Net) → (net.carrying ≡ 0) ⊎ (net.carrying ≡ 1)
    → well_formed net ≡ (valid net.config
    && all_below net.config.k (λ i. place_formed net.carrying net.config i (station net i) (kept_at net i)))
unfolding well_formed carrying_well are_well_formed
formed_places net flag =
    let t = net.config in
    let v = valid t in
    by-sum flag
    (λ e. rw e)
    (λ e.
    let p : ℕ → Bool = λ i. form.well_formed t i (station_at (plain net).stations i) in
    let q : ℕ → Bool = beside_well net in
    rw e
    (and_assoc v (all_below t.k p) (all_below t.k q)
    ∙ ap (λ (b : Bool). v && b)
    (all_below_both t.k p q
    ∙ all_below_ext t.k (λ i. p i && q i) (λ i. form.well_formed t i (settled (station net i)) && q i)
    (λ i l. ap (λ (s : Station). form.well_formed t i s && q i) (at_plain net i)))))

-- and of another
pub unformed_flag : (net : Net) → 1 < net.carrying → well_formed net ≡ false
unfolding well_formed
unformed_flag net h = rw (ne_eqb net.carrying 1 (λ e. omega arith), ne_eqb net.carrying 0 (λ e. omega arith))

-- a flag that is not above 1 is one of the two
pub flag_low : (n : ℕ) → n ≤ 1 → (n ≡ 0) ⊎ (n ≡ 1)
flag_low n h = by_eq n 0 (λ e. inl e) (λ e. inr (omega arith))

-- what each place says of the form
abbrev pub placed : Net → ℕ → Bool
placed net i = place_formed net.carrying net.config i (station net i) (kept_at net i)

module _ (net : Net) (low : net.carrying ≤ 1) where
  flagged : (net.carrying ≡ 0) ⊎ (net.carrying ≡ 1)
  flagged = flag_low net.carrying low

  pub barred_config : valid net.config ≡ false → well_formed net ≡ false
  barred_config v = formed_places net flagged ∙ (rw v)

  pub barred_place : (i : ℕ) → i < net.config.k → placed net i ≡ false → well_formed net ≡ false
  barred_place i l b =
      formed_places net flagged
      ∙ ap (λ (x : Bool). valid net.config && x) (all_below_fails (placed net) net.config.k i l b)
      ∙ and-false (valid net.config)

  pub all_placed : valid net.config ≡ true → all_below net.config.k (placed net) ≡ true → well_formed net ≡ true
  all_placed v a = formed_places net flagged ∙ (rw (v, a))

-- what code reads of a place is what the words hold
pub place_read : (words totals : List ℕ) (i : ℕ) → i < 64 → {carrying : ℕ} {t : Config} {s : Station} → carrying ≡ carrying_in words → t ≡ config_in words
    → s ≡ station_at (stations_in words) i → place_formed carrying t i s (kept_read totals i) ≡ placed (net_in words totals) i
place_read words totals i l e f g = rw (e, f, g, kept_read_lem totals i l)
