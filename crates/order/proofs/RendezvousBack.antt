-- Stations that meet carry totals back, on every accepted map: with told stations taken as finished their nets are those of demand 3. What is
-- kept is a total, so bounded. Assumes nothing.
use mathlib.Core.Path.{◌≡◌, refl, sym, ap, ap₂, ◌∙◌, subst}
use mathlib.Core.Bool.{Bool, true, false, ◌&&◌, ◌||◌, cond}
use mathlib.Core.List.{List}
use Prim.Native.Nat.{ℕ, ◌^◌, ◌<◌}
use native.Mathlib.Omega.{arith}
use lib.ListN.{get_or, length, length-map, length-set, length-replicate, get_or-replicate}
use lib.Dec.{eqb, ltb}
use borrow.Author.Tests.{eq-eqb, ne_eqb}
use Rattle.finite.specs.Internal.Monoid.{sum_to}
use Rattle.finite.specs.Below.{all_below}
use Rattle.finite.proofs.Cases.{clash, by_bool, by_eq, eqb_self}
use Rattle.finite.proofs.Below.{all_below_lem}
use Rattle.finite.proofs.Sums.{sum_ext, indicator-zero}
use Rattle.finite.proofs.Lists.{map-tabulate}
use Rattle.aggregate.specs.declared.Config.{Config}
use Rattle.aggregate.specs.declared.Cell.{Cell}
use Rattle.aggregate.specs.declared.Reading.{Reading}
use Rattle.aggregate.specs.declared.Aggregate.{Aggregate}
use Rattle.aggregate.specs.Ways.{is_way}
use Rattle.aggregate.specs.Aggregate.{root_of, is_class_count, bounded, cell, empty_cell, nothing, absent, clipped}
use Rattle.aggregate.specs.Internal.Joining.{cells}
use Rattle.aggregate.proofs.Joining.{joining_cells, joining}
use Rattle.aggregate.proofs.Laws.{cells-clipped, bounded-same, nothing-bounded}
use Rattle.wave.specs.Internal.Graph.{Graph}
use Rattle.wave.specs.Internal.Wave.{State}
use Rattle.wave.proofs.Invariant.{Inv, spent, all_awake}
use Rattle.station.specs.declared.Station.{Station}
use Rattle.stations.specs.Stations.{reading_at, fresh_station, fresh_stations}
use Rattle.topology.specs.Web.{Web}
use Rattle.linemap.specs.Maps.{config_of}
use Rattle.schedule.specs.declared.Step.{Step}
use Rattle.schedule.specs.Listing.{step}
use Rattle.schedule.specs.Calls.{calls_made, calls_net}
use Rattle.schedule.proofs.Listing.{Allowed, range_bounds}
use Rattle.schedule.proofs.Answers.{allowed_parts}
use Rattle.schedule.proofs.Made.{calls_make}
use Rattle.rendezvous.specs.Net.{Net, station, kept_at, told, settled, told_well, carrying_well, well_formed, fresh_net}
use Rattle.rendezvous.specs.Telling.{tell, known, told_by}
use Rattle.rendezvous.specs.Rules.{apply, rules}
use Rattle.rendezvous.proofs.Laws.{formed_back, formed_flat}
use Rattle.rendezvous.proofs.Places.{carrying_kept, kept_kept}
use Rattle.rendezvous.proofs.Settled.{plain, flat, is_told, at_plain, settled_untold, no_tell, wave_of, plain_wave, wave_plain, wave_allowed, apply_wave, apply-tell, settle_assigned}
use Rattle.rendezvous.proofs.Settled.{was_assigned, tell_parts, tell-plain, allowed-tell, tell-told, tell_kept}
use Rattle.order.specs.Internal.Back.{is_tell}
use Rattle.order.specs.Internal.Rendezvous.{RendezvousCarried, CarriedConserved}
use Rattle.order.proofs.Local.{state_of, heard-missing}
use Rattle.order.proofs.MeetingRefines.{Meets}
use Rattle.order.proofs.Stations.{line, reading, fresh_view_lem, part-bounded}
use Rattle.order.proofs.Maps.{classes_of_lem, web_of}
use Rattle.order.proofs.RendezvousSteps.{view, Good}
use Rattle.order.proofs.Rendezvous.{ties}
use Rattle.order.proofs.Back.{Reads, Tells, Kept, Carries}
use Rattle.order.proofs.CarriedBack.{state, here, times-is, carried_back}
use Rattle.order.proofs.RendezvousOrder.{conserved_at}

-- the state of a station that is not told is that of the settled one
untold_state : (s : Station) → eqb s.state told ≡ false → s.state ≡ cond (eqb s.state told) 2 s.state
untold_state s u = sym (ap (λ (x : Station). x.state) (settled_untold s u))

fresh-settled : (t : Config) (r : Reading) (neighbours i : ℕ) → settled (fresh_station t r neighbours i) ≡ fresh_station t r neighbours i
unfolding fresh_station
fresh-settled t r neighbours i =
    by_bool (ltb i t.k)
    (λ l. by_bool (eqb i (root_of t)) (λ e. rw (l, e)) (λ e. rw (l, e)))
    (λ l. rw l)

module _ (t : Config) (counts neighbours : List ℕ) (web : Web (root_of t) t.k neighbours) (classes : (is_class_count t.classes ≡ true) × (is_way t.way ≡ true))
    (small : (i : ℕ) → get_or counts i 0 < 2 ^ 32) where
  abbrev g : Graph
  g = line t neighbours web

  abbrev read : ℕ → ℕ → Cell
  read = reading t counts

  abbrev start : Net
  start = fresh_net true t counts neighbours

  abbrev total : ℕ → Cell
  total = sum_to (joining t.way) t.k read

  abbrev reads : Reads Net Net (ℕ → Cell)
  reads =
      record {
        plain = plain;
        told = is_told;
        kept = λ c i. cells t (kept_at c i);
        unkept = cells t nothing;
        done = λ c. eqb (station c (root_of t)).state 2;
        held = λ c. cells t (station c (root_of t)).held;
      }

  -- what else is known of a net that is reached: it carries back, and has its places
  pub record Right (c : Net) : Type 0 where
    pub back : c.carrying ≡ 1
    pub long : length c.kept ≡ 64

  -- the fresh net
  start_plain : plain start ≡ fresh_net false t counts neighbours
  unfolding fresh_net fresh_stations
  start_plain =
      ap (flat t)
      (map-tabulate settled (λ i. fresh_station t (reading_at t counts i) (get_or neighbours i 0) i) (λ i. fresh-settled t (reading_at t counts i) (get_or neighbours i 0) i) 64)

  start-told : (x : ℕ) → x < t.k → is_told start x ≡ false
  unfolding fresh_net
  start-told x l =
      ap (λ (n : ℕ). eqb n told) ((fresh_view_lem t counts neighbours web).states x l)
      ∙ by_bool (eqb x (root_of t)) (λ e. rw e) (λ e. rw e)

  start_kept : (x : ℕ) → x < t.k → cells t (kept_at start x) ≡ cells t nothing
  unfolding fresh_net
  start_kept x l = ap (cells t) (get_or-replicate 64 x nothing absent (omega (arith, web.few_stations)))

  start_right : Right start
  unfolding fresh_net
  start_right = record { back = refl; long = length-replicate 64 nothing }

  module _ (c : Net) (S : State (ℕ → Cell)) (G : Good t neighbours web (plain c)) (R : Meets g (view t (plain c)) S) where
    config_is : c.config ≡ t
    config_is = G.config_is

    long : length c.stations ≡ 64
    long = sym (length-map c.stations settled) ∙ G.places.long

    -- the settled state of station x
    state-is : (x : ℕ) → x < t.k → cond (eqb (station c x).state told) 2 (station c x).state ≡ state_of g S (spent g S) x
    state-is x l = sym (ap (λ (s : Station). s.state) (at_plain c x)) ∙ R.stations.states x l

    module _ (I : Inv g (joining t.way) read S) where
      done-is : is_told c (root_of t) ≡ false → eqb (station c (root_of t)).state 2 ≡ S.reported
      done-is u =
          let r = root_of t in
          let e : (station c r).state ≡ state_of g S (spent g S) r = untold_state (station c r) u ∙ state-is r g.root_in in
          ap (λ (n : ℕ). eqb n 2) e
          ∙ by_bool S.reported (λ b. rw (I.root_up, eqb_self r, b)) (λ b. rw (I.root_up, eqb_self r, b))

      module _ (rep : S.reported ≡ true) where
        -- after the report every station has finished, and waits for nothing
        all_finished : (x : ℕ) → x < t.k → state_of g S (spent g S) x ≡ 2
        all_finished x l =
            let up = all_awake g (joining t.way) read S I (I.ended rep) x (g.joined x l) in
            by_eq x (root_of t)
            (λ e. rw (up, eq-eqb x (root_of t) e, rep))
            (λ n.
            let near = g.mutual_adj (S.parent x) x (I.sent (S.parent x) x (I.tree x up n).0).0 in
            rw (up, ne_eqb x (root_of t) n, I.ended rep x (S.parent x) near))

        untold_finished : (x : ℕ) → x < t.k → is_told c x ≡ false → (station c x).state ≡ 2
        untold_finished x l u = untold_state (station c x) u ∙ state-is x l ∙ all_finished x l

        none_waited : (x : ℕ) → x < t.k → (station c x).waits ≡ 0
        none_waited x l =
            sym (ap (λ (s : Station). s.waits) (at_plain c x))
            ∙ R.stations.waitings x l
            ∙ heard-missing g S x (λ h a. I.ended rep h x a)

      formed_of_lem : Right c → Kept reads g (joining t.way) read c S → well_formed c ≡ true
      unfolding carrying_well told_well
      formed_of_lem right K =
          formed_back c (eq-eqb c.carrying 1 right.back)
          ∙ ap₂ (λ (a b : Bool). a && b)
          (sym (formed_flat (plain c) refl) ∙ (ties t counts neighbours web classes small).formed (plain c) S (G, R) I)
          (subst (λ (u : Config). all_below u.k (λ i. told_well u i (station c i) && bounded u (kept_at c i)) ≡ true) (sym config_is)
          (all_below_lem (λ i. told_well t i (station c i) && bounded t (kept_at c i)) t.k (λ i l.
          let well : told_well t i (station c i) ≡ true =
          by_bool (is_told c i)
          (λ e.
          let no : i ≡ root_of t → ⊥ = λ q. clash (ap (is_told c) (sym q) ∙ e) K.root_untold in
          let waits : (station c i).waits ≡ 0 = none_waited (K.after i l e) i l in
          rw (e, ne_eqb i (root_of t) no, waits))
          (λ e. rw e) in
          ap₂ (λ (a b : Bool). a && b) well
          (by_bool (is_told c i)
          (λ e. part-bounded t counts neighbours web classes small (kept_at c i) (λ x. true, K.totals i l ∙ ap (λ (b : Bool). cond b total (cells t nothing)) e))
          (λ e. bounded-same t (kept_at c i) nothing (K.totals i l ∙ ap (λ (b : Bool). cond b total (cells t nothing)) e) ∙ nothing-bounded t)))))

    -- a tell that is allowed
    tells_of_lem : (s : Step) → Allowed rules c s → is_tell tell s ≡ true → Tells reads g (λ n i. (station n i).parent) c s.sender s.receiver
    tells_of_lem s a w =
        let p = tell_parts c s a w in
        let b = range_bounds rules c s (allowed_parts rules c s a).0 in
        record {
          done = subst (λ (u : Config). eqb (station c (root_of u)).state 2 ≡ true) config_is p.reported;
          sender-low = subst (λ (u : Config). s.sender < u.k) config_is b.sender-low;
          receiver-low = subst (λ (u : Config). s.receiver < u.k) config_is b.receiver-low;
          sender-knows = subst (λ (u : Config). cond (eqb s.sender (root_of u)) (eqb (station c (root_of u)).state 2) (is_told c s.sender) ≡ true) config_is p.sender-knows;
          untold = ap (λ (n : ℕ). eqb n told) p.finished-is;
          no_root = subst (λ (u : Config). s.receiver ≡ root_of u → ⊥) config_is p.no_root;
          parent_is = ap (λ (x : Station). x.parent) (at_plain c s.receiver) ∙ p.parent_is;
        }

    can_tell : Right c → Inv g (joining t.way) read S → S.reported ≡ true → (p q : ℕ) → Tells reads g (λ n i. (station n i).parent) c p q → Allowed rules c (step tell p q)
    can_tell right I rep p q x =
        allowed-tell c p q (eq-eqb c.carrying 1 right.back)
        (subst (λ (u : Config). p < u.k) (sym config_is) x.sender-low)
        (subst (λ (u : Config). q < u.k) (sym config_is) x.receiver-low)
        (record {
          reported = subst (λ (u : Config). eqb (station c (root_of u)).state 2 ≡ true) (sym config_is) x.done;
          sender-knows = subst (λ (u : Config). cond (eqb p (root_of u)) (eqb (station c (root_of u)).state 2) (is_told c p) ≡ true) (sym config_is) x.sender-knows;
          finished-is = untold_finished I rep q x.receiver-low x.untold;
          no_root = subst (λ (u : Config). q ≡ root_of u → ⊥) (sym config_is) x.no_root;
          parent_is = sym (ap (λ (y : Station). y.parent) (at_plain c q)) ∙ x.parent_is;
        })

    -- its effect
    module _ (s : Step) (a : Allowed rules c s) (w : is_tell tell s ≡ true) (x : ℕ) where
      receiver-low : s.receiver < 64
      receiver-low = omega (arith, (tells_of_lem s a w).receiver-low, web.few_stations)

      told-after : is_told (apply c s) x ≡ (eqb x s.receiver || is_told c x)
      told-after = tell-told c s w x (omega (arith, long, receiver-low))

      -- what the sender knows, class by class
      given : cells t (clipped c.config (known c s.sender))
          ≡ cond (eqb s.sender (root_of t)) (cells t (station c (root_of t)).held) (cells t (kept_at c s.sender))
      given =
          subst (λ (u : Config). cells t (clipped u (cond (eqb s.sender (root_of u)) (station c s.sender).held (kept_at c s.sender)))
          ≡ cond (eqb s.sender (root_of t)) (cells t (station c (root_of t)).held) (cells t (kept_at c s.sender))) (sym config_is)
          (cells-clipped t _
          ∙ by_eq s.sender (root_of t)
          (λ (e : s.sender ≡ root_of t). rw (e, eqb_self (root_of t)))
          (λ n. rw (ne_eqb s.sender (root_of t) n)))

      kept_after : length c.kept ≡ 64
          → cells t (kept_at (apply c s) x)
          ≡ cond (eqb x s.receiver) (cond (eqb s.sender (root_of t)) (cells t (station c (root_of t)).held) (cells t (kept_at c s.sender))) (cells t (kept_at c x))
      kept_after l =
          ap (cells t) (tell_kept c s w x (omega (arith, l, receiver-low)))
          ∙ by_bool (eqb x s.receiver) (λ b. rw b given) (λ b. rw b)

  right_wave : (c : Net) (s : Step) → Right c → is_tell tell s ≡ false → Right (apply c s)
  right_wave c s r w =
      let e = apply_wave c s w in
      record {
        back = ap (λ (d : Net). d.carrying) e ∙ carrying_kept c s.kind s.sender s.receiver ∙ r.back;
        long = ap (λ (d : Net). length d.kept) e ∙ ap length (kept_kept c s.kind s.sender s.receiver) ∙ r.long;
      }

  right_tell : (c : Net) (s : Step) → Right c → is_tell tell s ≡ true → Right (apply c s)
  unfolding told_by
  right_tell c s r w =
      let e = apply-tell c s w in
      record {
        back = ap (λ (d : Net). d.carrying) e ∙ r.back;
        long = ap (λ (d : Net). length d.kept) e ∙ length-set c.kept s.receiver _ ∙ r.long;
      }

  pub carries-back : Carries rules rules tell g (joining t.way) read (fresh_net false t counts neighbours) (λ n. cells t (station n (root_of t)).held)
      (ties t counts neighbours web classes small) (λ n i. (station n i).parent) start reads
  carries-back =
      record {
        Right = Right;
        same-reports = refl;
        start_plain = start_plain;
        start_right = start_right;
        start-told = start-told;
        start_kept = start_kept;
        held-is = λ c r. ap (λ (s : Station). cells t s.held) (sym (at_plain c (root_of t)));
        done-is = λ c S st I u. done-is c S st.0 st.1 I u;
        parent_is = λ c S x st l. st.1.stations.parents x l;
        wave_allowed = λ c s a w. wave_allowed (plain c) s (plain_wave c s (wave_of c s a w));
        allowed_wave = λ c s a.
            let none = no_tell (plain c) s refl a in
            (none, wave_allowed c s (wave_plain c s (wave_of (plain c) s a none)));
        wave_plain = λ c s w. ap plain (apply_wave c s w) ∙ settle_assigned c s.sender s.receiver s.kind ∙ sym (apply_wave (plain c) s w);
        wave_right = right_wave;
        wave_told = λ c s x w u. was_assigned c s.sender s.receiver s.kind x (sym (ap (λ (d : Net). is_told d x) (apply_wave c s w)) ∙ u);
        wave_kept = λ c s x w.
            ap (λ (d : Net). cells t (kept_at d x)) (apply_wave c s w)
            ∙ ap (λ (l : List Aggregate). cells t (get_or l x absent)) (kept_kept c s.kind s.sender s.receiver);
        tell-allowed = λ c S s st r a w. tells_of_lem c S st.0 st.1 s a w;
        allowed-tell = λ c S p q st I r rep x. can_tell c S st.0 st.1 r I rep p q x;
        tell-plain = tell-plain;
        tell_right = right_tell;
        tell-told = λ c S s x st r a w. told-after c S st.0 st.1 s a w x;
        tell_kept = λ c S s x st r a w. kept_after c S st.0 st.1 s a w x r.long;
        formed = λ c S st I r K. formed_of_lem c S st.0 st.1 I r K;
      }

pub rendezvous_carried : RendezvousCarried
rendezvous_carried way w m fits e =
    let t = config_of way m in
    let web = web_of m e in
    carried_back rules rules tell (line t m.neighbours web) (joining t.way) (reading t m.counts) (fresh_net false t m.counts m.neighbours)
    (λ n. cells t (station n (root_of t)).held) (ties t m.counts m.neighbours web (classes_of_lem m e, w) fits.counts) (λ n i. (station n i).parent)
    (fresh_net true t m.counts m.neighbours) _ (carries-back t m.counts m.neighbours web (classes_of_lem m e, w) fits.counts)

-- before the report no station is told, so what is not finished is so below
pub carried_conserved : CarriedConserved
carried_conserved way w m fits e calls none j l =
    let t = config_of way m in
    let web = web_of m e in
    let g = line t m.neighbours web in
    let read = reading t m.counts in
    let opened = fresh_net false t m.counts m.neighbours in
    let start = fresh_net true t m.counts m.neighbours in
    let held : Net → ℕ → Cell = λ n. cells t (station n (root_of t)).held in
    let parent : Net → ℕ → ℕ = λ n i. (station n i).parent in
    let T = ties t m.counts m.neighbours web (classes_of_lem m e, w) fits.counts in
    let K = carries-back t m.counts m.neighbours web (classes_of_lem m e, w) fits.counts in
    let made = calls_made rules start calls in
    let end = calls_net rules start calls in
    let makes = calls_make rules start calls in
    let S = state rules rules tell g (joining way) read opened held T parent start _ K made end makes in
    let at = here rules rules tell g (joining way) read opened held T parent start _ K made end makes in
    let unreported : S.reported ≡ false =
    indicator-zero S.reported (sym (times-is rules rules tell g (joining way) read opened held T parent start _ K made end makes) ∙ none) in
    let untold : (i : ℕ) → i < m.k → is_told end i ≡ false =
    λ i h. by_bool (is_told end i) (λ u. clash (at.keeps.after i h u) unreported) (λ f. f) in
    sum_ext (joining_cells way) m.k _ _ (λ i h.
    ap (λ (s : Station). cond (eqb s.state 2) (empty_cell way) (cell s.held j)) (sym (at_plain end i ∙ settled_untold (station end i) (untold i h))))
    ∙ conserved_at way m e (plain end) S at.stands.1 at.inv unreported j l
