-- Carrying back, over every kind of net that brings `Carries`: tells come after the report and each tells one station more; while one is untold,
-- following parents from it, by rank, leads to one whose parent knows. So at rest is where all are told. Assumes nothing.
use mathlib.Core.Path.{◌≡◌, refl, sym, ap, ◌∙◌, subst}
use mathlib.Core.Bool.{Bool, true, false, ◌||◌, cond}
use mathlib.Core.List.{List, [], ◌∷◌, map}
use Prim.Native.Nat.{ℕ, zero, suc, ◌+◌, ◌*◌, ◌<◌, ◌≤◌, min}
use native.Mathlib.Omega.{arith}
use lib.ListN.{length, length-map, length-append}
use lib.Dec.{eqb}
use borrow.Author.Tests.{ne_eqb}
use Rattle.finite.specs.Sum.{indicator}
use Rattle.finite.specs.Internal.Monoid.{CommMonoid, addition}
use Rattle.finite.specs.Links.{links}
use Rattle.finite.proofs.Cases.{clash, by_bool, by-sum, eqb_self}
use Rattle.finite.proofs.Sums.{sum_unit, indicator-zero, indicator-one, indicators_le}
use Rattle.finite.proofs.Counting.{count_of, count_all, count_more, count_less}
use Rattle.wave.specs.Internal.Graph.{Graph}
use Rattle.wave.specs.Internal.Wave.{State, fresh}
use Rattle.wave.specs.Internal.Wave as wave
use Rattle.wave.specs.Internal.Claim.{times, Runs, reached, AtRest, WaveClaim}
use Rattle.wave.proofs.Invariant.{all_awake}
use Rattle.wave.proofs.Refinement.{refinement_demand, state-reached}
use Rattle.schedule.specs.declared.Step.{Step}
use Rattle.schedule.specs.Rules.{Rules}
use Rattle.schedule.specs.Listing.{step}
use Rattle.schedule.specs.Draws.{run_made, run_net, run_on}
use Rattle.schedule.specs.Calls.{calls_made, calls_net}
use Rattle.schedule.specs.Internal.Labels.{label_of}
use Rattle.schedule.proofs.Listing.{Allowed, quiescent-at-rest}
use Rattle.schedule.proofs.Made.{Makes, run_reaches, calls_make}
use Rattle.schedule.proofs.Runs.{run_steps, run_stops}
use Rattle.order.specs.Internal.Back.{is_tell, wave_steps, tells_of, Back, CarriedBack}
use Rattle.order.proofs.Kind.{Ties, nets, runs-allowed}
use Rattle.order.proofs.Back.{Reads, knows_in, known_in, Tells, told_count, Carries, claim_rest, At, started, knower_total, Walk, walk}

empty_list : {A : Type 0} (l : List A) → length l ≡ 0 → l ≡ []
empty_list [] e = refl
empty_list (x ∷ l) e = absurd (let z : ⊥ = omega arith in z)

module _ {Base Net A : Type 0} (B : Rules Base) (C : Rules Net) (tell : ℕ) (g : Graph) (M : CommMonoid A) (counts : ℕ → A)
    (opened : Base) (held : Base → A) (T : Ties B g M counts opened held) (parent : Base → ℕ → ℕ) (start : Net) (X : Reads Base Net A)
    (K : Carries B C tell g M counts opened held T parent start X) where
  -- what is known of a net that is reached
  abbrev pub KnownOf : Net → State A → Type 0
  KnownOf = At B C tell g M counts opened held T parent start X K

  -- Following parents from a station that does not know leads to one whose parent does: ranks fall on the way.
  module _ (c : Net) (S : State A) (a : KnownOf c S) (rep : S.reported ≡ true) where
    done-now : X.done c ≡ true
    done-now = K.done-is c S a.stands a.inv a.keeps.root_untold ∙ rep

    root-knows : knows_in X g.root c g.root ≡ true
    root-knows = rw (eqb_self g.root) done-now

    -- who does not know is not the root, and untold
    ignorant : (x : ℕ) → knows_in X g.root c x ≡ false → (x ≡ g.root → ⊥) × (X.told c x ≡ false)
    ignorant x f =
        let no : x ≡ g.root → ⊥ = λ e. clash (ap (knows_in X g.root c) e ∙ root-knows) f in
        (no, sym (ap (λ (b : Bool). cond b (X.done c) (X.told c x)) (ne_eqb x g.root no)) ∙ f)

    -- its parent is one of the stations, of lower rank
    parent_near : (x : ℕ) → x < g.size → (x ≡ g.root → ⊥) → (parent (X.plain c) x < g.size) × (a.inv.rank (parent (X.plain c) x) < a.inv.rank x)
    parent_near x l n =
        let up = all_awake g M counts S a.inv (a.inv.ended rep) x (g.joined x l) in
        let t = a.inv.tree x up n in
        let e = K.parent_is c S x a.stands l in
        subst (λ (p : ℕ). (p < g.size) × (a.inv.rank p < a.inv.rank x)) (sym e)
        ((g.within (S.parent x) x (a.inv.sent (S.parent x) x t.0).0).0, t.1)

    next-tell : (h x : ℕ) → x < g.size → a.inv.rank x < h → knows_in X g.root c x ≡ false
        → (p : ℕ) × (q : ℕ) × Tells X g parent c p q
    next-tell zero x l e f = absurd (let z : ⊥ = omega (arith, e) in z)
    next-tell (suc h) x l e f =
        let u = ignorant x f in
        let p = parent (X.plain c) x in
        let near = parent_near x l u.0 in
        let further = next-tell h p near.0 (omega (arith, e, near.1)) in
        by_bool (knows_in X g.root c p)
        (λ k. (
          p,
          x,
          record {
            done = done-now;
            sender-low = near.0;
            receiver-low = l;
            sender-knows = k;
            untold = u.1;
            no_root = u.0;
            parent_is = refl;
          },
        ))
        (λ n. further n)

  -- all stations but the root told, and the root
  abbrev knowers : Net → ℕ → Bool
  knowers c x = eqb x g.root || X.told c x

  none-at-first : told_count X g start ≡ 0
  unfolding indicator
  none-at-first = sum_unit addition g.size _ (λ x l. ap indicator (K.start-told x l))

  module _ (made : List Step) (end : Net) (makes : Makes C start made end) where
    abbrev pub ws : List Step
    ws = wave_steps tell made

    abbrev pub ts : List Step
    ts = tells_of tell made

    abbrev pub left : Base
    left = reached B.apply opened ws

    abbrev full : ℕ
    full = 2 * links g.size g.adj + g.size

    pub walked : Walk B C tell g M counts opened held T parent start X K start (fresh g counts) made
    walked = walk B C tell g M counts opened held T parent start X K start (fresh g counts) made (started B C tell g M counts opened held T parent start X K) (runs-allowed C start made makes.runs)

    pub runs-below : Runs (Allowed B) B.apply opened ws
    runs-below = subst (λ (b : Base). Runs (Allowed B) B.apply b ws) K.start_plain walked.runs

    pub ends_below : X.plain end ≡ left
    ends_below =
        ap X.plain makes.ends ∙ walked.ends ∙ ap (λ (b : Base). reached B.apply b ws) K.start_plain

    abbrev pub state : State A
    state = walked.last.0

    pub here : KnownOf end state
    here = subst (λ (c : Net). KnownOf c state) (sym makes.ends) walked.last.1

    below_demand : WaveClaim g.size g.adj M counts (map (label_of B) ws) (AtRest (Allowed B) left) (held left)
    below_demand = refinement_demand g M counts (nets B g M counts opened held T) ws runs-below

    pub times-is : times wave.report (map (label_of B) ws) ≡ indicator state.reported
    times-is =
        let s = state-reached g M counts (nets B g M counts opened held T) ws runs-below in
        s.3
        ∙ ap indicator (sym (K.done-is end s.0 (subst (λ (b : Base). T.Stands b s.0) (sym ends_below) s.2) s.1 here.keeps.root_untold)
        ∙ K.done-is end state here.stands here.inv here.keeps.root_untold)

    told-tells : length ts ≡ told_count X g end
    told-tells =
        let w = walked.counted in
        let e : told_count X g (reached C.apply start made) ≡ told_count X g end = ap (told_count X g) (sym makes.ends) in
        omega (arith, w, e, none-at-first)

    both : length made ≡ length ws + length ts
    both = ap length walked.apart ∙ length-append ws ts

    knower_count : count_of g.size (knowers end) ≡ suc (length ts)
    knower_count = count_more g.size g.root (X.told end) g.root_in here.keeps.root_untold ∙ ap suc (sym told-tells)

    few_tells : suc (length ts) ≤ g.size
    few_tells = omega (arith, knower_count, indicators_le g.size (knowers end))

    same_length : length (map (label_of B) ws) ≡ length ws
    same_length = length-map ws (label_of B)

    few_steps : length ws ≤ 2 * links g.size g.adj + 1
    few_steps = omega (arith, below_demand.at_most, same_length)

    -- the report, read three ways
    reported-full : state.reported ≡ true → length ws ≡ 2 * links g.size g.adj + 1
    unfolding indicator
    reported-full r = sym same_length ∙ below_demand.report-full.0 (times-is ∙ ap indicator r)

    full-reported : length ws ≡ 2 * links g.size g.adj + 1 → state.reported ≡ true
    full-reported e = indicator-one state.reported (sym times-is ∙ below_demand.report-full.1 (same_length ∙ e))

    rest-reported : AtRest (Allowed B) left → state.reported ≡ true
    rest-reported r = indicator-one state.reported (sym times-is ∙ below_demand.report-rest.1 r)

    reported-rest : state.reported ≡ true → AtRest (Allowed B) left
    unfolding indicator
    reported-rest r = below_demand.report-rest.0 (times-is ∙ ap indicator r)

    -- all tells made: everybody told
    all_told : suc (length ts) ≡ g.size → (x : ℕ) → x < g.size → knowers end x ≡ true
    all_told e x l =
        by_bool (knowers end x) (λ t. t) (λ f. absurd (let z : ⊥ = omega (arith, knower_count, count_less g.size x (knowers end) l f) in z))

    told-all : ((x : ℕ) → x < g.size → knowers end x ≡ true) → suc (length ts) ≡ g.size
    told-all h = sym knower_count ∙ count_all g.size (knowers end) h

    knower_knows : state.reported ≡ true → (x : ℕ) → knowers end x ≡ true → knows_in X g.root end x ≡ true
    knower_knows r x k =
        by_bool (eqb x g.root)
        (λ e. ap (λ (b : Bool). cond b (X.done end) (X.told end x)) e ∙ K.done-is end state here.stands here.inv here.keeps.root_untold ∙ r)
        (λ e. ap (λ (b : Bool). cond b (X.done end) (X.told end x)) e ∙ (sym (ap (λ (b : Bool). b || X.told end x) e) ∙ k))

    knows_knower : (x : ℕ) → knows_in X g.root end x ≡ true → knowers end x ≡ true
    knows_knower x k =
        by_bool (eqb x g.root)
        (λ e. ap (λ (b : Bool). b || X.told end x) e)
        (λ e. ap (λ (b : Bool). b || X.told end x) e ∙ (sym (ap (λ (b : Bool). cond b (X.done end) (X.told end x)) e) ∙ k))

    -- while one does not know, some tell is allowed
    some-tell : state.reported ≡ true → (x : ℕ) → x < g.size → knows_in X g.root end x ≡ false → (s : Step) × Allowed C end s
    some-tell r x l f =
        let t = next-tell end state here r (suc (here.inv.rank x)) x l (omega arith) f in
        (step tell t.0 t.1, K.allowed-tell end state t.0 t.1 here.stands here.inv here.right r t.2)

    same_labels : map (label_of C) ws ≡ map (label_of B) ws
    same_labels = ap (λ (n : ℕ). map (λ (s : Step). cond (eqb s.kind n) wave.report (wave.message s.sender s.receiver)) ws) K.same-reports

    -- at rest but for tells, and below
    abbrev WaveRest : Type 0
    WaveRest = AtRest (λ (c : Net) (s : Step). (is_tell tell s ≡ false) × Allowed C c s) end

    rest_wave : AtRest (Allowed B) left → WaveRest
    rest_wave r s a = r s (subst (λ (b : Base). Allowed B b s) ends_below (K.wave_allowed end s a.1 a.0))

    wave_rest : WaveRest → AtRest (Allowed B) left
    wave_rest r s a = r s (K.allowed_wave end s (subst (λ (b : Base). Allowed B b s) (sym ends_below) a))

    carried_demand : WaveClaim g.size g.adj M counts (map (label_of C) ws) WaveRest (X.held end)
    carried_demand =
        subst (λ (l : List wave.Step). WaveClaim g.size g.adj M counts l WaveRest (X.held end)) (sym same_labels)
        (subst (WaveClaim g.size g.adj M counts (map (label_of B) ws) WaveRest) (sym (K.held-is end here.right ∙ ap held ends_below))
        (claim_rest g.size g.adj M counts (map (label_of B) ws) (AtRest (Allowed B) left) WaveRest (held left) rest_wave wave_rest below_demand))

    early_none : times wave.report (map (label_of C) ws) ≡ 0 → ts ≡ []
    unfolding indicator
    early_none e =
        let unreported : state.reported ≡ false = indicator-zero state.reported (sym times-is ∙ ap (times wave.report) (sym same_labels) ∙ e) in
        let none : told_count X g end ≡ 0 =
        sum_unit addition g.size _ (λ x l. ap indicator (by_bool (X.told end x) (λ t. clash (here.keeps.after x l t) unreported) (λ f. f))) in
        empty_list ts (told-tells ∙ none)

    made_most : length made ≤ full
    made_most = omega (arith, both, few_steps, few_tells)

    -- full: the report made and everybody told
    full_parts : length made ≡ full → (state.reported ≡ true) × (suc (length ts) ≡ g.size)
    full_parts e = (full-reported (omega (arith, both, few_steps, few_tells)), omega (arith, both, few_steps, few_tells))

    parts_full : state.reported ≡ true → suc (length ts) ≡ g.size → length made ≡ full
    parts_full r e = omega (arith, both, reported-full r, e)

    rest_to_full : AtRest (Allowed C) end → length made ≡ full
    rest_to_full r =
        let rep = rest-reported (wave_rest (λ s a. r s a.1)) in
        parts_full rep (told-all (λ x l.
        by_bool (knows_in X g.root end x)
        (λ k. knows_knower x k)
        (λ f. let s = some-tell rep x l f in absurd (r s.0 s.1))))

    full_to_rest : length made ≡ full → AtRest (Allowed C) end
    full_to_rest e s a =
        let p = full_parts e in
        by_bool (is_tell tell s)
        (λ w.
        let t = K.tell-allowed end state s here.stands here.right a w in
        let no : knowers end s.receiver ≡ false =
        ap (λ (b : Bool). b || X.told end s.receiver) (ne_eqb s.receiver g.root t.no_root) ∙ t.untold in
        clash (all_told p.1 s.receiver t.receiver-low) no)
        (λ w. rest_wave (reported-rest p.0) s (w, a))

    pub made-back : Back C tell g.size g.adj M counts X.held (knows_in X g.root) (known_in X g.root) made end
    made-back =
        record {
          demand = carried_demand;
          tells_last = walked.apart;
          tells-after = early_none;
          at_most = made_most;
          rest-full = (rest_to_full, full_to_rest);
          full-known = (
            λ e x l. let p = full_parts e in knower_knows p.0 x (all_told p.1 x l),
            λ k.
                let root-done : X.done end ≡ true = sym (ap (λ (b : Bool). cond b (X.done end) (X.told end g.root)) (eqb_self g.root)) ∙ k g.root g.root_in in
                parts_full (sym (K.done-is end state here.stands here.inv here.keeps.root_untold) ∙ root-done) (told-all (λ x l. knows_knower x (k x l))),
          );
          total-known = λ i l k. knower_total B C tell g M counts opened held T parent start X K end state here i l k;
        }

    pub made_formed : C.well_formed end ≡ true
    made_formed = K.formed end state here.stands here.inv here.right here.keeps

  run_length : (draws : List ℕ) → (run_on C start draws).steps ≡ min (length draws) (2 * links g.size g.adj + g.size)
  run_length draws =
      let made = run_made C start draws in
      let net = run_net C start draws in
      let reaches = run_reaches C start draws in
      let b = made-back made net reaches in
      run_steps C start draws
      ∙ by-sum (run_stops C start draws)
      (λ e. omega (arith, b.at_most))
      (λ w. by-sum w.1
      (λ f. clash (made_formed made net reaches) f)
      (λ q. omega (arith, w.0, b.rest-full.0 ((quiescent-at-rest C net).0 q))))

  pub carried_back : CarriedBack C tell g.size g.adj M counts start X.held (knows_in X g.root) (known_in X g.root)
  carried_back =
      record {
        back = λ calls. made-back (calls_made C start calls) (calls_net C start calls) (calls_make C start calls);
        run_formula = run_length;
        formed = λ calls. made_formed (calls_made C start calls) (calls_net C start calls) (calls_make C start calls);
      }
