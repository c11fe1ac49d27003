-- Carrying back, over every kind of net with a kind of step `tell` above a kind of net that refines the wave: with told stations taken as
-- finished, the steps but tells are those of the net below, and a tell changes nothing of it. Tells come after the report, and each tells one
-- station more: `walk` takes the steps made apart so. Assumes nothing.
use mathlib.Core.Path.{◌≡◌, refl, sym, ap, ◌∙◌, subst}
use mathlib.Core.Bool.{Bool, true, false, ◌||◌, cond}
use mathlib.Core.List.{List, [], ◌∷◌, ◌++◌}
use Prim.Native.Nat.{ℕ, suc, ◌+◌, ◌<◌}
use native.Mathlib.Omega.{arith}
use lib.ListN.{length}
use lib.Dec.{eqb}
use borrow.Author.Tests.{ne_eqb}
use Rattle.finite.specs.Sum.{indicator}
use Rattle.finite.specs.Internal.Monoid.{CommMonoid, addition, sum_to}
use Rattle.finite.proofs.Cases.{clash, by_bool}
use Rattle.finite.proofs.Sums.{sum_ext}
use Rattle.finite.proofs.Counting.{count_of, count_more}
use Rattle.wave.specs.Internal.Graph.{Graph}
use Rattle.wave.specs.Internal.Wave.{State, fresh, next, Weak}
use Rattle.wave.specs.Internal.Wave as wave
use Rattle.wave.specs.Internal.Claim.{Runs, reached, WaveClaim}
use Rattle.wave.proofs.Invariant.{Inv, root_holds_total}
use Rattle.wave.proofs.Gathering.{fresh_inv, keep}
use Rattle.wave.proofs.Trace.{no_step}
use Rattle.schedule.specs.declared.Step.{Step}
use Rattle.schedule.specs.Rules.{Rules}
use Rattle.schedule.specs.Listing.{select, step}
use Rattle.schedule.specs.Internal.Labels.{label_of}
use Rattle.schedule.proofs.Listing.{Allowed}
use Rattle.order.specs.Internal.Back.{is_tell, wave_steps, tells_of}
use Rattle.order.proofs.Kind.{Ties}

-- what is read of a net with carrying back: the net below, with told stations taken as finished; who is told; what each keeps, and keeps at first;
-- whether the root has reported, and what it holds
pub record Reads (Base Net A : Type 0) : Type 0 where
  pub plain : Net → Base
  pub told : Net → ℕ → Bool
  pub kept : Net → ℕ → A
  pub unkept : A
  pub done : Net → Bool
  pub held : Net → A

-- who knows the total, and what they know
abbrev pub knows_in : {Base Net A : Type 0} → Reads Base Net A → ℕ → Net → ℕ → Bool
knows_in X root c i = cond (eqb i root) (X.done c) (X.told c i)

abbrev pub known_in : {Base Net A : Type 0} → Reads Base Net A → ℕ → Net → ℕ → A
known_in X root c i = cond (eqb i root) (X.held c) (X.kept c i)

-- p may tell q
pub record Tells {Base Net A : Type 0} (X : Reads Base Net A) (g : Graph) (parent : Base → ℕ → ℕ) (c : Net) (p q : ℕ) : Type 0 where
  pub done : X.done c ≡ true
  pub sender-low : p < g.size
  pub receiver-low : q < g.size
  pub sender-knows : knows_in X g.root c p ≡ true
  pub untold : X.told c q ≡ false
  pub no_root : q ≡ g.root → ⊥
  pub parent_is : parent (X.plain c) q ≡ p

-- who is told was told after the report, and keeps the total; the others keep what they did at first
pub record Kept {Base Net A : Type 0} (X : Reads Base Net A) (g : Graph) (M : CommMonoid A) (counts : ℕ → A) (c : Net) (S : State A) : Type 0 where
  pub after : (x : ℕ) → x < g.size → X.told c x ≡ true → S.reported ≡ true
  pub root_untold : X.told c g.root ≡ false
  pub totals : (x : ℕ) → x < g.size → X.kept c x ≡ cond (X.told c x) (sum_to M g.size counts) X.unkept

-- how many are told
abbrev pub told_count : {Base Net A : Type 0} → Reads Base Net A → Graph → Net → ℕ
told_count X g c = count_of g.size (X.told c)

-- What a kind of net with carrying back, C, has to bring above a kind of net B that is tied to the wave. `Right` is what else is known of a
-- net that is reached.
pub record Carries {Base Net A : Type 0} (B : Rules Base) (C : Rules Net) (tell : ℕ) (g : Graph) (M : CommMonoid A) (counts : ℕ → A)
    (opened : Base) (held : Base → A) (T : Ties B g M counts opened held) (parent : Base → ℕ → ℕ) (start : Net) (X : Reads Base Net A) : Type 1 where
  pub Right : Net → Type 0
  pub same-reports : C.reports ≡ B.reports
  -- the fresh net
  pub start_plain : X.plain start ≡ opened
  pub start_right : Right start
  pub start-told : (x : ℕ) → x < g.size → X.told start x ≡ false
  pub start_kept : (x : ℕ) → x < g.size → X.kept start x ≡ X.unkept
  -- what the root shows
  pub held-is : (c : Net) → Right c → X.held c ≡ held (X.plain c)
  pub done-is : (c : Net) (S : State A) → T.Stands (X.plain c) S → Inv g M counts S → X.told c g.root ≡ false → X.done c ≡ S.reported
  -- what the net below shows of parents
  pub parent_is : (c : Net) (S : State A) (x : ℕ) → T.Stands (X.plain c) S → x < g.size → parent (X.plain c) x ≡ S.parent x
  -- the steps but tells are those of the net below, and leave alone who is told and what is kept
  pub wave_allowed : (c : Net) (s : Step) → Allowed C c s → is_tell tell s ≡ false → Allowed B (X.plain c) s
  pub allowed_wave : (c : Net) (s : Step) → Allowed B (X.plain c) s → (is_tell tell s ≡ false) × Allowed C c s
  pub wave_plain : (c : Net) (s : Step) → is_tell tell s ≡ false → X.plain (C.apply c s) ≡ B.apply (X.plain c) s
  pub wave_right : (c : Net) (s : Step) → Right c → is_tell tell s ≡ false → Right (C.apply c s)
  pub wave_told : (c : Net) (s : Step) (x : ℕ) → is_tell tell s ≡ false → X.told (C.apply c s) x ≡ true → X.told c x ≡ true
  pub wave_kept : (c : Net) (s : Step) (x : ℕ) → is_tell tell s ≡ false → X.kept (C.apply c s) x ≡ X.kept c x
  -- a tell changes nothing of the net below
  pub tell-allowed : (c : Net) (S : State A) (s : Step) → T.Stands (X.plain c) S → Right c → Allowed C c s → is_tell tell s ≡ true
      → Tells X g parent c s.sender s.receiver
  pub allowed-tell : (c : Net) (S : State A) (p q : ℕ) → T.Stands (X.plain c) S → Inv g M counts S → Right c → S.reported ≡ true
      → Tells X g parent c p q → Allowed C c (step tell p q)
  pub tell-plain : (c : Net) (s : Step) → Allowed C c s → is_tell tell s ≡ true → X.plain (C.apply c s) ≡ X.plain c
  pub tell_right : (c : Net) (s : Step) → Right c → is_tell tell s ≡ true → Right (C.apply c s)
  pub tell-told : (c : Net) (S : State A) (s : Step) (x : ℕ) → T.Stands (X.plain c) S → Right c → Allowed C c s → is_tell tell s ≡ true
      → X.told (C.apply c s) x ≡ (eqb x s.receiver || X.told c x)
  pub tell_kept : (c : Net) (S : State A) (s : Step) (x : ℕ) → T.Stands (X.plain c) S → Right c → Allowed C c s → is_tell tell s ≡ true
      → X.kept (C.apply c s) x ≡ cond (eqb x s.receiver) (known_in X g.root c s.sender) (X.kept c x)
  -- so nets stay in form
  pub formed : (c : Net) (S : State A) → T.Stands (X.plain c) S → Inv g M counts S → Right c → Kept X g M counts c S → C.well_formed c ≡ true

-- the claim speaks of what is at rest only so
pub claim_rest : {A : Type 0} (k : ℕ) (adj : ℕ → ℕ → Bool) (M : CommMonoid A) (counts : ℕ → A) (made : List wave.Step) (rest rest' : Type 0) (number : A)
    → (rest → rest') → (rest' → rest) → WaveClaim k adj M counts made rest number → WaveClaim k adj M counts made rest' number
claim_rest k adj M counts made rest rest' number f b d =
    record {
      one-report = d.one-report;
      one_message = d.one_message;
      over-links = d.over-links;
      at_most = d.at_most;
      report-rest = (λ e. f (d.report-rest.0 e), λ r. d.report-rest.1 (b r));
      report-full = d.report-full;
      report_last = d.report_last;
      total = d.total;
      each_way = d.each_way;
    }

module _ {Base Net A : Type 0} (B : Rules Base) (C : Rules Net) (tell : ℕ) (g : Graph) (M : CommMonoid A) (counts : ℕ → A)
    (opened : Base) (held : Base → A) (T : Ties B g M counts opened held) (parent : Base → ℕ → ℕ) (start : Net) (X : Reads Base Net A)
    (K : Carries B C tell g M counts opened held T parent start X) where
  -- what is known of a net that is reached
  pub record At (c : Net) (S : State A) : Type 0 where
    pub stands : T.Stands (X.plain c) S
    pub inv : Inv g M counts S
    pub right : K.Right c
    pub keeps : Kept X g M counts c S

  pub started : At start (fresh g counts)
  started =
      record {
        stands = subst (λ (b : Base). T.Stands b (fresh g counts)) (sym K.start_plain) T.opened_stands;
        inv = fresh_inv g M counts;
        right = K.start_right;
        keeps =
            record {
              after = λ x l t. clash t (K.start-told x l);
              root_untold = K.start-told g.root g.root_in;
              totals = λ x l. K.start_kept x l ∙ sym (ap (λ (b : Bool). cond b (sum_to M g.size counts) X.unkept) (K.start-told x l));
            };
      }

  -- what a station knows is the total
  pub knower_total : (c : Net) (S : State A) → At c S → (p : ℕ) → p < g.size → knows_in X g.root c p ≡ true
      → known_in X g.root c p ≡ sum_to M g.size counts
  knower_total c S a p l k =
      by_bool (eqb p g.root)
      (λ e.
      let done : X.done c ≡ true = sym (ap (λ (b : Bool). cond b (X.done c) (X.told c p)) e) ∙ k in
      ap (λ (b : Bool). cond b (X.held c) (X.kept c p)) e
      ∙ K.held-is c a.right
      ∙ T.held-is (X.plain c) S a.stands
      ∙ root_holds_total g M counts S a.inv (a.inv.ended (sym (K.done-is c S a.stands a.inv a.keeps.root_untold) ∙ done)))
      (λ e.
      let t : X.told c p ≡ true = sym (ap (λ (b : Bool). cond b (X.done c) (X.told c p)) e) ∙ k in
      ap (λ (b : Bool). cond b (X.held c) (X.kept c p)) e
      ∙ a.keeps.totals p l
      ∙ ap (λ (b : Bool). cond b (sum_to M g.size counts) X.unkept) t)

  module _ (c : Net) (S : State A) (a : At c S) (s : Step) (al : Allowed C c s) where
    module _ (w : is_tell tell s ≡ false) where
      below : Allowed B (X.plain c) s
      below = K.wave_allowed c s al w

      weak : Weak g S (label_of B s)
      weak = T.sound (X.plain c) S s a.stands a.inv below

      -- no step but a tell is allowed after the report
      unreported : S.reported ≡ false
      unreported = by_bool S.reported (λ e. absurd (no_step g M counts S (label_of B s) a.inv e weak)) (λ e. e)

      none_told : (x : ℕ) → x < g.size → X.told c x ≡ false
      none_told x l = by_bool (X.told c x) (λ t. clash (a.keeps.after x l t) unreported) (λ f. f)

      still_none : (x : ℕ) → x < g.size → X.told (C.apply c s) x ≡ false
      still_none x l = by_bool (X.told (C.apply c s) x) (λ t. clash (K.wave_told c s x w t) (none_told x l)) (λ f. f)

      told_same : (x : ℕ) → x < g.size → X.told (C.apply c s) x ≡ X.told c x
      told_same x l = still_none x l ∙ sym (none_told x l)

      at_wave : At (C.apply c s) (next g M S (label_of B s))
      at_wave =
          record {
            stands = subst (λ (b : Base). T.Stands b (next g M S (label_of B s))) (sym (K.wave_plain c s w)) (T.keeps (X.plain c) S s a.stands a.inv below);
            inv = keep g M counts S (label_of B s) a.inv weak;
            right = K.wave_right c s a.right w;
            keeps =
                record {
                  after = λ x l t. clash t (still_none x l);
                  root_untold = still_none g.root g.root_in;
                  totals = λ x l. K.wave_kept c s x w ∙ a.keeps.totals x l
                      ∙ ap (λ (b : Bool). cond b (sum_to M g.size counts) X.unkept) (sym (told_same x l));
                };
          }

    module _ (w : is_tell tell s ≡ true) where
      tells : Tells X g (parent) c s.sender s.receiver
      tells = K.tell-allowed c S s a.stands a.right al w

      reported : S.reported ≡ true
      reported = sym (K.done-is c S a.stands a.inv a.keeps.root_untold) ∙ tells.done

      told_is : (x : ℕ) → X.told (C.apply c s) x ≡ (eqb x s.receiver || X.told c x)
      told_is x = K.tell-told c S s x a.stands a.right al w

      at-tell : At (C.apply c s) S
      at-tell =
          let q = s.receiver in
          record {
            stands = subst (λ (b : Base). T.Stands b S) (sym (K.tell-plain c s al w)) a.stands;
            inv = a.inv;
            right = K.tell_right c s a.right w;
            keeps =
                record {
                  after = λ x l t. reported;
                  root_untold = told_is g.root ∙ ap (λ (b : Bool). b || X.told c g.root) (ne_eqb g.root q (λ e. tells.no_root (sym e))) ∙ a.keeps.root_untold;
                  totals = λ x l.
                      K.tell_kept c S s x a.stands a.right al w
                      ∙ by_bool (eqb x q)
                      (λ e.
                      ap (λ (b : Bool). cond b (known_in X g.root c s.sender) (X.kept c x)) e
                      ∙ knower_total c S a s.sender tells.sender-low tells.sender-knows
                      ∙ sym (ap (λ (b : Bool). cond b (sum_to M g.size counts) X.unkept) (told_is x ∙ ap (λ (b : Bool). b || X.told c x) e)))
                      (λ e.
                      ap (λ (b : Bool). cond b (known_in X g.root c s.sender) (X.kept c x)) e
                      ∙ a.keeps.totals x l
                      ∙ sym (ap (λ (b : Bool). cond b (sum_to M g.size counts) X.unkept) (told_is x ∙ ap (λ (b : Bool). b || X.told c x) e)));
                };
          }

  -- the steps made from a net that is reached, taken apart
  pub record Walk (c : Net) (S : State A) (made : List Step) : Type 0 where
    pub runs : Runs (Allowed B) B.apply (X.plain c) (wave_steps tell made)
    pub ends : X.plain (reached C.apply c made) ≡ reached B.apply (X.plain c) (wave_steps tell made)
    pub apart : made ≡ wave_steps tell made ++ tells_of tell made
    pub over : S.reported ≡ true → wave_steps tell made ≡ []
    pub counted : length (tells_of tell made) + told_count X g c ≡ told_count X g (reached C.apply c made)
    pub last : (S' : State A) × At (reached C.apply c made) S'

  pub select_wave : (s : Step) (made : List Step) → is_tell tell s ≡ false
      → (wave_steps tell (s ∷ made) ≡ s ∷ wave_steps tell made) × (tells_of tell (s ∷ made) ≡ tells_of tell made)
  unfolding select
  select_wave s made w = (rw w, rw w)

  pub select-tell : (s : Step) (made : List Step) → is_tell tell s ≡ true
      → (wave_steps tell (s ∷ made) ≡ wave_steps tell made) × (tells_of tell (s ∷ made) ≡ s ∷ tells_of tell made)
  unfolding select
  select-tell s made w = (rw w, rw w)

  pub walk : (c : Net) (S : State A) (made : List Step) → At c S → Runs (Allowed C) C.apply c made → Walk c S made
  unfolding select
  walk c S [] a r =
      record { runs = tt; ends = refl; apart = refl; over = λ e. refl; counted = omega arith; last = (S, a) }
  walk c S (s ∷ made) a r =
      by_bool (is_tell tell s)
      (λ w.
      let f = walk (C.apply c s) S made (at-tell c S a s r.0 w) r.1 in
      let e = select-tell s made w in
      let t = tells c S a s r.0 w in
      let none : wave_steps tell made ≡ [] = f.over (reported c S a s r.0 w) in
      let same : X.plain (C.apply c s) ≡ X.plain c = K.tell-plain c s r.0 w in
      let more : told_count X g (C.apply c s) ≡ suc (told_count X g c) =
      sum_ext addition g.size _ _ (λ x l. ap indicator (K.tell-told c S s x a.stands a.right r.0 w))
      ∙ count_more g.size s.receiver (X.told c) t.receiver-low t.untold in
      record {
        runs = subst (Runs (Allowed B) B.apply (X.plain c)) (sym e.0) (subst (λ (b : Base). Runs (Allowed B) B.apply b (wave_steps tell made)) same f.runs);
        ends = f.ends ∙ ap (λ (b : Base). reached B.apply b (wave_steps tell made)) same ∙ ap (reached B.apply (X.plain c)) (sym e.0);
        apart =
            ap (λ (l : List Step). s ∷ l) (f.apart ∙ ap (λ (l : List Step). l ++ tells_of tell made) none)
            ∙ sym (ap (λ (l : List Step). l ++ tells_of tell (s ∷ made)) (e.0 ∙ none) ∙ e.1);
        over = λ q. e.0 ∙ none;
        counted = ap (λ (l : List Step). length l + told_count X g c) e.1 ∙ omega (arith, f.counted, more);
        last = f.last;
      })
      (λ w.
      let f = walk (C.apply c s) (next g M S (label_of B s)) made (at_wave c S a s r.0 w) r.1 in
      let e = select_wave s made w in
      let same : X.plain (C.apply c s) ≡ B.apply (X.plain c) s = K.wave_plain c s w in
      let as_many : told_count X g (C.apply c s) ≡ told_count X g c =
      sum_ext addition g.size _ _ (λ x l. ap indicator (told_same c S a s r.0 w x l)) in
      record {
        runs = subst (Runs (Allowed B) B.apply (X.plain c)) (sym e.0)
            (below c S a s r.0 w, subst (λ (b : Base). Runs (Allowed B) B.apply b (wave_steps tell made)) same f.runs);
        ends = f.ends ∙ ap (λ (b : Base). reached B.apply b (wave_steps tell made)) same ∙ ap (reached B.apply (X.plain c)) (sym e.0);
        apart =
            ap (λ (l : List Step). s ∷ l) f.apart
            ∙ sym (ap (λ (l : List Step). l ++ tells_of tell (s ∷ made)) e.0 ∙ ap (λ (l : List Step). s ∷ (wave_steps tell made ++ l)) e.1);
        over = λ q. clash q (unreported c S a s r.0 w);
        counted = ap (λ (l : List Step). length l + told_count X g c) e.1 ∙ omega (arith, f.counted, as_many);
        last = f.last;
      })
