-- The list of allowed steps has every allowed step and no other, so a net is quiescent just where no step is allowed in it: each numeral
-- below a bound stands in the range, so each step in range among the candidates. Assumes nothing.
use Rattle.std.proofs.Common.{◌≡◌, ℕ, zero, suc, ◌+◌, ◌-◌, ◌<◌, ◌≤◌, Bool, true, false, cond, not, ◌&&◌, ◌||◌, eqb, ltb, leb, ◌↔◌, List, [], ◌∷◌, sym, refl, ap, ◌∙◌, arith, ltb-true, lt-ltb, eq-eqb, ne_eqb, eqb-true, le-leb, leb-true}
use mathlib.Core.Bool.{and-false}
use mathlib.Core.List.Memᴰ
use mathlib.Core.List.{flat_map, Memᴰ}
use Rattle.finite.proofs.Cases.{clash, by_bool, by_eq, and_both}
use Rattle.wave.specs.Internal.Claim.{AtRest}
use Rattle.schedule.specs.declared.Step.{Step}
use Rattle.schedule.specs.Rules.{Rules, in_range, allowed}
use Rattle.schedule.specs.Listing.{numbers_from, range, select, step, candidates, is_empty, listed, quiescent}

module _ {A : Type 0} (p : A → Bool) (a : A) where
  select_has : (l : List A) → p a ≡ true → Memᴰ a l → Memᴰ a (select p l)
  unfolding select
  select_has [] t m = m
  select_has (x ∷ l) t (Memᴰ.head e) = let u : p x ≡ true = ap p (sym e) ∙ t in rw u (Memᴰ.head e)
  select_has (x ∷ l) t (Memᴰ.tail m) =
      let i = select_has l t m in
      by_bool (p x) (λ b. rw b (Memᴰ.tail i)) (λ b. rw b i)

  select-passes : (l : List A) → Memᴰ a (select p l) → p a ≡ true
  unfolding select
  select-passes [] m = absurd (Memᴰ.not-nil m)
  select-passes (x ∷ l) m = go (p x) refl m (select-passes l)
    where
      go : (b : Bool) → p x ≡ b → Memᴰ a (cond b (x ∷ select p l) (select p l)) → (Memᴰ a (select p l) → p a ≡ true) → p a ≡ true
      go true e (Memᴰ.head q) f = ap p q ∙ e
      go true e (Memᴰ.tail n) f = f n
      go false e n f = f n

flat_has : {A B : Type 0} (f : A → List B) (b : B) (a : A) (l : List A) → Memᴰ b (f a) → Memᴰ a l → Memᴰ b (flat_map f l)
unfolding flat_map
flat_has f b a [] i m = absurd (Memᴰ.not-nil m)
flat_has f b a (x ∷ l) i (Memᴰ.head e) = Memᴰ.append_left (flat_map f l) (rw e at i)
flat_has f b a (x ∷ l) i (Memᴰ.tail m) = Memᴰ.append_right (f x) (flat_has f b a l i m)

count_has : (x a n : ℕ) → a ≤ x → x < a + n → Memᴰ x (numbers_from a n)
unfolding numbers_from
count_has x a zero h g = absurd (let z : ⊥ = omega arith in z)
count_has x a (suc n) h g =
    let further = count_has x (suc a) n in
    by_eq x a (λ e. Memᴰ.head e) (λ e. Memᴰ.tail (further (omega arith) (omega arith)))

range_has : (x a b : ℕ) → a ≤ x → x < b → Memᴰ x (range a b)
unfolding range
range_has x a b h g = count_has x a (b - a) h (omega arith)

candidates_have : (kinds k kind s r : ℕ) → 1 ≤ kind → kind ≤ kinds → s < k → r < k → Memᴰ (step kind s r) (candidates kinds k)
unfolding candidates
candidates_have kinds k kind s r h g hs hr =
    flat_has _ (step kind s r) kind _
    (flat_has _ (step kind s r) s _ (Memᴰ.map (step kind s) (range_has r _ _ (omega arith) hr)) (range_has s _ _ (omega arith) hs))
    (range_has kind _ _ h (omega arith))

module _ {Net : Type 0} (R : Rules Net) where
  -- a step that is allowed
  abbrev pub Allowed : Net → Step → Type 0
  Allowed net s = allowed R net s ≡ true

  -- what range asks of kind and stations
  pub record Bounds (net : Net) (s : Step) : Type 0 where
    pub kind_low : 1 ≤ s.kind
    pub kind_high : s.kind ≤ R.kinds net
    pub sender-low : s.sender < R.stations net
    pub receiver-low : s.receiver < R.stations net
    pub report-at-root : s.kind ≡ R.reports → (s.sender ≡ R.root net) × (s.receiver ≡ R.root net)

  pub range_bounds : (net : Net) (s : Step) → in_range R net s ≡ true → Bounds net s
  unfolding in_range
  range_bounds net s h =
      let low = leb 1 s.kind in
      let high = leb s.kind (R.kinds net) in
      let from = ltb s.sender (R.stations net) in
      let to = ltb s.receiver (R.stations net) in
      let at-root = not (eqb s.kind R.reports) || eqb s.sender (R.root net) && eqb s.receiver (R.root net) in
      let a = and_both (low && high && from && to) at-root h in
      let b = and_both (low && high && from) to a.0 in
      let c = and_both (low && high) from b.0 in
      let d = and_both low high c.0 in
      record {
        kind_low = leb-true 1 s.kind d.0;
        kind_high = leb-true s.kind (R.kinds net) d.1;
        sender-low = ltb-true s.sender (R.stations net) c.1;
        receiver-low = ltb-true s.receiver (R.stations net) b.1;
        report-at-root = λ e.
            let both = and_both (eqb s.sender (R.root net)) (eqb s.receiver (R.root net)) (rw (eq-eqb s.kind R.reports e) at a.1) in
            (eqb-true s.sender (R.root net) both.0, eqb-true s.receiver (R.root net) both.1);
      }

  pub bounds_range : (net : Net) (s : Step) → Bounds net s → in_range R net s ≡ true
  unfolding in_range
  bounds_range net s b =
      rw (
        le-leb 1 s.kind b.kind_low,
        le-leb s.kind (R.kinds net) b.kind_high,
        lt-ltb s.sender (R.stations net) b.sender-low,
        lt-ltb s.receiver (R.stations net) b.receiver-low,
      )
      (by_eq s.kind R.reports
      (λ e. let r = b.report-at-root e in rw (eq-eqb s.kind R.reports e, eq-eqb s.sender (R.root net) r.0, eq-eqb s.receiver (R.root net) r.1))
      (λ f. rw (ne_eqb s.kind R.reports f)))

  -- an allowed step has its receiver in the net
  pub allowed-low : (net : Net) (s : Step) → (ltb s.receiver (R.stations net) && allowed R net s) ≡ allowed R net s
  unfolding allowed
  allowed-low net s =
      by_bool (allowed R net s)
      (λ t. rw t (ap (λ (b : Bool). b && true) (lt-ltb s.receiver (R.stations net) (range_bounds net s (and_both (in_range R net s) (R.guard net s) t).0).receiver-low)))
      (λ f. rw f (and-false (ltb s.receiver (R.stations net))))

  -- every allowed step is an entry of the list
  pub listed_complete : (net : Net) (s : Step) → Allowed net s → Memᴰ s (listed R net)
  unfolding listed allowed
  listed_complete net s h =
      let b = range_bounds net s (and_both (in_range R net s) (R.guard net s) h).0 in
      select_has (allowed R net) s (candidates (R.kinds net) (R.stations net)) h
      (candidates_have (R.kinds net) (R.stations net) s.kind s.sender s.receiver b.kind_low b.kind_high b.sender-low b.receiver-low)

  -- every entry of the list is an allowed step
  pub listed-allowed : (net : Net) (s : Step) → Memᴰ s (listed R net) → Allowed net s
  unfolding listed
  listed-allowed net s m = select-passes (allowed R net) s (candidates (R.kinds net) (R.stations net)) m

  pub quiescent-at-rest : (net : Net) → (quiescent R net ≡ true) ↔ AtRest Allowed net
  unfolding quiescent is_empty
  quiescent-at-rest net = (λ e s a. none (listed R net) e (listed_complete net s a), λ n. some (listed R net) (λ s m. n s (listed-allowed net s m)))
    where
      none : {s : Step} (l : List Step) → is_empty l ≡ true → Memᴰ s l → ⊥
      none [] e m = Memᴰ.not-nil m
      none (x ∷ l) e m = clash e refl

      some : (l : List Step) → ((s : Step) → Memᴰ s l → ⊥) → is_empty l ≡ true
      some [] n = refl
      some (x ∷ l) n = absurd (n x (Memᴰ.head refl))
