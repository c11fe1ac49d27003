-- While the wave has not reported, some step is open to it, even under the strong guard (T2): some start, or else all are awake and only
-- answers are missing, and one whose sender woke last may go. Assumes nothing.
use mathlib.Core.Path.{◌≡◌, sym, ◌∙◌, subst}
use mathlib.Core.Bool.{true, false}
use mathlib.Core.Logic.{◌⊎◌, inl, inr}
use Prim.Native.Nat.{ℕ, zero, suc, ◌+◌, ◌<◌, ◌≤◌}
use native.Mathlib.Omega.{arith}
use Rattle.finite.proofs.Cases.{clash, by_bool, by-sum, find}
use Rattle.finite.specs.Internal.Monoid.{CommMonoid}
use Rattle.wave.specs.Internal.Graph.{Graph}
use Rattle.finite.specs.Links.{Chain, here, link}
use Rattle.wave.specs.Internal.Wave.{Step, message, report, State, answers, Strong}
use Rattle.wave.proofs.Invariant.{Inv, answers_both, rank_below}

module _ {A : Type 0} (g : Graph) (M : CommMonoid A) (counts : ℕ → A) (S : State A) (I : Inv g M counts S) where
  -- a start that may be sent
  record Start (i j : ℕ) : Type 0 where
    adjacent : g.adj i j ≡ true
    up : S.awake i ≡ true
    unsent : S.carried i j ≡ false
    start : answers g S i j ≡ false

  NoStart : ℕ → ℕ → Type 0
  NoStart i j = g.adj i j ≡ true → S.awake i ≡ true → answers g S i j ≡ false → S.carried i j ≡ true

  start? : (i j : ℕ) → Start i j ⊎ NoStart i j
  unfolding NoStart
  start? i j =
      by_bool (g.adj i j)
      (λ a. by_bool (S.awake i)
      (λ b. by_bool (S.carried i j)
      (λ c. inr (λ _ _ _. c))
      (λ c. by_bool (answers g S i j)
      (λ d. inr (λ _ _ e. clash d e))
      (λ d. inl (record { adjacent = a; up = b; unsent = c; start = d }))))
      (λ b. inr (λ _ e _. clash e b)))
      (λ a. inr (λ e _ _. clash e a))

  send : (i j : ℕ) → Start i j → Strong g S (message i j)
  send i j s = (
    record { adjacent = s.adjacent; up = s.up; unsent = s.unsent; heard = λ e. clash e s.start },
    λ e. clash e s.start,
  )

  module _ (none : (i j : ℕ) → g.adj i j ≡ true → S.awake i ≡ true → answers g S i j ≡ false → S.carried i j ≡ true) where
    all_up : (i : ℕ) → Chain g.adj g.root i → S.awake i ≡ true
    all_up i here = I.root_up
    all_up i (link {j = j} e c) =
        let up = all_up j c in
        by_bool (answers g S j i)
        (λ a.
        let b = answers_both g S j i a in
        subst (λ (x : ℕ). S.awake x ≡ true) b.1 (I.sent (S.parent j) j (I.tree j up b.0).0).1)
        (λ a. (I.sent j i (none j i (g.mutual_adj i j e) up a)).2)

    station_up : (i j : ℕ) → g.adj i j ≡ true → S.awake i ≡ true
    station_up i j e = all_up i (g.joined i (g.within i j e).0)

    -- the pair (i, j) is not carried: i or some station below it can answer
    deepest : (n i j : ℕ) → g.adj i j ≡ true → S.carried i j ≡ false → g.size ≤ I.rank i + n
        → (a : ℕ) × (b : ℕ) × Strong g S (message a b)
    deepest zero i j e c l = absurd (omega (arith, rank_below g M counts S I i (station_up i j e)))
    deepest (suc n) i j e c l =
        let up = station_up i j e in
        let is_an_answer : answers g S i j ≡ true = by_bool (answers g S i j) (λ a. a) (λ a. clash (none i j e up a) c) in
        let b = answers_both g S i j is_an_answer in
        by-sum
        (find g.size (λ h. (g.adj h i ≡ true) × (S.carried h i ≡ false)) (λ h. g.adj h i ≡ true → S.carried h i ≡ true)
        (λ h. by_bool (S.carried h i)
        (λ d. inr (λ _. d))
        (λ d. by_bool (g.adj h i) (λ a. inl (a, d)) (λ a. inr (λ a'. clash a' a)))))
        (λ f.
        let h = f.0 in
        let up-h = station_up h i f.2.0 in
        let b' = answers_both g S h i (by_bool (answers g S h i) (λ a. a) (λ a. clash (none h i f.2.0 up-h a) f.2.1)) in
        let deeper : I.rank i < I.rank h = subst (λ (x : ℕ). I.rank x < I.rank h) b'.1 (I.tree h up-h b'.0).1 in
        deepest n h i f.2.0 f.2.1 (omega arith))
        (λ f. (
          i,
          j,
          (
            record { adjacent = e; up = up; unsent = c; heard = λ _ h a. f h (g.within h i a).0 a },
            λ _ h n' a. none i h a up
                (by_bool (answers g S i h) (λ a'. absurd (n' (sym (answers_both g S i h a').1 ∙ b.1))) (λ a'. a')),
          ),
        ))

  -- T2: where some pair is not carried, some message may be sent
  pub some_message : (i j : ℕ) → g.adj i j ≡ true → S.carried i j ≡ false → (a : ℕ) × (b : ℕ) × Strong g S (message a b)
  unfolding NoStart
  some_message i j e c =
      by-sum
      (find g.size (λ a. (b : ℕ) × (b < g.size) × Start a b) (λ a. (b : ℕ) → b < g.size → NoStart a b)
      (λ a. find g.size (Start a) (NoStart a) (start? a)))
      (λ f. (f.0, f.2.0, send f.0 f.2.0 f.2.2))
      (λ f. deepest (λ a b d. let w = g.within a b d in f a w.0 b w.1 d) g.size i j e c (omega arith))

  -- T2: where all are, and there was no report, there may be one
  pub some-report : ((i j : ℕ) → g.adj i j ≡ true → S.carried i j ≡ true) → S.reported ≡ false → Strong g S report
  some-report all r = (record { unreported = r; heard = λ h e. all h g.root e }, λ h e. all g.root h e)

  -- so there is always a step until the report
  pub some-step : S.reported ≡ false → (s : Step) × Strong g S s
  some-step r =
      by-sum
      (find g.size (λ i. (j : ℕ) × (j < g.size) × ((g.adj i j ≡ true) × (S.carried i j ≡ false)))
      (λ i. (j : ℕ) → j < g.size → g.adj i j ≡ true → S.carried i j ≡ true)
      (λ i. find g.size (λ j. (g.adj i j ≡ true) × (S.carried i j ≡ false)) (λ j. g.adj i j ≡ true → S.carried i j ≡ true)
      (λ j. by_bool (S.carried i j)
      (λ d. inr (λ _. d))
      (λ d. by_bool (g.adj i j) (λ a. inl (a, d)) (λ a. inr (λ a'. clash a' a))))))
      (λ f. let m = some_message f.0 f.2.0 f.2.2.0 f.2.2.1 in (message m.0 m.1, m.2))
      (λ f. (report, some-report (λ i j e. let w = g.within i j e in f i w.0 j w.1 e) r))
