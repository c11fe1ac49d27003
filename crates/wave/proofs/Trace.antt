-- What holds after every list of steps that the weak guard lets through (T4): each message carries a pair that was not carried, so the
-- list counts the carried pairs, and nothing follows the report. Assumes nothing.
use mathlib.Core.Path.{◌≡◌, refl, ap, ap₂, ◌∙◌}
use mathlib.Core.Bool.{Bool, true, false, ◌&&◌, ◌||◌}
use mathlib.Core.List.{List, [], ◌∷◌, ◌++◌}
use Prim.Native.Nat.{ℕ, suc, ◌+◌}
use native.Mathlib.Omega.{arith}
use lib.ListN.{length}
use lib.Dec.{eqb}
use borrow.Author.Tests.{eqb-true}
use Rattle.finite.proofs.Cases.{clash, and_both}
use Rattle.wave.proofs.Carried.{carried_new, carried_other}
use Rattle.finite.specs.Sum.{indicator}
use Rattle.finite.specs.Internal.Monoid.{CommMonoid}
use Rattle.wave.proofs.Pairs.{pairs, pairs_bump}
use Rattle.wave.specs.Internal.Graph.{Graph}
use Rattle.wave.specs.Internal.Wave.{Step, message, report, State, next, Weak}
use Rattle.wave.specs.Internal.Claim.{times, Runs, reached}
use Rattle.wave.proofs.Invariant.{Inv}
use Rattle.wave.proofs.Gathering.{keep}

-- a mark set where there was none counts once
indicator_or : (t c : Bool) → (t ≡ true → c ≡ false) → indicator (t || c) ≡ indicator t + indicator c
unfolding indicator
indicator_or true true h = clash refl (h refl)
indicator_or true false h = refl
indicator_or false c h = omega arith

module _ {A : Type 0} (g : Graph) (M : CommMonoid A) (counts : ℕ → A) where
  -- after the report nothing is open
  pub no_step : (S : State A) (s : Step) → Inv g M counts S → S.reported ≡ true → Weak g S s → ⊥
  no_step S (message i j) I r w = clash (I.ended r i j w.adjacent) w.unsent
  no_step S report I r w = clash r w.unreported

  pub inv_after : (S : State A) (ss : List Step) → Inv g M counts S → Runs (Weak g) (next g M) S ss → Inv g M counts (reached (next g M) S ss)
  inv_after S [] I l = I
  inv_after S (s ∷ ss) I l = inv_after (next g M S s) ss (keep g M counts S s I l.0) l.1

  -- a message stands in the list as often as it has been carried since
  pub times_message : (S : State A) (ss : List Step) (a b : ℕ) → Runs (Weak g) (next g M) S ss
      → times (message a b) ss + indicator (S.carried a b) ≡ indicator ((reached (next g M) S ss).carried a b)
  unfolding indicator
  times_message S [] a b l = omega arith
  times_message S (message i j ∷ ss) a b l =
      let ih = times_message (next g M S (message i j)) ss a b l.1 in
      let one : indicator (eqb a i && eqb b j || S.carried a b) ≡ indicator (eqb a i && eqb b j) + indicator (S.carried a b) =
      indicator_or (eqb a i && eqb b j) (S.carried a b) (λ t.
      let p = and_both (eqb a i) (eqb b j) t in
      ap₂ S.carried (eqb-true a i p.0) (eqb-true b j p.1) ∙ l.0.unsent) in
      omega (arith, ih, one)
  times_message S (report ∷ ss) a b l = omega (arith, times_message (next g M S report) ss a b l.1)

  pub times-report : (S : State A) (ss : List Step) → Runs (Weak g) (next g M) S ss
      → times report ss + indicator S.reported ≡ indicator (reached (next g M) S ss).reported
  unfolding indicator
  times-report S [] l = omega arith
  times-report S (message i j ∷ ss) l = omega (arith, times-report (next g M S (message i j)) ss l.1)
  times-report S (report ∷ ss) l = omega (arith, times-report (next g M S report) ss l.1, ap indicator l.0.unreported)

  -- each step is one more pair carried, or the report
  pub count : (S : State A) (ss : List Step) → Runs (Weak g) (next g M) S ss
      → length ss + (pairs g.size S.carried + indicator S.reported)
      ≡ pairs g.size (reached (next g M) S ss).carried + indicator (reached (next g M) S ss).reported
  unfolding indicator
  count S [] l = omega arith
  count S (message i j ∷ ss) l =
      let w = l.0 in
      let b = g.within i j w.adjacent in
      let one : pairs g.size (next g M S (message i j)).carried ≡ suc (pairs g.size S.carried) =
      pairs_bump g.size i j S.carried (next g M S (message i j)).carried b.0 b.1 w.unsent
      (carried_new i j (S.carried i j)) (λ x y n. carried_other i j x y (S.carried x y) n) in
      omega (arith, count (next g M S (message i j)) ss l.1, one)
  count S (report ∷ ss) l = omega (arith, count (next g M S report) ss l.1, ap indicator l.0.unreported)

  -- the report is the last step
  pub report_ends : (S : State A) (ss : List Step) → Inv g M counts S → Runs (Weak g) (next g M) S ss → S.reported ≡ false
      → (reached (next g M) S ss).reported ≡ true → (front : List Step) × (ss ≡ front ++ (report ∷ []))
  report_ends S [] I l f t = clash t f
  report_ends S (message i j ∷ ss) I l f t =
      let p = report_ends (next g M S (message i j)) ss (keep g M counts S (message i j) I l.0) l.1 f t in
      (message i j ∷ p.0, ap (λ (x : List Step). message i j ∷ x) p.1)
  report_ends S (report ∷ []) I l f t = ([], refl)
  report_ends S (report ∷ (s ∷ ss)) I l f t = absurd (no_step (next g M S report) s (keep g M counts S report I l.0) refl l.1.0)
