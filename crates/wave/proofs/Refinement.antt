-- The theorem on the order of the links, for everything that carries out the wave. A kind of net refines it through a relation between
-- its nets and the wave's states; the claim is then read off the state, which the invariant and the count of carried pairs fix.
-- Assumes nothing.
use mathlib.Core.Path.{◌≡◌, refl, sym, ap, ◌∙◌}
use mathlib.Core.Bool.{true}
use mathlib.Core.List.{List, [], ◌∷◌, map}
use Prim.Native.Nat.{ℕ, ◌+◌, ◌*◌, ◌≤◌}
use native.Mathlib.Omega.{arith}
use lib.ListN.{length}
use Rattle.finite.specs.Sum.{indicator}
use Rattle.finite.specs.Internal.Monoid.{CommMonoid}
use Rattle.finite.proofs.Cases.{clash, by_bool}
use Rattle.finite.proofs.Sums.{indicator_most, indicator-one}
use Rattle.wave.specs.Internal.Graph.{Graph}
use Rattle.finite.specs.Links.{links}
use Rattle.wave.specs.Internal.Wave.{Step, message, report, State, fresh, next, Weak, Strong}
use Rattle.wave.specs.Internal.Claim.{times, Runs, reached, AtRest, WaveClaim}
use Rattle.wave.proofs.Pairs.{pairs, pairs-none, pairs-le, pairs-links}
use Rattle.wave.proofs.Invariant.{Inv, root_holds_total}
use Rattle.wave.proofs.Gathering.{fresh_inv, keep}
use Rattle.wave.proofs.Progress.{some-step}
use Rattle.wave.proofs.Trace.{no_step, inv_after, times_message, times-report, count, report_ends}

-- A kind of net. Each net reached stands for a state of the wave: every move it allows is a step that the weak guard lets through, and
-- wherever the strong guard lets some step through, it allows some move.
pub record Refinement {A : Type 0} (g : Graph) (M : CommMonoid A) (counts : ℕ → A) : Type 1 where
  pub Net : Type 0
  pub Move : Type 0
  pub opened : Net
  pub Allowed : Net → Move → Type 0
  pub make : Net → Move → Net
  pub label : Move → Step
  pub result : Net → A
  pub Stands : Net → State A → Type 0
  pub opened_stands : Stands opened (fresh g counts)
  pub result_is : (n : Net) (S : State A) → Stands n S → result n ≡ S.value g.root
  pub sound : (n : Net) (S : State A) (m : Move) → Stands n S → Inv g M counts S → Allowed n m → Weak g S (label m)
  pub keeps : (n : Net) (S : State A) (m : Move) → Stands n S → Inv g M counts S → Allowed n m
      → Stands (make n m) (next g M S (label m))
  pub live : (n : Net) (S : State A) (s : Step) → Stands n S → Inv g M counts S → Strong g S s → (m : Move) × Allowed n m

pub adj_sym : (g : Graph) (i j : ℕ) → g.adj i j ≡ g.adj j i
adj_sym g i j =
    by_bool (g.adj i j)
    (λ a. a ∙ sym (g.mutual_adj i j a))
    (λ a. a ∙ by_bool (g.adj j i) (λ b. clash (g.mutual_adj j i b) a) (λ b. sym b))

module _ {A : Type 0} (g : Graph) (M : CommMonoid A) (counts : ℕ → A) where
  -- the claim, from what the wave's state says of the net
  demand_of_state : (made : List Step) (rest : Type 0) (number : A) → Runs (Weak g) (next g M) (fresh g counts) made
      → number ≡ (reached (next g M) (fresh g counts) made).value g.root
      → ((reached (next g M) (fresh g counts) made).reported ≡ true → rest)
      → (rest → (reached (next g M) (fresh g counts) made).reported ≡ true)
      → WaveClaim g.size g.adj M counts made rest number
  unfolding indicator
  demand_of_state made rest number l number_is to-rest from-rest =
      let S = reached (next g M) (fresh g counts) made in
      let I = inv_after g M counts (fresh g counts) made (fresh_inv g M counts) l in
      let carried-times : (a b : ℕ) → times (message a b) made ≡ indicator (S.carried a b) =
      λ a b. omega (arith, times_message g M counts (fresh g counts) made a b l) in
      let reported-times : times report made ≡ indicator S.reported = omega (arith, times-report g M counts (fresh g counts) made l) in
      let counted : length made ≡ pairs g.size S.carried + indicator S.reported =
      omega (arith, count g M counts (fresh g counts) made l, pairs-none g.size) in
      let each-link : pairs g.size g.adj ≡ 2 * links g.size g.adj = pairs-links g.size g.adj (adj_sym g) g.no_loop in
      let some-links : pairs g.size S.carried ≤ pairs g.size g.adj = pairs-le g.size S.carried g.adj (λ i j e. (I.sent i j e).0) in
      let most = indicator_most S.reported in
      let is-reported : times report made ≡ 1 → S.reported ≡ true = λ e. indicator-one S.reported (sym reported-times ∙ e) in
      record {
        one-report = omega arith;
        one_message = λ i j. omega (arith, carried-times i j, indicator_most (S.carried i j));
        over-links = λ i j e. carried-times i j ∙ ap indicator (by_bool (S.carried i j) (λ c. clash (I.sent i j c).0 e) (λ c. c));
        at_most = omega arith;
        report-rest = (λ e. to-rest (is-reported e), λ r. reported-times ∙ ap indicator (from-rest r));
        report-full = (
          λ e. omega (arith, pairs-le g.size g.adj S.carried (I.ended (is-reported e))),
          λ e. omega arith,
        );
        report_last = λ e. report_ends g M counts (fresh g counts) made (fresh_inv g M counts) l refl (is-reported e);
        total = λ e. number_is ∙ root_holds_total g M counts S I (I.ended (is-reported e));
        each_way = λ e i j a. carried-times i j ∙ ap indicator (I.ended (is-reported e) i j a);
      }

  module _ (K : Refinement g M counts) where
    pub stands : (n : K.Net) (S : State A) (ms : List K.Move) → K.Stands n S → Inv g M counts S → Runs K.Allowed K.make n ms
        → Runs (Weak g) (next g M) S (map K.label ms) × K.Stands (reached K.make n ms) (reached (next g M) S (map K.label ms))
    stands n S [] st I r = (tt, st)
    stands n S (m ∷ ms) st I r =
        let w = K.sound n S m st I r.0 in
        let p = stands (K.make n m) (next g M S (K.label m)) ms (K.keeps n S m st I r.0) (keep g M counts S (K.label m) I w) r.1 in
        ((w, p.0), p.1)

    -- the state that the net reached stands for, and whether there was a report
    pub state-reached : (ms : List K.Move) → Runs K.Allowed K.make K.opened ms
        → (S : State A) × Inv g M counts S × K.Stands (reached K.make K.opened ms) S × (times report (map K.label ms) ≡ indicator S.reported)
    unfolding indicator
    state-reached ms r =
        let made = map K.label ms in
        let p = stands K.opened (fresh g counts) ms K.opened_stands (fresh_inv g M counts) r in (
          reached (next g M) (fresh g counts) made,
          inv_after g M counts (fresh g counts) made (fresh_inv g M counts) p.0,
          p.1,
          omega (arith, times-report g M counts (fresh g counts) made p.0),
        )

    -- after every list of allowed moves from the opened net
    pub refinement_demand : (ms : List K.Move) → Runs K.Allowed K.make K.opened ms
        → WaveClaim g.size g.adj M counts (map K.label ms) (AtRest K.Allowed (reached K.make K.opened ms)) (K.result (reached K.make K.opened ms))
    refinement_demand ms r =
        let n = reached K.make K.opened ms in
        let S = reached (next g M) (fresh g counts) (map K.label ms) in
        let p = stands K.opened (fresh g counts) ms K.opened_stands (fresh_inv g M counts) r in
        let I = inv_after g M counts (fresh g counts) (map K.label ms) (fresh_inv g M counts) p.0 in
        demand_of_state (map K.label ms) (AtRest K.Allowed n) (K.result n) p.0 (K.result_is n S p.1)
        (λ e m a. no_step g M counts S (K.label m) I e (K.sound n S m p.1 I a))
        (λ rest. by_bool S.reported (λ e. e) (λ e.
        let s = some-step g M counts S I e in
        let m = K.live n S s.0 p.1 I s.1 in
        absurd (rest m.0 m.1)))
