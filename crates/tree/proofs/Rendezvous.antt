-- Stations that meet show the tree behind a total: of the steps that are allowed the answers are those of kind 3. Assumes nothing.
use mathlib.Core.Path.{◌≡◌, refl, sym, ap, ◌∙◌, subst}
use mathlib.Core.Bool.{true, false, cond}
use Prim.Native.Nat.{ℕ, ◌≤◌}
use native.Mathlib.Omega.{arith}
use lib.Dec.{eqb}
use Rattle.finite.proofs.Cases.{by_eq, and_both}
use borrow.Author.Tests.{eqb-true}
use Rattle.aggregate.specs.declared.Cell.{Cell}
use Rattle.aggregate.specs.Ways.{is_way}
use Rattle.aggregate.specs.Internal.Joining.{cells}
use Rattle.aggregate.proofs.Joining.{joining}
use Rattle.wave.specs.Internal.Graph.{Graph}
use Rattle.wave.specs.Internal.Wave.{State, message, answers, CanSend, Weak}
use Rattle.wave.proofs.Invariant.{Inv, spent}
use Rattle.topology.specs.Answer.{accepted}
use Rattle.linemap.specs.declared.Map.{Map}
use Rattle.linemap.specs.Maps.{config_of, acceptance}
use Rattle.linemap.specs.RoundTrip.{Fits}
use Rattle.schedule.specs.declared.Step.{Step}
use Rattle.schedule.specs.Listing.{step}
use Rattle.schedule.specs.Rules.{in_range, allowed}
use Rattle.schedule.specs.Internal.Labels.{label_of}
use Rattle.schedule.proofs.Listing.{Allowed, range_bounds}
use Rattle.rendezvous.specs.Net.{Net, station}
use Rattle.rendezvous.specs.Figure.{wake, pass, answer, report}
use Rattle.rendezvous.specs.Telling.{tell}
use Rattle.rendezvous.specs.Rules.{rules}
use Rattle.rendezvous.specs.Opening.{fresh_on}
use Rattle.order.specs.Internal.Maps.{readings}
use Rattle.order.proofs.Kind.{Ties}
use Rattle.order.proofs.Maps.{classes_of_lem, web_of}
use Rattle.order.proofs.Meeting.{MayStart, May}
use Rattle.order.proofs.MeetingRefines.{Meets, start-sound, answer-sound}
use Rattle.order.proofs.RendezvousSteps.{act, view, Good, may_of}
use Rattle.order.proofs.Rendezvous.{ties}
use Rattle.demand.specs.Kinds.{meeting, desk_held}
use Rattle.tree.specs.Tree.{meeting_answers}
use Rattle.tree.proofs.Kind.{label_is, message_step, awake_shown, graph, Shown}

module _ (way : ℕ) (w : is_way way ≡ true) (m : Map) (fits : Fits m) (e : acceptance m ≡ accepted) where
  abbrev g : Graph
  g = graph way m e

  abbrev tied : Ties rules g (joining way) (readings way m) (fresh_on false way m) (λ net. cells (config_of way m) (desk_held (meeting way) m net))
  tied = ties (config_of way m) m.counts m.neighbours (web_of m e) (classes_of_lem m e, w) fits.counts

  module _ (n : Net) (S : State (ℕ → Cell)) (G : Good (config_of way m) m.neighbours (web_of m e) n) (R : Meets g (view (config_of way m) n) S)
      (I : Inv g (joining way) (readings way m) S) (s : Step) (i j : ℕ) (a : Allowed rules n s) (l : label_of rules s ≡ message i j) where
    -- what its guard says
    may : (kind : ℕ) → s.kind ≡ kind → May g (view (config_of way m) n) (act (step kind i j))
    may kind q =
        may_of (config_of way m) m.neighbours (web_of m e) n (step kind i j) G
        (subst (Allowed rules n) (message_step rules s kind i j l q) a)

    -- a start is none
    start_is : (kind state : ℕ) → s.kind ≡ kind → eqb kind answer ≡ false → MayStart g (view (config_of way m) n) i j state
        → eqb s.kind answer ≡ answers g S i j
    start_is kind state q other may =
        ap (λ (x : ℕ). eqb x answer) q ∙ other ∙ sym (start-sound g (joining way) (readings way m) S I (view (config_of way m) n) R i j state may).1

    -- a message is of kind 1, 2 or 3
    kind_is : eqb s.kind answer ≡ answers g S i j
    unfolding allowed
    kind_is =
        let b = range_bounds rules n s (and_both (in_range rules n s) (rules.guard n s) a).0 in
        by_eq s.kind wake
        (λ q. start_is wake 0 q refl (may wake q))
        (λ n₁. by_eq s.kind pass
        (λ q. start_is pass 1 q refl (may pass q))
        (λ n₂.
        let high : s.kind ≤ 4 = subst (λ (x : ℕ). s.kind ≤ cond (eqb x 1) tell report) G.flag b.kind_high in
        let q : s.kind ≡ answer = omega (arith, b.kind_low, high, n₁, n₂, (label_is rules s i j l).0) in
        ap (λ (x : ℕ). eqb x answer) q ∙ sym (answer-sound g (joining way) (readings way m) S I (view (config_of way m) n) R i j (may answer q)).1))

  pub meeting-shown : Shown (meeting way) (meeting_answers way) m e
  meeting-shown =
      record {
        ties = tied;
        shows = record {
          awake_is = λ n S st x h up. awake_shown g S (spent g S) x (station n x).state (st.1.stations.states x h) up;
          parent_is = λ n S st x h. st.1.stations.parents x h;
          held-is = λ n S st x h. st.1.stations.sums x h;
          answer-is = λ n S s i j st I a l. kind_is n S st.0 st.1 I s i j a l;
          brought_is = λ n S s i j st I a l up.
              let may : CanSend g S i j = subst (Weak g S) l (tied.sound n S s st I a) in
              ap (λ (x : ℕ). cells (config_of way m) (station n x).held) (label_is rules s i j l).1
              ∙ st.1.stations.sums i (g.within i j may.adjacent).0;
        };
        no_report = λ net s a. let q = eqb-true s.kind answer a in ap (λ (x : ℕ). eqb x 4) q;
      }
