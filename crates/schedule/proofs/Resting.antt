-- In a net in form a single step is accepted just where it is allowed. So a draw is a single step of those accepted, a net is at rest just where
-- every single step is refused, and there no call makes a step or leaves another net. Assumes nothing.
use Rattle.std.proofs.Common.{◌≡◌, ℕ, ◌%◌, Bool, true, cond, eqb, ◌↔◌, List, [], ◌∷◌, length, get_or, sym, refl, ap, ◌∙◌, mod-lt, arith, eq-eqb, ne_eqb, eqb-true, Some, None}
use mathlib.Core.Path.{fun_ext}
use Rattle.finite.proofs.Cases.{clash, by_bool, by_eq}
use Rattle.wave.specs.Internal.Claim.{AtRest}
use Rattle.refusal.specs.declared.Refusal.TheVariants.{OutOfForm, OutOfRange, NotAllowed, NothingAllowed}
use Rattle.refusal.proofs.Laws.{number-not-zero}
use Rattle.schedule.specs.declared.Step.{Step}
use Rattle.schedule.specs.Rules.{Rules, in_range, allowed}
use Rattle.schedule.specs.Listing.{select, step, candidates, is_empty, listed, quiescent}
use Rattle.schedule.specs.Outcome.{StepOutcome, step_refused, RunOutcome}
use Rattle.schedule.specs.Draws.{picked, step_on, draw_on, run_made, run_net, stopped, run_on}
use Rattle.schedule.specs.Rows.{step_found}
use Rattle.schedule.specs.Calls.{Call, single, draw, run, call_made, call_net, calls_made, calls_net}
use Rattle.schedule.proofs.Listing.{Allowed, quiescent-at-rest}
use Rattle.schedule.proofs.Parts.{entry_at}
use Rattle.schedule.proofs.Picks.{picked_none, picked-entry}
use Rattle.schedule.proofs.Answers.{picked-allowed}
use Rattle.schedule.proofs.Outcomes.{step_outside, step_barred, step-allowed, draw_nothing, draw_picked}

same_effect : {Net : Type 0} {o p : StepOutcome Net} → o ≡ p → (o.made ≡ p.made) × (o.net ≡ p.net)
same_effect e = (ap (λ (o : StepOutcome _). o.made) e, ap (λ (o : StepOutcome _). o.net) e)

module _ {Net : Type 0} (R : Rules Net) where
  module _ (net : Net) (formed : R.well_formed net ≡ true) where
    pub accepted-allowed : (s : Step) → eqb (step_on R net s).number 0 ≡ allowed R net s
    unfolding step_on allowed
    accepted-allowed s =
        by_bool (in_range R net s)
        (λ r. by_bool (R.guard net s) (λ g. rw (formed, r, g)) (λ g. rw (formed, r, g)))
        (λ r. rw (formed, r))

    pub accepted-listed : select (λ s. eqb (step_on R net s).number 0) (candidates (R.kinds net) (R.stations net)) ≡ listed R net
    unfolding listed
    accepted-listed = ap (λ (p : Step → Bool). select p (candidates (R.kinds net) (R.stations net))) (fun_ext accepted-allowed)

    -- a draw is the single step of the entry that it picks
    pub draw_entry : (d : ℕ) → let c = length (listed R net) in
        draw_on R net d ≡ cond (eqb c 0) (step_refused NothingAllowed net) (step_on R net (get_or (listed R net) (d % c) (step 0 0 0)))
    draw_entry d =
        let l = listed R net in
        let n = d % length l in
        let s = get_or l n (step 0 0 0) in
        by_eq (length l) 0
        (λ z. rw (eq-eqb (length l) 0 z) (draw_nothing R net d formed (sym (picked_none l d z))))
        (λ some.
        let is : picked l d ≡ Some s = sym (picked-entry l d some) ∙ ap step_found (entry_at l n (step 0 0 0) (mod-lt d (omega arith))) in
        rw (ne_eqb (length l) 0 some) (draw_picked R net d formed s is ∙ sym (step-allowed R net s formed (picked-allowed R net s d is))))

    pub rest_refuses : AtRest (Allowed R) net ↔ ((s : Step) → (step_on R net s).number ≡ 0 → ⊥)
    rest_refuses = (
      λ rest s e. rest s (sym (accepted-allowed s) ∙ eq-eqb (step_on R net s).number 0 e),
      λ none s a. none s (eqb-true (step_on R net s).number 0 (accepted-allowed s ∙ a)),
    )

    module _ (rest : AtRest (Allowed R) net) where
      pub rest-step : (s : Step) → step_on R net s ≡ step_refused (cond (in_range R net s) NotAllowed OutOfRange) net
      unfolding allowed
      rest-step s =
          by_bool (in_range R net s)
          (λ r. rw r (step_barred R net s formed r (by_bool (R.guard net s) (λ g. absurd (rest s (rw (r, g)))) (λ g. g))))
          (λ r. rw r (step_outside R net s formed r))

      pub rest_draw : (d : ℕ) → draw_on R net d ≡ step_refused NothingAllowed net
      unfolding picked quiescent is_empty
      rest_draw d = draw_nothing R net d formed (none (listed R net) ((quiescent-at-rest R net).1 rest))
        where
          none : (l : List Step) → is_empty l ≡ true → picked l d ≡ None
          none [] e = refl
          none (s ∷ l) e = clash e refl

      rest_makes : (ds : List ℕ) → (run_made R net ds ≡ []) × (run_net R net ds ≡ net)
      unfolding run_made run_net
      rest_makes [] = (refl, refl)
      rest_makes (d ∷ ds) = rw (rest_draw d) (refl, refl)

      pub rest_run : (ds : List ℕ) → run_on R net ds ≡ record { number = 0; steps = 0; rest = true; net = net }
      unfolding run_on stopped
      rest_run ds = rw ((rest_makes ds).0, (rest_makes ds).1, formed, (quiescent-at-rest R net).1 rest)

      rest-call : (c : Call) → (call_made R net c ≡ []) × (call_net R net c ≡ net)
      unfolding call_made call_net
      rest-call (single s) = same_effect (rest-step s)
      rest-call (draw d) = same_effect (rest_draw d)
      rest-call (run ds) = ((rest_makes ds).0, ap (λ (o : RunOutcome Net). o.net) (rest_run ds))

      pub rest_calls : (cs : List Call) → (calls_made R net cs ≡ []) × (calls_net R net cs ≡ net)
      unfolding calls_made calls_net
      rest_calls [] = (refl, refl)
      rest_calls (c ∷ cs) =
          let none = rest-call c in
          let further = rest_calls cs in
          (rw (none.0, none.1) further.0, ap (λ (n : Net). calls_net R n cs) none.1 ∙ further.1)

  -- a run that is not refused stops in a net in form, and there it says whether that is at rest
  stop-says : (end : Net) (n : ℕ)
      → ((stopped R end n).number ≡ 0 → R.well_formed (stopped R end n).net ≡ true)
      × (R.well_formed (stopped R end n).net ≡ true → (stopped R end n).rest ≡ quiescent R (stopped R end n).net)
  unfolding stopped
  stop-says end n =
      by_bool (R.well_formed end)
      (λ f. rw f (λ e. f, λ g. refl))
      (λ f. rw f (λ e. absurd (number-not-zero OutOfForm e), λ g. clash g f))

  module _ (net : Net) (ds : List ℕ) where
    pub run_formed : (run_on R net ds).number ≡ 0 → R.well_formed (run_on R net ds).net ≡ true
    unfolding run_on
    run_formed = (stop-says (run_net R net ds) (length (run_made R net ds))).0

    pub run_rests : R.well_formed (run_on R net ds).net ≡ true → ((run_on R net ds).rest ≡ true) ↔ AtRest (Allowed R) (run_on R net ds).net
    unfolding run_on
    run_rests formed =
        let says = (stop-says (run_net R net ds) (length (run_made R net ds))).1 formed in
        let quiet = quiescent-at-rest R (run_on R net ds).net in
        (λ r. quiet.0 (sym says ∙ r), λ rest. says ∙ quiet.1 rest)
