-- What else is claimed, once for both kinds of net. Single steps accept what is allowed, so the list that draws pick from is that of the steps
-- accepted, and rest is that none is; after the report a net is at rest, where no call moves it. Assumes nothing.
use mathlib.Core.Path.{◌≡◌, refl, sym, ap, ◌∙◌, subst}
use mathlib.Core.Bool.{true, cond}
use mathlib.Core.List.{List, [], ◌∷◌, Memᴰ, append-nil}
use mathlib.Core.Logic.{◌↔◌}
use Prim.Native.Nat.{ℕ, ◌+◌, ◌*◌, ◌%◌, min}
use native.Mathlib.Omega.{arith}
use lib.Dec.{eqb}
use lib.ListN.{length, get_or, length-map}
use borrow.Author.Tests.{eq-eqb}
use Rattle.refusal.specs.declared.Refusal.TheVariants.{NothingAllowed}
use Rattle.wave.specs.Internal.Claim.{AtRest}
use Rattle.linemap.specs.declared.Map.{Map}
use Rattle.linemap.specs.Maps.{link_count}
use Rattle.linemap.specs.Reading.{read_as, reading}
use Rattle.linemap.proofs.Accepted.{read-accepted}
use Rattle.linemap.proofs.Fits.{read_fits}
use Rattle.schedule.specs.declared.Step.{Step}
use Rattle.schedule.specs.Rules.{Rules}
use Rattle.schedule.specs.Listing.{step}
use Rattle.schedule.specs.Outcome.{step_refused}
use Rattle.schedule.specs.Draws.{step_on, run_made, run_net, run_on}
use Rattle.schedule.specs.Calls.{run, call_made, call_net, calls_made, calls_net}
use Rattle.schedule.specs.Internal.Labels.{label_of}
use Rattle.schedule.proofs.Listing.{Allowed, listed_complete}
use Rattle.schedule.proofs.Made.{stopped_net}
use Rattle.schedule.proofs.Runs.{run_steps, run_is_draws}
use Rattle.schedule.proofs.Resting.{accepted-allowed, accepted-listed, draw_entry, rest_refuses, rest-step, rest_draw, rest_run, rest_calls, run_formed, run_rests}
use Rattle.order.proofs.RendezvousOrder.{rendezvous_order, rendezvous_conserved}
use Rattle.order.proofs.RendezvousBack.{rendezvous_carried, carried_conserved}
use Rattle.order.proofs.MailboxOrder.{mailbox_order}
use Rattle.demand.specs.Kinds.{Kind, meeting, carrying, mailing, made, left, steps, reports}
use Rattle.demand.specs.Demand.{OnEveryMap, OnEveryWay}
use Rattle.demand.specs.Further.{DrawsPick, RestIsRest, Final, RunIsDraws, FreshRun, OfKind, EndsInReport, Conserved, Read, Further}
use Rattle.demand.proofs.Counted.{reports-counted}
use Rattle.demand.proofs.Demand.{Orderly, Whole, reports-made}

module _ {Net : Type 0} (R : Rules Net) (net : Net) where
  draws_pick : R.well_formed net ≡ true → DrawsPick R net
  draws_pick formed =
      let same = sym (accepted-listed R net formed) in
      record {
        draws = λ d.
            draw_entry R net formed d
            ∙ ap
            (λ (l : List Step). cond (eqb (length l) 0) (step_refused NothingAllowed net) (step_on R net (get_or l (d % length l) (step 0 0 0))))
            same;
        all_listed = λ s e.
            subst (Memᴰ s) same
            (listed_complete R net s (sym (accepted-allowed R net formed s) ∙ eq-eqb (step_on R net s).number 0 e));
      }

  rest-is-rest : (draws : List ℕ) → RestIsRest R net draws
  rest-is-rest draws e =
      let formed = run_formed R net draws e in
      let rests = run_rests R net draws formed in
      let refuses = rest_refuses R (run_on R net draws).net formed in
      (λ r. refuses.0 (rests.0 r), λ none. rests.1 (refuses.1 none))

  runs_as_draws : (draws : List ℕ) → RunIsDraws R net draws
  unfolding call_made call_net run_on
  runs_as_draws draws =
      let same = run_is_draws R net draws in
      record { made_as = same.0; left_as = stopped_net R (run_net R net draws) (length (run_made R net draws)) ∙ same.1; counted = run_steps R net draws }

  pub rest_final : R.well_formed net ≡ true → AtRest (Allowed R) net → Final R net
  rest_final formed rest =
      record {
        no_step = rest-step R net formed rest;
        no_draw = rest_draw R net formed rest;
        no_run = rest_run R net formed rest;
        no_call = rest_calls R net formed rest;
      }

-- A run of the fresh net, from the formula for its steps and from how many were made where it is at rest.
pub fresh_run : (K : Kind) (full : ℕ) (m : Map) (draws : List ℕ) → let end = left K m (run draws ∷ []) in
    (run_on K.rules (K.fresh m) draws).steps ≡ min (length draws) full → K.rules.well_formed end ≡ true
    → AtRest (Allowed K.rules) end ↔ (length (made K m (run draws ∷ [])) ≡ full) → FreshRun K full m draws
unfolding calls_made calls_net call_made call_net
fresh_run K full m draws formula formed at-full =
    let R = K.rules in
    let fresh = K.fresh m in
    let rests = run_rests R fresh draws formed in
    let many : length (made K m (run draws ∷ [])) ≡ min (length draws) full =
    ap length (append-nil (run_made R fresh draws)) ∙ sym (run_steps R fresh draws) ∙ formula in
    record {
      steps = formula;
      rest = (λ r. let e = at-full.0 (rests.0 r) in omega (arith, e, many), λ enough. rests.1 (at-full.1 (omega (arith, many, enough))));
    }

module _ (K : Kind) (orderly : Orderly K) (whole : Whole K) where
  final : OnEveryMap (λ m calls. reports K m calls ≡ 1 → Final K.rules (left K m calls))
  final m fits good calls e =
      let order = (orderly m fits good).order in
      rest_final K.rules (left K m calls) (order.formed calls)
      ((order.demand calls).report-rest.0 (reports-made K whole m calls ∙ e))

  ends_in_report : EndsInReport K
  ends_in_report =
      record {
        final = final;
        fresh_run = λ m fits good draws.
            let order = (orderly m fits good).order in
            let calls = run draws ∷ [] in
            let d = order.demand calls in
            let labels = length-map (made K m calls) (label_of K.rules) in
            fresh_run K (2 * link_count m + 1) m draws (order.run_formula draws) (order.formed calls)
            (λ r. sym labels ∙ d.report-full.0 (d.report-rest.1 r), λ e. d.report-rest.0 (d.report-full.1 (labels ∙ e)));
      }

of_kind : (K : Kind) → OnEveryMap (λ m calls. K.rules.well_formed (left K m calls) ≡ true) → OfKind K
of_kind K formed =
    record {
      draws_pick = draws_pick K.rules;
      rest-is-rest = rest-is-rest K.rules;
      run_is_draws = runs_as_draws K.rules;
      formed = formed;
    }

conserved : OnEveryWay (λ way. Conserved (meeting way))
conserved way w m fits good calls none =
    rendezvous_conserved way w m fits good calls (reports-made (meeting way) (λ s. refl) m calls ∙ none)

carried : OnEveryWay (λ way. Conserved (carrying way))
carried way w m fits good calls none =
    carried_conserved way w m fits good calls (reports-counted (carrying way) (steps (carrying way) m calls) ∙ none)

read : Read
read s byte ok =
    let m = (reading s).map in
    let is : reading s ≡ read_as m = ap (λ (n : List ℕ). record { numbers = n; map = m }) ok in
    (read_fits s m byte is, read-accepted s m is)

pub further : Further
further =
    record {
      stations_that_meet = λ way w. (
        of_kind (meeting way) (λ m fits good. (rendezvous_order way w m fits good).order.formed),
        ends_in_report (meeting way) (rendezvous_order way w) (λ s. refl),
      );
      carrying-back = λ way w. of_kind (carrying way) (λ m fits good. (rendezvous_carried way w m fits good).formed);
      stations_with_mail = λ way w. (
        of_kind (mailing way) (λ m fits good. (mailbox_order way w m fits good).order.formed),
        ends_in_report (mailing way) (mailbox_order way w) (λ s. refl),
      );
      conserved = λ way w. (conserved way w, carried way w);
      read = read;
    }
