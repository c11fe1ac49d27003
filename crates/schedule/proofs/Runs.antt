-- Laws of runs: a run is its draws made one after the other as calls of their own, and it stops short of its draws only at a net that is
-- not well-formed or is quiescent. A refused draw leaves the net, so every later one is refused too. Assumes nothing.
use Rattle.std.proofs.Common.{◌≡◌, ℕ, suc, ◌<◌, true, false, ◌⊎◌, List, [], ◌∷◌, ◌++◌, map, length, sym, refl, ap, ◌∙◌, subst, inl, inr, arith}
use mathlib.Core.Logic.{⊎_map}
use Rattle.finite.proofs.Cases.{by_bool, by-sum}
use Rattle.schedule.specs.declared.Step.{Step}
use Rattle.schedule.specs.Rules.{Rules}
use Rattle.schedule.specs.Listing.{quiescent}
use Rattle.schedule.specs.Outcome.{StepOutcome}
use Rattle.schedule.specs.Draws.{onward, draw_on, run_made, run_net, stopped, run_on}
use Rattle.schedule.specs.Calls.{draw, call_made, call_net, calls_made, calls_net}
use Rattle.schedule.proofs.Listing.{quiescent-at-rest}
use Rattle.schedule.proofs.Made.{DrawComes, draw_cases}
use Rattle.schedule.proofs.Outcomes.{draw_unformed}
use Rattle.schedule.proofs.Resting.{rest_draw}

module _ {Net : Type 0} (R : Rules Net) where
  -- where a run stops short
  abbrev pub Stuck : Net → Type 0
  Stuck net = (R.well_formed net ≡ false) ⊎ (quiescent R net ≡ true)

  -- there every draw is refused
  stuck_refuses : (net : Net) (d : ℕ) → Stuck net → ((draw_on R net d).made ≡ []) × ((draw_on R net d).net ≡ net)
  stuck_refuses net d (inl f) = rw (draw_unformed R net d f) (refl, refl)
  stuck_refuses net d (inr q) =
      by_bool (R.well_formed net)
      (λ f. rw (rest_draw R net f ((quiescent-at-rest R net).0 q) d) (refl, refl))
      (λ f. rw (draw_unformed R net d f) (refl, refl))

  stuck_draws : (net : Net) (ds : List ℕ) → Stuck net → (calls_made R net (map draw ds) ≡ []) × (calls_net R net (map draw ds) ≡ net)
  unfolding calls_made calls_net call_made call_net
  stuck_draws net [] st = (refl, refl)
  stuck_draws net (d ∷ ds) st =
      let r = stuck_refuses net d st in
      let further = stuck_draws net ds st in
      (rw (r.0, r.1) further.0, ap (λ (n : Net). calls_net R n (map draw ds)) r.1 ∙ further.1)

  -- after a draw that came to o, the run and the draws go on alike
  abbrev Alike : Net → List ℕ → StepOutcome Net → Type 0
  Alike net ds o =
      (onward o.made [] (λ s. s ∷ run_made R o.net ds) ≡ o.made ++ calls_made R o.net (map draw ds))
      × (onward o.made net (λ s. run_net R o.net ds) ≡ calls_net R o.net (map draw ds))

  -- a run makes what its draws make as calls of their own, and leaves the net that they leave
  pub run_is_draws : (net : Net) (ds : List ℕ) → (run_made R net ds ≡ calls_made R net (map draw ds)) × (run_net R net ds ≡ calls_net R net (map draw ds))
  unfolding run_made run_net calls_made calls_net call_made call_net DrawComes
  run_is_draws net [] = (refl, refl)
  run_is_draws net (d ∷ ds) =
      let further = run_is_draws (draw_on R net d).net ds in
      by-sum (draw_cases R net d)
      (λ w.
      let none = stuck_draws net ds w.2 in
      subst (Alike net ds) (sym w.1) (sym none.0, sym none.1))
      (λ w.
      let same = ap (λ (o : StepOutcome Net). o.net) w.1 in
      subst (Alike net ds) (sym w.1) (
        ap (λ (l : List Step). w.0 ∷ l) (subst (λ (n : Net). run_made R n ds ≡ calls_made R n (map draw ds)) same further.0),
        subst (λ (n : Net). run_net R n ds ≡ calls_net R n (map draw ds)) same further.1,
      ))

  -- "as many as the number it gives" (document 01, Lists of calls)
  pub run_steps : (net : Net) (ds : List ℕ) → (run_on R net ds).steps ≡ length (run_made R net ds)
  unfolding run_on stopped
  run_steps net ds = by_bool (R.well_formed (run_net R net ds)) (λ f. rw f) (λ f. rw f)

  -- each draw makes a step, or the net reached is stuck
  pub run_stops : (net : Net) (ds : List ℕ) → (length (run_made R net ds) ≡ length ds) ⊎ ((length (run_made R net ds) < length ds) × Stuck (run_net R net ds))
  unfolding run_made run_net DrawComes
  run_stops net [] = inl refl
  run_stops net (d ∷ ds) =
      let further = run_stops (draw_on R net d).net ds in
      by-sum (draw_cases R net d)
      (λ w. inr (rw w.1 (omega arith), rw w.1 w.2))
      (λ w. rw w.1 (⊎_map (λ e. ap suc e) (λ u. (omega (arith, u.0), u.1)) (rw w.1 at further)))
