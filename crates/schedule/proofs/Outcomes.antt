-- What the code of a kind of net cites: each outcome of a single step and of a draw from the tests that lead to it, and the loop of a run,
-- whose counter is both the place among the draws and the number of steps made. Assumes nothing.
use Rattle.std.proofs.Common.{◌≡◌, ℕ, suc, ◌+◌, ◌<◌, ◌≤◌, true, false, eqb, List, [], ◌∷◌, length, get_or, drop, sym, refl, ap, zero-add, add-one, arith, drop_of_length-le, drop-cons, ne_eqb, Some, None}
use Rattle.refusal.specs.Refusal.{number_of}
use Rattle.refusal.specs.declared.Refusal.TheVariants.{OutOfForm, OutOfRange, NotAllowed, NothingAllowed}
use Rattle.schedule.specs.declared.Step.{Step}
use Rattle.schedule.specs.Rules.{Rules, in_range, allowed}
use Rattle.schedule.specs.Listing.{is_empty, listed, quiescent}
use Rattle.schedule.specs.Outcome.{step_made, step_refused, RunOutcome}
use Rattle.schedule.specs.Draws.{step_on, picked, draw_on, run_made, run_net, stopped, run_on}
use Rattle.schedule.proofs.Answers.{allowed_parts}

module _ {Net : Type 0} (R : Rules Net) where
  -- the outcomes of a single step
  module _ (net : Net) (s : Step) where
    pub step_unformed : R.well_formed net ≡ false → step_on R net s ≡ step_refused OutOfForm net
    unfolding step_on
    step_unformed f = rw f

    module _ (f : R.well_formed net ≡ true) where
      pub step_outside : in_range R net s ≡ false → step_on R net s ≡ step_refused OutOfRange net
      unfolding step_on
      step_outside r = rw (f, r)

      pub step_barred : in_range R net s ≡ true → R.guard net s ≡ false → step_on R net s ≡ step_refused NotAllowed net
      unfolding step_on
      step_barred r g = rw (f, r, g)

      pub step-taken : in_range R net s ≡ true → R.guard net s ≡ true → step_on R net s ≡ step_made s (R.apply net s)
      unfolding step_on
      step-taken r g = rw (f, r, g)

      pub step-allowed : allowed R net s ≡ true → step_on R net s ≡ step_made s (R.apply net s)
      step-allowed a = let both = allowed_parts R net s a in step-taken both.0 both.1

  -- the outcomes of a draw
  module _ (net : Net) (d : ℕ) where
    pub draw_unformed : R.well_formed net ≡ false → draw_on R net d ≡ step_refused OutOfForm net
    unfolding draw_on
    draw_unformed f = rw f

    module _ (f : R.well_formed net ≡ true) where
      pub draw_nothing : picked (listed R net) d ≡ None → draw_on R net d ≡ step_refused NothingAllowed net
      unfolding draw_on
      draw_nothing e = rw (f, e)

      pub draw_picked : (s : Step) → picked (listed R net) d ≡ Some s → draw_on R net d ≡ step_made s (R.apply net s)
      unfolding draw_on
      draw_picked s e = rw (f, e)

  -- a run from a net after n steps, by the draws that are left
  unfoldable pub run_from : Net → ℕ → List ℕ → RunOutcome Net
  run_from net n ds = stopped R (run_net R net ds) (n + length (run_made R net ds))

  pub run_from-start : (net : Net) (ds : List ℕ) → run_on R net ds ≡ run_from net 0 ds
  unfolding run_on run_from
  run_from-start net ds = ap (stopped R (run_net R net ds)) (sym (zero-add (length (run_made R net ds))))

  module _ (net : Net) (n i : ℕ) (ds : List ℕ) where
    pub run_used_up : length ds ≤ i → run_from net n (drop i ds) ≡ stopped R net n
    unfolding run_from run_net run_made
    run_used_up h = rw (drop_of_length-le ds h) (ap (stopped R net) (omega arith))

    pub run_refused : i < length ds → (draw_on R net (get_or ds i 0)).made ≡ [] → run_from net n (drop i ds) ≡ stopped R net n
    unfolding run_from run_net run_made
    run_refused h z = rw (drop-cons ds i 0 h, z) (ap (stopped R net) (omega arith))

    pub run_on_lem : (s : Step) → i < length ds → (draw_on R net (get_or ds i 0)).made ≡ s ∷ []
        → run_from net n (drop i ds) ≡ run_from (draw_on R net (get_or ds i 0)).net (n + 1) (drop (i + 1) ds)
    unfolding run_from run_net run_made
    run_on_lem s h z = rw (drop-cons ds i 0 h, z, add-one i) (ap (stopped R _) (omega arith))

    -- where the form is left nothing more is drawn
    pub run_unformed : R.well_formed net ≡ false → run_from net n (drop i ds) ≡ stopped R net n
    unfolding run_from run_net run_made
    run_unformed f = go (drop i ds)
      where
        go : (l : List ℕ) → stopped R (run_net R net l) (n + length (run_made R net l)) ≡ stopped R net n
        go [] = ap (stopped R net) (omega arith)
        go (d ∷ l) = rw (draw_unformed net d f) (ap (stopped R net) (omega arith))

  -- the two ways to stop
  empty_length : (l : List Step) → is_empty l ≡ eqb (length l) 0
  unfolding is_empty
  empty_length [] = refl
  empty_length (s ∷ l) = sym (ne_eqb (suc (length l)) 0 (λ h. omega arith))

  module _ (net : Net) (n : ℕ) where
    pub stopped_formed : R.well_formed net ≡ true → stopped R net n ≡ record { number = 0; steps = n; rest = eqb (length (listed R net)) 0; net = net }
    unfolding stopped quiescent
    stopped_formed f = rw (f, empty_length (listed R net))

    pub stopped_unformed : R.well_formed net ≡ false → stopped R net n ≡ record { number = number_of OutOfForm; steps = n; rest = false; net = net }
    unfolding stopped
    stopped_unformed f = rw f
