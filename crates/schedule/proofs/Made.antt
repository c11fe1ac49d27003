-- What calls make: each step made is an entry of the list of the net in which it is made, that net is well-formed, and the net left is
-- the one that the steps lead to. A list of calls makes what its calls make, one after the other; a report among it is the root's, since no
-- other is in range. Assumes nothing.
use Rattle.std.proofs.Common.{◌≡◌, ℕ, zero, suc, ◌%◌, ◌<◌, Bool, true, false, cond, ◌⊎◌, List, [], ◌∷◌, ◌++◌, map, length, get_or, refl, ap, ◌∙◌, subst, ap₂, inl, inr, mod-lt, arith}
use mathlib.Core.List.{Memᴰ}
use Rattle.finite.proofs.Cases.{by_bool, by-sum}
use Rattle.wave.specs.Internal.Claim.{Runs, reached}
use Rattle.refusal.specs.declared.Refusal.{Refusal}
use Rattle.refusal.specs.declared.Refusal.TheVariants.{OutOfForm, NothingAllowed}
use Rattle.schedule.specs.declared.Step.{Step}
use Rattle.schedule.specs.Rules.{Rules, in_range, allowed}
use Rattle.schedule.specs.Listing.{listed, is_empty, quiescent, step}
use Rattle.schedule.specs.Outcome.{StepOutcome, step_made, step_refused}
use Rattle.schedule.specs.Draws.{step_on, picked, draw_from, draw_on, run_made, run_net, stopped, run_on}
use Rattle.schedule.specs.Calls.{Call, single, draw, run, call_made, call_net, calls_made, calls_net}
use Rattle.schedule.proofs.Listing.{range_bounds, listed_complete, listed-allowed}
use Rattle.schedule.proofs.Answers.{allowed_parts}
use Rattle.schedule.proofs.Outcomes.{step-allowed}

get_d_member : {A : Type 0} (l : List A) (n : ℕ) (d : A) → n < length l → Memᴰ (get_or l n d) l
get_d_member [] n d h = absurd (let z : ⊥ = omega arith in z)
get_d_member (x ∷ l) zero d h = Memᴰ.head refl
get_d_member (x ∷ l) (suc n) d h = Memᴰ.tail (get_d_member l n d (omega arith))

step_is : (s : Step) (kind from to : ℕ) → s.kind ≡ kind → s.sender ≡ from → s.receiver ≡ to → s ≡ step kind from to
step_is s kind from to e f g = ap₂ (λ (x y : ℕ). step x y s.receiver) e f ∙ ap (step kind from) g

module _ {Net : Type 0} (R : Rules Net) where
  -- a step that a well-formed net lists
  abbrev pub Listed : Net → Step → Type 0
  Listed net s = (R.well_formed net ≡ true) × Memᴰ s (listed R net)

  pub record Makes (net : Net) (made : List Step) (end : Net) : Type 0 where
    pub runs : Runs Listed R.apply net made
    pub ends : end ≡ reached R.apply net made

  -- where no step moves the root, each report made is at the root and the root
  module _ (kept : (net : Net) (s : Step) → R.root (R.apply net s) ≡ R.root net) where
    pub reports-at-root : (net : Net) (made : List Step) (d : Step) → Runs Listed R.apply net made → (i : ℕ) → i < length made
        → (get_or made i d).kind ≡ R.reports → get_or made i d ≡ step R.reports (R.root net) (R.root net)
    reports-at-root net [] d r i l e = absurd (let z : ⊥ = omega arith in z)
    reports-at-root net (s ∷ made) d r zero l e =
        let at = (range_bounds R net s (allowed_parts R net s (listed-allowed R net s r.0.1)).0).report-at-root e in
        step_is s R.reports (R.root net) (R.root net) e at.0 at.1
    reports-at-root net (s ∷ made) d r (suc i) l e =
        subst (λ (x : ℕ). get_or made i d ≡ step R.reports x x) (kept net s)
        (reports-at-root (R.apply net s) made d r.1 i (omega arith) e)

  nothing-made : (net : Net) → Makes net [] net
  nothing-made net = record { runs = tt; ends = refl }

  one-made : (net : Net) (s : Step) → Listed net s → Makes net (s ∷ []) (R.apply net s)
  one-made net s l = record { runs = (l, tt); ends = refl }

  makes_append : (a b : Net) (l m : List Step) (c : Net) → Makes a l b → Makes b m c → Makes a (l ++ m) c
  makes_append a b [] m c p q = rw p.ends at q
  makes_append a b (s ∷ l) m c p q =
      let rest = makes_append (R.apply a s) b l m c (record { runs = p.runs.1; ends = p.ends }) q in
      record { runs = (p.runs.0, rest.runs); ends = rest.ends }

  pub step_makes : (net : Net) (s : Step) → Makes net (step_on R net s).made (step_on R net s).net
  unfolding step_on allowed
  step_makes net s =
      by_bool (R.well_formed net)
      (λ f. by_bool (in_range R net s)
      (λ r. by_bool (R.guard net s)
      (λ g. rw (f, r, g) (one-made net s (f, listed_complete R net s (rw (r, g)))))
      (λ g. rw (f, r, g) (nothing-made net)))
      (λ r. rw (f, r) (nothing-made net)))
      (λ f. rw f (nothing-made net))

  -- a draw is refused in a net that is not well-formed or is quiescent, and else makes an entry of the list
  unfoldable pub DrawComes : Net → StepOutcome Net → Type 0
  DrawComes net o =
      ((r : Refusal) × (o ≡ step_refused r net) × ((R.well_formed net ≡ false) ⊎ (quiescent R net ≡ true)))
      ⊎ ((s : Step) × (o ≡ step_made s (R.apply net s)) × Listed net s)

  list_cases : (net : Net) (d : ℕ) (l : List Step) → R.well_formed net ≡ true → listed R net ≡ l → DrawComes net (draw_from R net (picked l d))
  unfolding picked quiescent is_empty DrawComes
  list_cases net d [] f e = inl (NothingAllowed, refl, inr (rw e))
  list_cases net d (s ∷ l) f e =
      let n = d % length (s ∷ l) in
      inr (get_or (s ∷ l) n s, refl, (f, rw e (get_d_member (s ∷ l) n s (mod-lt d (omega arith)))))

  pub draw_cases : (net : Net) (d : ℕ) → DrawComes net (draw_on R net d)
  unfolding draw_on DrawComes
  draw_cases net d = go (R.well_formed net) refl
    where
      go : (b : Bool) → R.well_formed net ≡ b → DrawComes net (cond b (draw_from R net (picked (listed R net) d)) (step_refused OutOfForm net))
      go true f = list_cases net d (listed R net) f refl
      go false f = inl (OutOfForm, refl, inl f)

  pub draw_makes : (net : Net) (d : ℕ) → Makes net (draw_on R net d).made (draw_on R net d).net
  unfolding DrawComes
  draw_makes net d =
      by-sum (draw_cases net d) (λ w. rw w.1 (nothing-made net)) (λ w. rw w.1 (one-made net w.0 w.2))

  drawn_listed : (net : Net) (d : ℕ) (s : Step) → (draw_on R net d).made ≡ s ∷ [] → Makes net (s ∷ []) (draw_on R net d).net
  drawn_listed net d s e = rw e at (draw_makes net d)

  -- a net in which a draw made a step was well-formed
  pub drawn_formed : (net : Net) (d : ℕ) (s : Step) → (draw_on R net d).made ≡ s ∷ [] → R.well_formed net ≡ true
  drawn_formed net d s e = (drawn_listed net d s e).runs.0.0

  -- a step that a draw made is allowed, and leads to the net left
  pub drawn_step : (net : Net) (d : ℕ) (s : Step) → (draw_on R net d).made ≡ s ∷ []
      → (allowed R net s ≡ true) × ((draw_on R net d).net ≡ R.apply net s)
  drawn_step net d s e = let m = drawn_listed net d s e in (listed-allowed R net s m.runs.0.1, m.ends)

  pub run_reaches : (net : Net) (ds : List ℕ) → Makes net (run_made R net ds) (run_net R net ds)
  unfolding run_made run_net DrawComes
  run_reaches net [] = nothing-made net
  run_reaches net (d ∷ ds) =
      let further = run_reaches (draw_on R net d).net ds in
      by-sum (draw_cases net d)
      (λ w. rw w.1 (nothing-made net))
      (λ w.
      let after : Makes (R.apply net w.0) (run_made R (R.apply net w.0) ds) (run_net R (R.apply net w.0) ds) = rw w.1 at further in
      rw w.1 (makes_append net _ (w.0 ∷ []) _ _ (one-made net w.0 w.2) after))

  pub stopped_net : (net : Net) (n : ℕ) → (stopped R net n).net ≡ net
  unfolding stopped
  stopped_net net n = by_bool (R.well_formed net) (λ f. rw f) (λ f. rw f)

  pub run_makes : (net : Net) (ds : List ℕ) → Makes net (run_made R net ds) (run_on R net ds).net
  unfolding run_on
  run_makes net ds = rw (stopped_net (run_net R net ds) (length (run_made R net ds))) (run_reaches net ds)

  pub call_makes : (net : Net) (c : Call) → Makes net (call_made R net c) (call_net R net c)
  unfolding call_made call_net
  call_makes net (single s) = step_makes net s
  call_makes net (draw d) = draw_makes net d
  call_makes net (run ds) = run_makes net ds

  pub calls_make : (net : Net) (cs : List Call) → Makes net (calls_made R net cs) (calls_net R net cs)
  unfolding calls_made calls_net
  calls_make net [] = nothing-made net
  calls_make net (c ∷ cs) =
      makes_append net (call_net R net c) (call_made R net c) (calls_made R (call_net R net c) cs) _ (call_makes net c) (calls_make (call_net R net c) cs)

  -- one list of calls after another leaves what the second leaves of the first's net
  pub calls_append : (net : Net) (a b : List Call) → calls_net R net (a ++ b) ≡ calls_net R (calls_net R net a) b
  unfolding calls_net
  calls_append net [] b = refl
  calls_append net (c ∷ a) b = calls_append (call_net R net c) a b

  -- listed steps, as single ones, are made and lead where they lead
  pub singles_make : (net : Net) (steps : List Step) → Runs Listed R.apply net steps
      → (calls_made R net (map single steps) ≡ steps) × (calls_net R net (map single steps) ≡ reached R.apply net steps)
  unfolding calls_made calls_net call_made call_net
  singles_make net [] r = (refl, refl)
  singles_make net (s ∷ steps) r =
      let one = step-allowed R net s r.0.0 (listed-allowed R net s r.0.1) in
      let rest = singles_make (R.apply net s) steps r.1 in (
        ap (λ (o : StepOutcome Net). o.made ++ calls_made R o.net (map single steps)) one ∙ ap (λ (l : List Step). s ∷ l) rest.0,
        ap (λ (o : StepOutcome Net). calls_net R o.net (map single steps)) one ∙ rest.1,
      )
