-- An output has no more lines than there is room for: by demand 3 a run makes at most 2 × m + 1 steps, and 64 stations have at most 2,016
-- links. Assumes nothing.
use mathlib.Core.Path.{◌≡◌, refl, ap}
use mathlib.Core.Bool.{Bool, false}
use mathlib.Core.List.{List, [], ◌∷◌}
use Prim.Native.Nat.{ℕ, zero, suc, ◌≤◌}
use native.Mathlib.Omega.{arith}
use lib.ListN.{length, length-append}
use Rattle.aggregate.specs.Ways.{summing}
use Rattle.finite.specs.Sum.{fold_to}
use Rattle.finite.specs.Internal.Monoid.{addition, sum_to}
use Rattle.finite.proofs.Cases.{by_eq}
use Rattle.finite.proofs.Sums.{sum-le, indicators_le}
use Rattle.finite.specs.Links.{links}
use Rattle.topology.specs.Answer.{is_accepted}
use Rattle.topology.specs.Acceptance.{linked}
use Rattle.linemap.specs.declared.Map.{Map}
use Rattle.linemap.specs.RoundTrip.{Fits}
use Rattle.linemap.proofs.Accepted.{map_web}
use Rattle.schedule.specs.declared.Step.{Step}
use Rattle.schedule.specs.Draws.{run_made}
use Rattle.schedule.proofs.Runs.{run_steps}
use Rattle.rendezvous.specs.Net.{Net}
use Rattle.rendezvous.specs.Rules.{rules}
use Rattle.rendezvous.specs.Opening.{fresh_on}
use Rattle.order.proofs.RendezvousOrder.{rendezvous_order}
use Rattle.opening.specs.declared.Opening.{Opening}
use Rattle.opening.specs.Opening.{draws_in}
use Rattle.program.specs.Output.{step_lines, closing_line, lot_lines, lines_of, most_lines}
use Rattle.program.specs.Internal.Filling.{Opens}

-- a sum over more numbers is no smaller
sum_more : (f : ℕ → ℕ) (n k : ℕ) → k ≤ n → sum_to addition k f ≤ sum_to addition n f
unfolding fold_to
sum_more f zero k h = let e : k ≡ 0 = omega arith in rw e (omega arith)
sum_more f (suc n) k h = by_eq k (suc n) (λ e. rw e (omega arith)) (λ ne. omega (arith, sum_more f n k (omega arith)))

-- at most one link for each pair
links-le : (k : ℕ) (adj : ℕ → ℕ → Bool) → k ≤ 64 → links k adj ≤ 2016
unfolding links fold_to
links-le k adj h =
    omega (arith, sum-le k _ (λ i. i) (λ i l. indicators_le i (adj i)), sum_more (λ i. i) 64 k h)

length-steps : (net : Net) (made : List Step) → length (step_lines net made) ≡ length made
unfolding step_lines
length-steps net [] = refl
length-steps net (s ∷ made) = ap suc (length-steps (rules.apply net s) made)

pub few_lines : {s : List ℕ} {opened : Opening} → Opens s opened → Fits opened.map → length (lines_of s) ≤ most_lines
unfolding lines_of lot_lines
few_lines {s} {opened} o fits =
    let m : Map = opened.map in
    let ds : List ℕ = draws_in s opened.draws in
    let made : List Step = run_made rules (fresh_on false summing m) ds in
    let k_most = (map_web m (ap is_accepted o.good)).few_stations in
    rw o.opens (omega (
      arith,
      length-append (step_lines (fresh_on false summing m) made) (closing_line m (length made) ∷ []),
      length-steps (fresh_on false summing m) made,
      run_steps rules (fresh_on false summing m) ds,
      (rendezvous_order summing refl m fits o.good).order.run_formula ds,
      links-le m.k (linked m.k m.neighbours) k_most,
    ))
