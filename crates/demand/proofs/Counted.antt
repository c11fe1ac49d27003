-- Each step made stands for one of the wave (`label_of`): so the reports and messages counted among the steps made are the wave's, and the last
-- step made is a report where the wave's last is. Assumes nothing.
use mathlib.Core.Path.{◌≡◌, refl, sym, ap, ◌∙◌}
use mathlib.Core.Bool.{Bool, true}
use mathlib.Core.List.{List, [], ◌∷◌, ◌++◌, map}
use Prim.Native.Nat.{ℕ, ◌+◌, ◌-◌, ◌<◌}
use native.Mathlib.Omega.{arith}
use lib.ListN.{length, get_or, length-map, length-append, get_or-map}
use lib.Seq.{get_or-append_seam}
use Rattle.finite.specs.Sum.{indicator}
use Rattle.finite.proofs.Cases.{by_bool}
use Rattle.wave.specs.Internal.Wave as wave
use Rattle.wave.specs.Internal.Claim.{same, times}
use Rattle.schedule.specs.declared.Step.{Step}
use Rattle.schedule.specs.Listing.{select, how_many, step}
use Rattle.schedule.specs.Internal.Labels.{label_of}
use Rattle.demand.specs.Kinds.{Kind, is_report, is_message}

-- where a test on a step is one on its label, as many pass it
times_passing : (label : Step → wave.Step) (t : wave.Step) (test : Step → Bool) → ((s : Step) → same t (label s) ≡ test s)
    → (made : List Step) → times t (map label made) ≡ how_many test made
unfolding select indicator
times_passing label t test is [] = refl
times_passing label t test is (s ∷ made) =
    let further = times_passing label t test is made in
    rw (is s) (by_bool (test s) (λ p. rw p (omega arith)) (λ p. rw p (omega arith)))

module _ (K : Kind) where
  report-label : (s : Step) → same wave.report (label_of K.rules s) ≡ is_report K s
  report-label s = by_bool (is_report K s) (λ r. rw r) (λ r. rw r)

  message_label : (i j : ℕ) (s : Step) → same (wave.message i j) (label_of K.rules s) ≡ is_message K i j s
  message_label i j s = by_bool (is_report K s) (λ r. rw r) (λ r. rw r)

  pub reports-counted : (made : List Step) → times wave.report (map (label_of K.rules) made) ≡ how_many (is_report K) made
  reports-counted = times_passing (label_of K.rules) wave.report (is_report K) report-label

  pub messages-counted : (made : List Step) (i j : ℕ) → times (wave.message i j) (map (label_of K.rules) made) ≡ how_many (is_message K i j) made
  messages-counted made i j = times_passing (label_of K.rules) (wave.message i j) (is_message K i j) (message_label i j) made

  pub last_is_report : (made : List Step) (front : List wave.Step) → map (label_of K.rules) made ≡ front ++ (wave.report ∷ [])
      → (length made - 1 < length made) × (is_report K (get_or made (length made - 1) (step 0 0 0)) ≡ true)
  last_is_report made front e =
      let label = label_of K.rules in
      let last = length made - 1 in
      let long : length made ≡ length front + 1 = omega (arith, length-map made label, ap length e, length-append front (wave.report ∷ [])) in
      let at : last ≡ length front = omega (arith, long) in (
        omega (arith, long),
        sym (report-label (get_or made last (step 0 0 0)))
            ∙ ap (same wave.report)
            (sym (get_or-map label made last (step 0 0 0))
            ∙ ap (λ (l : List wave.Step). get_or l last (label (step 0 0 0))) e
            ∙ ap (λ (n : ℕ). get_or (front ++ (wave.report ∷ [])) n (label (step 0 0 0))) at
            ∙ get_or-append_seam front wave.report [] (label (step 0 0 0))),
      )
