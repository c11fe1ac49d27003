-- A rule over all stations, by what it answers: it refuses at its lowest offender, or leaves the rules after it. Assumes nothing.
use mathlib.Core.Path.{◌≡◌, refl, sym, ap, ◌∙◌}
use mathlib.Core.Bool.{Bool}
use mathlib.Core.List.{List}
use Prim.Native.Nat.{ℕ, ◌≤◌}
use lib.Dec.{leb}
use borrow.Author.Tests.{leb-true}
use Rattle.std.specs.Prelude.{⊤, Result, Ok, Err}
use Rattle.finite.proofs.Cases.{clash, by_bool}
use Rattle.topology.specs.Answer.{accepted, is_accepted}
use Rattle.topology.specs.Acceptance.{fault_numbers, verdict_numbers, lowest, over_all}
use Rattle.topology.specs.Internal.Parts.{judged_all}
use Rattle.topology.specs.declared.Fault.{Fault}
use Rattle.topology.proofs.Answers.{fault_refuses}

module _ (k : ℕ) (rule : ℕ → Bool) (cause : ℕ → Fault) (r : Result ⊤ Fault) (told : r ≡ judged_all k rule cause) where
  pub last : verdict_numbers r ≡ over_all k rule cause accepted
  last =
      ap verdict_numbers told
      ∙ by_bool (leb k (lowest k rule)) (λ t. rw t refl) (λ f. rw f refl)

  pub refused : (rest : List ℕ) (fault : Fault) → r ≡ Err fault → over_all k rule cause rest ≡ fault_numbers fault
  refused rest fault e =
      let numbers : fault_numbers fault ≡ over_all k rule cause accepted = ap verdict_numbers (sym e) ∙ last in
      by_bool (leb k (lowest k rule))
      (λ t. clash (ap is_accepted (rw t at numbers)) (fault_refuses fault))
      (λ f. rw f (sym (rw f at numbers)))

  pub passed : (rest : List ℕ) (done : ⊤) → r ≡ Ok done → (k ≤ lowest k rule) × (over_all k rule cause rest ≡ rest)
  passed rest done e =
      let numbers : accepted ≡ over_all k rule cause accepted = ap verdict_numbers (sym e) ∙ last in
      by_bool (leb k (lowest k rule))
      (λ t. (leb-true k (lowest k rule) t, rw t refl))
      (λ f. clash (ap is_accepted (sym (rw f at numbers))) (fault_refuses (cause (lowest k rule))))
