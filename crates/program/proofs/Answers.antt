-- What the calls below the program answer: the links of an accepted map are counted, and an opening is an accepted map with draws or a
-- refusal, which is all that is written. Assumes nothing.
use mathlib.Core.Path.{◌≡◌, refl, sym, ap, ◌∙◌}
use mathlib.Core.Bool.{false}
use mathlib.Core.List.{List, [], ◌∷◌}
use Prim.Native.Nat.{ℕ}
use lib.ListN.{get_or}
use Rattle.std.specs.Prelude.{Result, Ok, Err}
use Rattle.finite.proofs.Cases.{clash}
use Rattle.finite.specs.Links.{links}
use Rattle.topology.specs.declared.Fault.{Fault}
use Rattle.topology.specs.Answer.{accepted, is_accepted}
use Rattle.topology.specs.Acceptance.{linked, verdict_of, links_numbers, links_of}
use Rattle.topology.proofs.Answers.{fault_refuses, links_pins}
use Rattle.linemap.specs.declared.Map.{Map}
use Rattle.linemap.specs.Maps.{acceptance, links_in}
use Rattle.linemap.proofs.Accepted.{map_classes}
use Rattle.linemap.proofs.Answers.{read_fault_refuses}
use Rattle.opening.specs.declared.OpenFault.{OpenFault}
use Rattle.opening.specs.declared.OpenFault.TheVariants.{TooLong, Unread, Odd}
use Rattle.opening.specs.declared.Opening.{Opening}
use Rattle.opening.specs.Opening.{open_fault_numbers, input_opening, open_outcome_of}
use Rattle.opening.specs.Refusals.{refusal_line}
use Rattle.opening.proofs.Accepted.{opened-accepted}
use Rattle.program.specs.Output.{lines_of}
use Rattle.program.specs.Internal.Filling.{Opens}

-- the links of an accepted map are counted
module _ (m : Map) (good : acceptance m ≡ accepted) where
  links_are : links_in m ≡ 0 ∷ links m.k (linked m.k m.neighbours) ∷ []
  unfolding links_of
  links_are =
      let count = map_classes m (ap is_accepted good) in
      let whole : verdict_of m.desk m.k m.neighbours ≡ accepted = rw count at good in
      rw (count, whole)

  pub links_told : (r : Result ℕ Fault) → links_numbers r ≡ links_in m → r ≡ Ok (links m.k (linked m.k m.neighbours))
  links_told r e = links_pins r (Ok (links m.k (linked m.k m.neighbours))) (e ∙ links_are)

-- what an opening answers: a map with draws, or a refusal, which is all that is written
module _ (s : List ℕ) (r : Result Opening OpenFault) (e : open_outcome_of r ≡ input_opening s) where
  pub opens-map : {o : Opening} → r ≡ Ok o → Opens s o
  opens-map {o} q =
      let opens : input_opening s ≡ open_outcome_of (Ok o) = sym e ∙ ap open_outcome_of q in
      record { opens = opens; good = opened-accepted s o.draws o.map opens }

  refuses : (fault : OpenFault) → is_accepted (open_fault_numbers fault) ≡ false
  refuses TooLong = refl
  refuses (Unread fault) = read_fault_refuses fault
  refuses Odd = refl

  pub refusal_alone : {fault : OpenFault} → r ≡ Err fault → lines_of s ≡ refusal_line (open_fault_numbers fault) ∷ []
  unfolding lines_of
  refusal_alone {fault} q = rw (sym e ∙ ap open_outcome_of q, refuses fault)
