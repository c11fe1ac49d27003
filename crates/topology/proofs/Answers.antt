-- The numbers tell the answers apart, so a contract on the numbers pins the answer: a refusal is read back from its numbers.
-- Assumes nothing.
use mathlib.Core.Path.{◌≡◌, refl, sym, ap, ◌∙◌}
use mathlib.Core.Bool.{false, cond}
use mathlib.Core.List.{List, [], ◌∷◌}
use Prim.Native.Nat.{ℕ}
use Rattle.std.specs.Prelude.{⊤, slice_index, slice_get, Result, Ok, Err}
use Rattle.std.proofs.Common.{option_to_list}
use lib.ListN.{get_or}
use lib.Dec.{eqb}
use Rattle.finite.proofs.Cases.{clash}
use Rattle.topology.specs.Answer.{is_accepted}
use Rattle.topology.specs.Acceptance.{fault_numbers, verdict_numbers, links_numbers}
use Rattle.topology.specs.declared.Fault.{Fault}
use Rattle.topology.specs.declared.Fault.TheVariants.{Classes, Stations, Desk, Beyond, Itself, OneWay, Apart}

-- the refusal of a number and its station
abbrev pub fault_from : List ℕ → Fault
fault_from [] = Stations
fault_from (n ∷ v) =
    cond (eqb n 2) Classes
    (cond (eqb n 7) (Beyond (get_or v 0 0))
    (cond (eqb n 8) (Itself (get_or v 0 0))
    (cond (eqb n 9) (OneWay (get_or v 0 0))
    (cond (eqb n 10) (Apart (get_or v 0 0))
    (cond (eqb n 19) Desk Stations)))))

fault_again : (f : Fault) → fault_from (fault_numbers f) ≡ f
fault_again Classes = refl
fault_again Stations = refl
fault_again Desk = refl
fault_again (Beyond i) = refl
fault_again (Itself i) = refl
fault_again (OneWay i) = refl
fault_again (Apart i) = refl

fault_pins : (f g : Fault) → fault_numbers f ≡ fault_numbers g → f ≡ g
fault_pins f g e = sym (fault_again f) ∙ ap fault_from e ∙ fault_again g

-- a refusal's number, and its station where it has one
pub fault_parts : (f : Fault) → fault_numbers f ≡ slice_index (fault_numbers f) 0 ∷ option_to_list (slice_get (fault_numbers f) 1)
fault_parts Classes = refl
fault_parts Stations = refl
fault_parts Desk = refl
fault_parts (Beyond i) = refl
fault_parts (Itself i) = refl
fault_parts (OneWay i) = refl
fault_parts (Apart i) = refl

-- no refusal is an acceptance
pub fault_refuses : (f : Fault) → is_accepted (fault_numbers f) ≡ false
fault_refuses Classes = refl
fault_refuses Stations = refl
fault_refuses Desk = refl
fault_refuses (Beyond i) = refl
fault_refuses (Itself i) = refl
fault_refuses (OneWay i) = refl
fault_refuses (Apart i) = refl

pub verdict_pins : (a b : Result ⊤ Fault) → verdict_numbers a ≡ verdict_numbers b → a ≡ b
verdict_pins (Ok a) (Ok b) e = refl
verdict_pins (Ok done) (Err g) e = clash (ap is_accepted (sym e)) (fault_refuses g)
verdict_pins (Err f) (Ok done) e = clash (ap is_accepted e) (fault_refuses f)
verdict_pins (Err f) (Err g) e = ap Err (fault_pins f g e)

pub links_pins : (a b : Result ℕ Fault) → links_numbers a ≡ links_numbers b → a ≡ b
links_pins (Ok m) (Ok n) e = ap (λ (l : List ℕ). Ok (get_or l 1 0)) e
links_pins (Ok m) (Err g) e = clash (ap is_accepted (sym e)) (fault_refuses g)
links_pins (Err f) (Ok n) e = clash (ap is_accepted e) (fault_refuses f)
links_pins (Err f) (Err g) e = ap Err (fault_pins f g e)
