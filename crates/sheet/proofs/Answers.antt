-- The numbers tell the answers apart, so a contract on the numbers pins the answer: a refusal is read back from its numbers. Assumes nothing.
use mathlib.Core.Path.{◌≡◌, refl, sym, ap, ◌∙◌}
use mathlib.Core.Bool.{false, cond}
use mathlib.Core.List.{List, [], ◌∷◌}
use Prim.Native.Nat.{ℕ}
use lib.ListN.{get_or}
use lib.Dec.{eqb}
use Rattle.std.specs.Prelude.{Result, Ok, Err}
use Rattle.finite.proofs.Cases.{clash}
use Rattle.topology.specs.Answer.{is_accepted}
use Rattle.topology.specs.declared.Fault.TheVariants.{Classes, Stations, Desk, Beyond, Itself, OneWay, Apart}
use Rattle.topology.proofs.Answers.{fault_from, fault_refuses}
use Rattle.sheet.specs.declared.SheetFault.{SheetFault}
use Rattle.sheet.specs.declared.SheetFault.TheVariants.{Unfit, Lot, OutOfForm, Differs, Unreported, Buffer}
use Rattle.sheet.specs.Sheet.{sheet_fault_numbers, sheet_numbers}

-- the refusal by its number and values
abbrev fault_of : List ℕ → SheetFault
fault_of [] = Lot
fault_of (n ∷ v) =
    cond (eqb n 18) Lot
    (cond (eqb n 11) OutOfForm
    (cond (eqb n 20) Differs
    (cond (eqb n 21) Unreported
    (cond (eqb n 15) (Buffer (get_or v 0 0)) (Unfit (fault_from (n ∷ v)))))))

again : (f : SheetFault) → fault_of (sheet_fault_numbers f) ≡ f
again Lot = refl
again OutOfForm = refl
again Differs = refl
again Unreported = refl
again (Buffer n) = refl
again (Unfit Classes) = refl
again (Unfit Stations) = refl
again (Unfit Desk) = refl
again (Unfit (Beyond i)) = refl
again (Unfit (Itself i)) = refl
again (Unfit (OneWay i)) = refl
again (Unfit (Apart i)) = refl

-- no refusal is a sheet
refuses : (f : SheetFault) → is_accepted (sheet_fault_numbers f) ≡ false
refuses Lot = refl
refuses OutOfForm = refl
refuses Differs = refl
refuses Unreported = refl
refuses (Buffer n) = refl
refuses (Unfit fault) = fault_refuses fault

pub sheet_pins : (a b : Result ℕ SheetFault) → sheet_numbers a ≡ sheet_numbers b → a ≡ b
sheet_pins (Ok m) (Ok n) e = ap (λ (l : List ℕ). Ok (get_or l 1 0)) e
sheet_pins (Ok m) (Err g) e = clash (ap is_accepted (sym e)) (refuses g)
sheet_pins (Err f) (Ok n) e = clash (ap is_accepted e) (refuses f)
sheet_pins (Err f) (Err g) e = ap Err (sym (again f) ∙ ap fault_of e ∙ again g)
