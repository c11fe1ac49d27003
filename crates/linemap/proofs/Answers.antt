-- The numbers tell the answers apart, so a contract on the numbers pins the answer: a refusal is read back from its numbers.
-- Assumes nothing.
use Rattle.std.proofs.Common.{◌≡◌, ℕ, false, cond, eqb, List, [], ◌∷◌, get_or, slice_index, slice_get, option_to_list, Result, Ok, Err, sym, refl, ap, ◌∙◌}
use Rattle.std.specs.Prelude.{⊤}
use Rattle.finite.proofs.Cases.{clash}
use Rattle.topology.specs.Answer.{is_accepted}
use Rattle.topology.specs.declared.Fault.TheVariants.{Classes, Stations, Desk, Beyond, Itself, OneWay, Apart}
use Rattle.topology.proofs.Answers.{fault_from, fault_parts, fault_refuses}
use Rattle.linemap.specs.Reading.{read_fault_numbers, ReadOutcome, read_outcome_of}
use Rattle.linemap.specs.Writing.{write_fault_numbers, write_numbers}
use Rattle.linemap.specs.Openings.{fresh_fault_numbers, fresh_numbers}
use Rattle.linemap.specs.declared.Map.{Map}
use Rattle.linemap.specs.declared.ReadFault.{ReadFault}
use Rattle.linemap.specs.declared.WriteFault.{WriteFault}
use Rattle.linemap.specs.declared.FreshFault.{FreshFault}
use Rattle.linemap.specs.declared.ReadFault.TheVariants as read
use Rattle.linemap.specs.declared.WriteFault.TheVariants as write
use Rattle.linemap.specs.declared.FreshFault.TheVariants as opening

-- the refusal of a reading, and of a writing, by its number and values
abbrev read_fault_from : List ℕ → ReadFault
read_fault_from [] = read.Short
read_fault_from (n ∷ v) =
    cond (eqb n 1) read.Short
    (cond (eqb n 4) read.Distance
    (cond (eqb n 5) read.Rows
    (cond (eqb n 6) read.CheckWord (read.Unfit (fault_from (n ∷ v))))))

abbrev write_fault_from : List ℕ → WriteFault
write_fault_from [] = write.Buffer 0
write_fault_from (n ∷ v) =
    cond (eqb n 15) (write.Buffer (get_or v 0 0))
    (cond (eqb n 18) write.Lot (write.Unfit (fault_from (n ∷ v))))

abbrev fresh_fault_from : List ℕ → FreshFault
fresh_fault_from [] = opening.Way
fresh_fault_from (n ∷ v) = cond (eqb n 12) opening.Way (opening.Unfit (fault_from (n ∷ v)))

read_again : (f : ReadFault) → read_fault_from (read_fault_numbers f) ≡ f
read_again read.Short = refl
read_again read.Distance = refl
read_again read.Rows = refl
read_again read.CheckWord = refl
read_again (read.Unfit Classes) = refl
read_again (read.Unfit Stations) = refl
read_again (read.Unfit Desk) = refl
read_again (read.Unfit (Beyond i)) = refl
read_again (read.Unfit (Itself i)) = refl
read_again (read.Unfit (OneWay i)) = refl
read_again (read.Unfit (Apart i)) = refl

write_again : (f : WriteFault) → write_fault_from (write_fault_numbers f) ≡ f
write_again (write.Buffer n) = refl
write_again write.Lot = refl
write_again (write.Unfit Classes) = refl
write_again (write.Unfit Stations) = refl
write_again (write.Unfit Desk) = refl
write_again (write.Unfit (Beyond i)) = refl
write_again (write.Unfit (Itself i)) = refl
write_again (write.Unfit (OneWay i)) = refl
write_again (write.Unfit (Apart i)) = refl

fresh_again : (f : FreshFault) → fresh_fault_from (fresh_fault_numbers f) ≡ f
fresh_again opening.Way = refl
fresh_again (opening.Unfit Classes) = refl
fresh_again (opening.Unfit Stations) = refl
fresh_again (opening.Unfit Desk) = refl
fresh_again (opening.Unfit (Beyond i)) = refl
fresh_again (opening.Unfit (Itself i)) = refl
fresh_again (opening.Unfit (OneWay i)) = refl
fresh_again (opening.Unfit (Apart i)) = refl

-- the number of a reading's refusal, and its station where it has one
pub read_fault_parts : (f : ReadFault) → read_fault_numbers f ≡ slice_index (read_fault_numbers f) 0 ∷ option_to_list (slice_get (read_fault_numbers f) 1)
read_fault_parts read.Short = refl
read_fault_parts read.Distance = refl
read_fault_parts read.Rows = refl
read_fault_parts read.CheckWord = refl
read_fault_parts (read.Unfit fault) = fault_parts fault

-- no refusal is an acceptance
pub read_fault_refuses : (f : ReadFault) → is_accepted (read_fault_numbers f) ≡ false
read_fault_refuses read.Short = refl
read_fault_refuses read.Distance = refl
read_fault_refuses read.Rows = refl
read_fault_refuses read.CheckWord = refl
read_fault_refuses (read.Unfit fault) = fault_refuses fault

write_fault_refuses : (f : WriteFault) → is_accepted (write_fault_numbers f) ≡ false
write_fault_refuses (write.Buffer n) = refl
write_fault_refuses write.Lot = refl
write_fault_refuses (write.Unfit fault) = fault_refuses fault

pub fresh_fault_refuses : (f : FreshFault) → is_accepted (fresh_fault_numbers f) ≡ false
fresh_fault_refuses opening.Way = refl
fresh_fault_refuses (opening.Unfit fault) = fault_refuses fault

-- the numbers that an outcome gives
abbrev numbers_of : ReadOutcome → List ℕ
numbers_of o = o.numbers

pub read_pins : (a b : Result Map ReadFault) → read_outcome_of a ≡ read_outcome_of b → a ≡ b
read_pins (Ok m) (Ok n) e = ap (λ (o : ReadOutcome). Ok o.map) e
read_pins (Ok m) (Err g) e = clash (ap is_accepted (sym (ap numbers_of e))) (read_fault_refuses g)
read_pins (Err f) (Ok n) e = clash (ap is_accepted (ap numbers_of e)) (read_fault_refuses f)
read_pins (Err f) (Err g) e = ap Err (sym (read_again f) ∙ ap read_fault_from (ap numbers_of e) ∙ read_again g)

pub write_pins : (a b : Result ℕ WriteFault) → write_numbers a ≡ write_numbers b → a ≡ b
write_pins (Ok m) (Ok n) e = ap (λ (l : List ℕ). Ok (get_or l 1 0)) e
write_pins (Ok m) (Err g) e = clash (ap is_accepted (sym e)) (write_fault_refuses g)
write_pins (Err f) (Ok n) e = clash (ap is_accepted e) (write_fault_refuses f)
write_pins (Err f) (Err g) e = ap Err (sym (write_again f) ∙ ap write_fault_from e ∙ write_again g)

pub fresh_pins : (a b : Result ⊤ FreshFault) → fresh_numbers a ≡ fresh_numbers b → a ≡ b
fresh_pins (Ok a) (Ok b) e = refl
fresh_pins (Ok a) (Err g) e = clash (ap is_accepted (sym e)) (fresh_fault_refuses g)
fresh_pins (Err f) (Ok b) e = clash (ap is_accepted e) (fresh_fault_refuses f)
fresh_pins (Err f) (Err g) e = ap Err (sym (fresh_again f) ∙ ap fresh_fault_from e ∙ fresh_again g)
