-- What writing gives (document 01, "The line map" and "Causes and numbers": "a map handed over goes 3, 7 to 10, and to be written
-- then 15"; 2 comes first, document 02, request 2, 18 before 15, request 4, and 19 after 3, request 5).
use Rattle.std.specs.Prelude.{ℕ, ◌^◌, Bool, List, [], ◌∷◌, ◌++◌, length, drop, nat_le, nat_lt, Result, Ok, Err}
use Rattle.topology.specs.Answer.{is_accepted}
use Rattle.finite.specs.Tests.{unless}
use Rattle.topology.specs.Acceptance.{fault_numbers}
use Rattle.linemap.specs.Maps.{acceptance}
use Rattle.linemap.specs.Stored.{length_of, stored_of}
use Rattle.linemap.specs.declared.Map.{Map}
use Rattle.linemap.specs.declared.WriteFault.{WriteFault}
use Rattle.linemap.specs.declared.WriteFault.TheVariants.{Unfit, Lot, Buffer}

-- "Causes and numbers": the number of each refusal, with its values. `write_pins` (proofs/Answers) says that the numbers tell the
-- answers apart.
abbrev pub write_fault_numbers : WriteFault → List ℕ
write_fault_numbers (Unfit fault) = fault_numbers fault
write_fault_numbers Lot = 18 ∷ []
write_fault_numbers (Buffer need) = 15 ∷ need ∷ []

-- 0 with the bytes filled where nothing is refused
abbrev pub write_numbers : Result ℕ WriteFault → List ℕ
write_numbers (Ok need) = 0 ∷ need ∷ []
write_numbers (Err fault) = write_fault_numbers fault

-- "18 when a map handed over for writing has a lot of 2^48 or more" (document 02, request 4)
abbrev pub is_storable : ℕ → Bool
is_storable lot = nat_lt lot (2 ^ 48)

-- the answer for a buffer of n bytes; 18 comes "after 10 and before 15" (document 02, request 4)
unfoldable pub writing : Map → ℕ → List ℕ
writing m n =
    unless (is_accepted (acceptance m)) (acceptance m)
    (unless (is_storable m.lot) (write_numbers (Err Lot))
    (unless (nat_le (length_of m) n) (write_numbers (Err (Buffer (length_of m))))
    (write_numbers (Ok (length_of m)))))

-- the buffer after: the stored form, which "starts at the first lent byte", and past it the bytes "untouched"; a refusal leaves the
-- "whole buffer". `length-stored` (proofs/StoredForm) says how long the stored form is.
unfoldable pub written : Map → List ℕ → List ℕ
written m buffer =
    unless (is_accepted (writing m (length buffer))) buffer (stored_of m ++ drop (length_of m) buffer)
