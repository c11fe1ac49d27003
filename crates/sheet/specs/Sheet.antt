-- What laying out a sheet gives (document 02, request 7): "The sheet takes a map and a net of stations that meet, tested in that order, 18
-- included", then "20 then 21, after 11 and before 15".
use Rattle.std.specs.Prelude.{Bool, ◌&&◌, List, [], ◌∷◌, ℕ, ◌+◌, ◌*◌, ◌^◌, eqb, ltb, leb, length, Result, Ok, Err}
use Rattle.finite.specs.Below.{all_below}
use Rattle.finite.specs.Stores.{over}
use Rattle.finite.specs.Tests.{unless}
use Rattle.refusal.specs.Refusal.{number_of}
use Rattle.refusal.specs.declared.Refusal.TheVariants as refusal
use Rattle.aggregate.specs.declared.Config.{Config}
use Rattle.aggregate.specs.Ways.{summing}
use Rattle.aggregate.specs.Aggregate.{root_of, cell}
use Rattle.station.specs.declared.Station.{Station}
use Rattle.station.specs.Events.{finished}
use Rattle.topology.specs.Answer.{is_accepted}
use Rattle.topology.specs.Acceptance.{fault_numbers}
use Rattle.linemap.specs.declared.Map.{Map}
use Rattle.linemap.specs.declared.WriteFault.TheVariants as write
use Rattle.linemap.specs.Maps.{config_of, acceptance}
use Rattle.linemap.specs.Writing.{is_storable, write_fault_numbers}
use Rattle.rendezvous.specs.Net.{Net, station, well_formed}
use Rattle.sheet.specs.declared.SheetFault.{SheetFault}
use Rattle.sheet.specs.declared.SheetFault.TheVariants.{Unfit, Lot, OutOfForm, Differs, Unreported, Buffer}
use Rattle.sheet.specs.Layout.{sheet_of}

-- the number of each refusal, with its values: those of a map to be written and of a net, and 20 and 21. `sheet_pins` (proofs/Answers) says
-- that the numbers tell the answers apart.
abbrev pub sheet_fault_numbers : SheetFault → List ℕ
sheet_fault_numbers (Unfit fault) = fault_numbers fault
sheet_fault_numbers Lot = write_fault_numbers write.Lot
sheet_fault_numbers OutOfForm = number_of refusal.OutOfForm ∷ []
sheet_fault_numbers Differs = 20 ∷ []
sheet_fault_numbers Unreported = 21 ∷ []
sheet_fault_numbers (Buffer need) = write_fault_numbers (write.Buffer need)

-- 0 with the sheet's length where nothing is refused
abbrev pub sheet_numbers : Result ℕ SheetFault → List ℕ
sheet_numbers (Ok need) = 0 ∷ need ∷ []
sheet_numbers (Err fault) = sheet_fault_numbers fault

-- the number with its values, and the buffer after
pub record SheetOutcome : Type 0 where
  pub numbers : List ℕ
  pub buffer : List ℕ

-- what an answer and the buffer beside it come to
abbrev pub sheet_outcome_of : Result ℕ SheetFault → List ℕ → SheetOutcome
sheet_outcome_of answer buffer = record { numbers = sheet_numbers answer; buffer = buffer }

-- the desk of a net
abbrev pub desk_of : Net → Station
desk_of net = station net (root_of net.config)

-- "20 when the net's k, class count or desk differ from the map's", and "20 for a way other than sum" (request 10): they don't
unfoldable pub agrees : Config → Config → Bool
agrees s t = eqb s.k t.k && eqb s.classes t.classes && eqb s.desk t.desk && eqb s.way t.way

-- "a total has more than 12 digits": none of the c totals has
unfoldable pub are_narrow : ℕ → Station → Bool
are_narrow c s = all_below c (λ j. ltb (cell s.held j).sum (10 ^ 12))

-- "21 when the desk is not finished or a total has more than 12 digits": it is, and none has
unfoldable pub is_reported : ℕ → Station → Bool
is_reported c desk = eqb desk.state finished && are_narrow c desk

-- "exactly 40 bytes and a line feed", for the lot, for each class of each station, and for each class
abbrev pub sheet_length : Map → ℕ
sheet_length m = 41 * (1 + m.k * m.classes + m.classes)

-- the sheet of a map and a net, laid out in a buffer: refusals leave it as it was, and "Bytes past the sheet are untouched; a buffer too
-- short gets 15 with the sheet's length". `Sheets` (specs/Adding) says that this is the sheet's length.
unfoldable pub sheet_on : Map → Net → List ℕ → SheetOutcome
sheet_on m net buffer =
    let refused : SheetFault → SheetOutcome = λ fault. sheet_outcome_of (Err fault) buffer in
    unless (is_accepted (acceptance m)) (record { numbers = acceptance m; buffer = buffer })
    (unless (is_storable m.lot) (refused Lot)
    (unless (well_formed net) (refused OutOfForm)
    (unless (agrees (config_of summing m) net.config) (refused Differs)
    (unless (is_reported m.classes (desk_of net)) (refused Unreported)
    (unless (leb (sheet_length m) (length buffer)) (refused (Buffer (sheet_length m)))
    (sheet_outcome_of (Ok (sheet_length m)) (over (sheet_of m (desk_of net).held) buffer)))))))
