-- Opening a net of either kind on a line map that is handed over: 2 (document 02, request 2), "3, 7 to 10" (document 01, "Causes and
-- numbers"), with 19 after 3 (document 02, request 5), 12 after these (request 10), else the fresh net.
use Rattle.std.specs.Prelude.{ℕ, List, [], ◌∷◌, ⊤, Result, Ok, Err}
use Rattle.finite.specs.Tests.{unless}
use Rattle.aggregate.specs.Ways.{is_way}
use Rattle.refusal.specs.declared.Refusal.TheVariants.{OutOfRange}
use Rattle.refusal.specs.Refusal.{number_of}
use Rattle.topology.specs.Answer.{accepted, is_accepted}
use Rattle.topology.specs.Acceptance.{fault_numbers}
use Rattle.linemap.specs.declared.Map.{Map}
use Rattle.linemap.specs.declared.FreshFault.{FreshFault}
use Rattle.linemap.specs.declared.FreshFault.TheVariants.{Unfit, Way}
use Rattle.linemap.specs.Maps.{acceptance}

-- why no net is opened: the number, with the station where one is returned
abbrev pub fresh_fault_numbers : FreshFault → List ℕ
fresh_fault_numbers (Unfit fault) = fault_numbers fault
fresh_fault_numbers Way = number_of OutOfRange ∷ []

-- 0 where one is
abbrev pub fresh_numbers : Result ⊤ FreshFault → List ℕ
fresh_numbers (Ok done) = accepted
fresh_numbers (Err fault) = fresh_fault_numbers fault

-- "Opening with a way above 3 gets 12, after the map's numbers" (document 02, request 10)
unfoldable pub openable : ℕ → Map → List ℕ
openable way m = unless (is_accepted (acceptance m)) (acceptance m) (unless (is_way way) (fresh_fault_numbers Way) accepted)

-- the number with its values, 0 where a net is opened, and the net
pub record Opening (Net : Type 0) : Type 0 where
  pub numbers : List ℕ
  pub net : Net

-- an accepted map opens its fresh net the way, and a refused one opens none
unfoldable pub opening_by : {Net : Type 0} → (ℕ → Map → Net) → ℕ → Net → Map → Opening Net
opening_by fresh_on way before m = record { numbers = openable way m; net = unless (is_accepted (openable way m)) before (fresh_on way m) }

-- what an answer and the net beside it come to
abbrev pub opening_of : {Net : Type 0} → Result ⊤ FreshFault → Net → Opening Net
opening_of answer net = record { numbers = fresh_numbers answer; net = net }
