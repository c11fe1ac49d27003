-- Demand 3 for stations that meet, and their conserved sum. The theorems are `rendezvous_order` and `rendezvous_conserved`
-- (proofs/RendezvousOrder).
use Rattle.std.specs.Prelude.{◌≡◌, Bool, true, false, cond, List, map, ℕ, ◌<◌, eqb}
use Rattle.aggregate.specs.declared.Aggregate.{Aggregate}
use Rattle.aggregate.specs.declared.Cell.{Cell}
use Rattle.aggregate.specs.Ways.{is_way}
use Rattle.aggregate.specs.Internal.Joining.{cells}
use Rattle.aggregate.proofs.Joining.{joining}
use Rattle.wave.specs.Internal.Wave.{report}
use Rattle.wave.specs.Internal.Claim.{times}
use Rattle.station.specs.Events.{finished}
use Rattle.topology.specs.Answer.{accepted}
use Rattle.topology.specs.Acceptance.{linked}
use Rattle.linemap.specs.declared.Map.{Map}
use Rattle.linemap.specs.Maps.{config_of, acceptance, totals}
use Rattle.linemap.specs.RoundTrip.{Fits}
use Rattle.schedule.specs.declared.Step.{Step}
use Rattle.schedule.specs.Calls.{Call, calls_made, calls_net}
use Rattle.schedule.specs.Internal.Labels.{label_of}
use Rattle.stations.specs.Stations.{unfinished}
use Rattle.rendezvous.specs.Net.{Net, station, kept_at, told}
use Rattle.rendezvous.specs.Telling.{tell}
use Rattle.rendezvous.specs.Opening.{fresh_on}
use Rattle.rendezvous.specs.Rules.{rules}
use Rattle.order.specs.Internal.Maps.{readings, Ordered}
use Rattle.order.specs.Internal.Back.{wave_steps, CarriedBack}

-- "the desk's sum" (Lists of calls): what the root of a net on this map holds
abbrev pub root_held : Map → Net → Aggregate
root_held m net = (station net m.desk).held

-- demand 3 for stations that meet, of every way and on every accepted map
abbrev pub RendezvousOrdered : Type 0
RendezvousOrdered = (way : ℕ) → is_way way ≡ true → Ordered rules way (fresh_on false way) root_held

-- "Before the report the sums of stations not finished add up to the map's total" (Stations that meet), joined the way: of every way and on every
-- accepted map, after every list of calls without a report among the steps made, class by class
abbrev pub ConservedOn : (ℕ → Map → Net) → (List Step → List Step) → Type 0
ConservedOn fresh steps =
    (way : ℕ) → is_way way ≡ true → (m : Map) → Fits m → acceptance m ≡ accepted → (calls : List Call)
    → times report (map (label_of rules) (steps (calls_made rules (fresh way m) calls))) ≡ 0
    → (j : ℕ) → j < m.classes → unfinished way m.k (station (calls_net rules (fresh way m) calls)) j ≡ totals way m j

abbrev pub RendezvousConserved : Type 0
RendezvousConserved = ConservedOn (fresh_on false) (λ made. made)

-- and where totals are carried back
abbrev pub CarriedConserved : Type 0
CarriedConserved = ConservedOn (fresh_on true) (wave_steps tell)

-- who knows the total in a net on this map, and what they know, class by class
abbrev pub knows_on : Map → Net → ℕ → Bool
knows_on m net i = cond (eqb i m.desk) (eqb (station net m.desk).state finished) (eqb (station net i).state told)

abbrev pub known_on : ℕ → Map → Net → ℕ → ℕ → Cell
known_on way m net i = cond (eqb i m.desk) (cells (config_of way m) (root_held m net)) (cells (config_of way m) (kept_at net i))

-- carrying back (document 02, request 8), on every accepted map
abbrev pub RendezvousCarried : Type 0
RendezvousCarried =
    (way : ℕ) → is_way way ≡ true → (m : Map) → Fits m → acceptance m ≡ accepted
    → CarriedBack rules tell m.k (linked m.k m.neighbours) (joining way) (readings way m) (fresh_on true way m)
    (λ net. cells (config_of way m) (root_held m net)) (knows_on m) (known_on way m)
