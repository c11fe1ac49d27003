-- Demand 3 on maps: for every accepted map, a kind of net that is opened on it is order-free, and the number reported is, class by class, the
-- joining of all counts (document 01, "Lists of calls"; document 02, requests 2 and 10).
use Rattle.std.specs.Prelude.{◌≡◌, List, map, ℕ, ◌<◌}
use Rattle.aggregate.specs.declared.Cell.{Cell}
use Rattle.aggregate.specs.declared.Aggregate.{Aggregate}
use Rattle.aggregate.specs.Aggregate.{cell, gathered}
use Rattle.aggregate.specs.Internal.Joining.{cells}
use Rattle.aggregate.proofs.Joining.{joining}
use Rattle.wave.specs.Internal.Wave.{report}
use Rattle.wave.specs.Internal.Claim.{times}
use Rattle.topology.specs.Answer.{accepted}
use Rattle.topology.specs.Acceptance.{linked}
use Rattle.linemap.specs.declared.Map.{Map}
use Rattle.linemap.specs.Maps.{config_of, acceptance, totals}
use Rattle.linemap.specs.RoundTrip.{Fits}
use Rattle.schedule.specs.Rules.{Rules}
use Rattle.stations.specs.Stations.{reading_at}
use Rattle.schedule.specs.Calls.{Call, calls_made, calls_net}
use Rattle.schedule.specs.Internal.Labels.{label_of}
use Rattle.order.specs.Internal.Order.{OrderFree}

-- what station i of the map gathers by itself, class by class
abbrev pub readings : ℕ → Map → ℕ → ℕ → Cell
readings way m i = cells (config_of way m) (gathered (config_of way m) (reading_at (config_of way m) m.counts i))

-- what holds on one map and of one way, of the fresh net and of what the root of a net holds
pub record OrderOn {Net : Type 0} (R : Rules Net) (way : ℕ) (m : Map) (fresh : Net) (held : Net → Aggregate) : Type 0 where
  pub order : OrderFree R m.k (linked m.k m.neighbours) (joining way) (readings way m) fresh (λ net. cells (config_of way m) (held net))
  pub number : (calls : List Call) → times report (map (label_of R) (calls_made R fresh calls)) ≡ 1
      → (j : ℕ) → j < m.classes → cell (held (calls_net R fresh calls)) j ≡ totals way m j

-- Demand 3 for a kind of net, of one way: on every accepted map
abbrev pub Ordered : {Net : Type 0} → Rules Net → ℕ → (Map → Net) → (Map → Net → Aggregate) → Type 0
Ordered R way fresh held = (m : Map) → Fits m → acceptance m ≡ accepted → OrderOn R way m (fresh m) (held m)
