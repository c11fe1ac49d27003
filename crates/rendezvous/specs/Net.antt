-- The net of stations that meet: its stations, its form and the fresh net (document 01, "Stations that meet"; document 02, request 8). Its words are
-- lent, so a net is what contracts speak of, and no struct of the code.
use Rattle.std.specs.Prelude.{◌≡◌, Bool, not, ◌&&◌, ◌||◌, cond, List, map, ℕ, ◌/◌, ◌%◌, ◌^◌, ◌<◌, eqb, length, get_or, set, replicate}
use Rattle.finite.specs.Below.{all_below}
use Rattle.aggregate.specs.declared.Config.{Config}
use Rattle.aggregate.specs.declared.Aggregate.{Aggregate}
use Rattle.aggregate.specs.Aggregate.{root_of, bounded, nothing, absent}
use Rattle.station.specs.declared.Station.{Station}
use Rattle.station.specs.Events.{finished}
use Rattle.stations.specs.Stations.{station_at, are_well_formed, fresh_stations}
use Rattle.stations.specs.Words.{config_in, stations_in, spare_in}
use Rattle.stations.specs.Kept.{kept_in}

-- what the net was opened with, its 64 places of stations, whether it "may be opened for carrying back" (document 02, request 8: 0 without, 1
-- with), and what each station "keeps .. beside its own"
pub record Net : Type 0 where
  pub config : Config
  pub stations : List Station
  pub carrying : ℕ
  pub kept : List Aggregate

-- opened for carrying back
abbrev pub carries : Net → Bool
carries net = eqb net.carrying 1

-- the flag is the byte after the configuration, the lowest of what stands beside it; the rest of that says nothing
abbrev pub carrying_in : List ℕ → ℕ
carrying_in words = get_or (spare_in words) 0 0 % 2 ^ 8

-- what stands beside the fields, the flag among these
abbrev pub beside_in : List ℕ → List ℕ
beside_in words = set (spare_in words) 0 (get_or (spare_in words) 0 0 / 2 ^ 8)

-- the net in these words, and in those of what is kept
abbrev pub net_in : List ℕ → List ℕ → Net
net_in words kept = record { config = config_in words; stations = stations_in words; carrying = carrying_in words; kept = kept_in kept }

-- station i of the net
abbrev pub station : Net → ℕ → Station
station net i = station_at net.stations i

-- what station i keeps
abbrev pub kept_at : Net → ℕ → Aggregate
kept_at net i = get_or net.kept i absent

-- the net with other stations
abbrev pub with_stations : Net → List Station → Net
with_stations net l = record { config = net.config; stations = l; carrying = net.carrying; kept = net.kept }

-- the net with station i, or j and i, replaced: nothing else changes, so "places past k are untouched"
abbrev pub with_one : Net → ℕ → Station → Net
with_one net i s = with_stations net (set net.stations i s)

-- two replaced, the sender first
abbrev pub with_two : Net → ℕ → Station → ℕ → Station → Net
with_two net j s i r = with_stations net (set (set net.stations j s) i r)

-- "state 3, told" (document 02, request 8)
abbrev pub told : ℕ
told = 3

-- a told station taken as finished
abbrev pub settled : Station → Station
settled s =
    record { held = s.held; unstarted = s.unstarted; parent = s.parent; waits = s.waits; state = cond (eqb s.state told) finished s.state }

-- "states to 3, never 3 at the desk; a told station has waits zero": station i
unfoldable pub told_well : Config → ℕ → Station → Bool
told_well t i s = not (eqb s.state told) || not (eqb i (root_of t)) && eqb s.waits 0

-- the form of a net that carries back: else as without, "and kept totals obey the bounds on sums and missing numbers"
unfoldable pub carrying_well : Net → Bool
carrying_well net =
    are_well_formed net.config (map settled net.stations)
    && all_below net.config.k (λ i. told_well net.config i (station net i) && bounded net.config (kept_at net i))

-- "Form (11)" (Causes and numbers); another flag than the two is out of form
unfoldable pub well_formed : Net → Bool
well_formed net = cond (carries net) (carrying_well net) (eqb net.carrying 0 && are_well_formed net.config net.stations)

-- "Fresh: .." (Stations that meet): of counts and neighbours, which a map has; "kept totals are zero in a fresh net" (document 02, request 8)
unfoldable pub fresh_net : Bool → Config → List ℕ → List ℕ → Net
fresh_net back t counts neighbours =
    record { config = t; stations = fresh_stations t counts neighbours; carrying = cond back 1 0; kept = replicate 64 nothing }

-- words of 64 bits hold the net and what stands beside it, and nothing else: contracts that give both give every bit. `net_pinned` (proofs/Flags)
-- proves it.
pub record NetPinned : Type 0 where
  pub pinned : (l m kept other : List ℕ) → length l ≡ 705 → length m ≡ 705 → length kept ≡ 576 → length other ≡ 576
      → ((p : ℕ) → (get_or l p 0 < 2 ^ 64) × (get_or m p 0 < 2 ^ 64)) → ((p : ℕ) → (get_or kept p 0 < 2 ^ 64) × (get_or other p 0 < 2 ^ 64))
      → net_in l kept ≡ net_in m other → beside_in l ≡ beside_in m → (l ≡ m) × (kept ≡ other)
