-- Totals carried back (document 02, request 8): who knows the total, and kind 5, by which it is told.
use Rattle.std.specs.Prelude.{Bool, not, ◌&&◌, cond, ℕ, eqb, set}
use Rattle.aggregate.specs.declared.Aggregate.{Aggregate}
use Rattle.aggregate.specs.Aggregate.{root_of, clipped}
use Rattle.station.specs.declared.Station.{Station}
use Rattle.station.specs.Events.{finished}
use Rattle.schedule.specs.declared.Step.{Step}
use Rattle.rendezvous.specs.Net.{Net, station, kept_at, told}

-- "kind 5 `tell`"
abbrev pub tell : ℕ
tell = 5

-- a tell, by its kind
abbrev pub is_tell : Step → Bool
is_tell s = eqb s.kind tell

-- "After the report (the desk finished)"
abbrev pub is_reported : Net → Bool
is_reported net = eqb (station net (root_of net.config)).state finished

-- "a station that knows the total": "The desk knows it from its report", another once it is told
abbrev pub knows : Net → ℕ → Bool
knows net i = cond (eqb i (root_of net.config)) (is_reported net) (eqb (station net i).state told)

-- what it knows: the desk what it holds, another what it keeps
abbrev pub known : Net → ℕ → Aggregate
known net i = cond (eqb i (root_of net.config)) (station net i).held (kept_at net i)

-- "After the report .., kind 5 `tell` goes from a station that knows the total to a finished station, not the desk, whose parent it is": j to i
unfoldable pub may_tell : Net → ℕ → ℕ → Bool
may_tell net j i =
    is_reported net && knows net j && eqb (station net i).state finished && not (eqb i (root_of net.config)) && eqb (station net i).parent j

-- "the receiver goes to state 3, told"
abbrev pub hears_total : Station → Station
hears_total s = record { held = s.held; unstarted = s.unstarted; parent = s.parent; waits = s.waits; state = told }

-- "and keeps the total its sender knows, sums and missing numbers, beside its own"; "places past c" are zero in what is given (request 2)
unfoldable pub told_by : Net → ℕ → ℕ → Net
told_by net j i =
    record {
      config = net.config;
      stations = set net.stations i (hears_total (station net i));
      carrying = net.carrying;
      kept = set net.kept i (clipped net.config (known net j));
    }
