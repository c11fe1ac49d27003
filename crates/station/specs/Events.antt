-- The process equation of document 001, Definition 3.1, line by line: the guard of each line and its effect on a station. Document
-- 01, "One station", says the same in words; "the desk takes the place of station 0" (document 02, request 5). The nets make their steps of
-- these.
use Rattle.std.specs.Prelude.{ℕ, ◌-◌, Bool, not, cond, ◌&&◌, eqb}
use Rattle.aggregate.specs.declared.Config.{Config}
use Rattle.aggregate.specs.declared.Aggregate.{Aggregate}
use Rattle.aggregate.specs.Aggregate.{root_of, joined}
use Rattle.bitset.specs.Set.{member, size, without}
use Rattle.station.specs.declared.Station.{Station}

-- "a state: 0 asleep, 1 active, 2 finished"
abbrev pub asleep : ℕ
asleep = 0

-- woken, and not finished yet
abbrev pub active : ℕ
active = 1

-- it has answered or reported
abbrev pub finished : ℕ
finished = 2

-- line 1, s = 0, a start from j: "the parent becomes j, waits become the size of the set before j is removed, less one; j leaves
-- the set; active"
abbrev pub woken : ℕ → Station → Station
woken j s = record { held = s.held; unstarted = without j s.unstarted; parent = j; waits = size s.unstarted - 1; state = active }

-- line 2, a start to j: "active, j in the set"
unfoldable pub may_send_start : ℕ → Station → Bool
may_send_start j s = eqb s.state active && member j s.unstarted

-- line 2: "j leaves it"
abbrev pub start_sent : ℕ → Station → Station
start_sent j s = record { held = s.held; unstarted = without j s.unstarted; parent = s.parent; waits = s.waits; state = s.state }

-- line 3, s = 1, an answer v: "v is added, waits less one"
abbrev pub answer_taken : Config → Aggregate → Station → Station
answer_taken t v s = record { held = joined t s.held v; unstarted = s.unstarted; parent = s.parent; waits = s.waits - 1; state = s.state }

-- line 4, s = 1, a start: "waits less one"
abbrev pub start_taken : Station → Station
start_taken s = record { held = s.held; unstarted = s.unstarted; parent = s.parent; waits = s.waits - 1; state = s.state }

-- lines 1 and 4: a start from j wakes a sleeping station and leaves an active one a wait less
unfoldable pub started_by : ℕ → Station → Station
started_by j s = cond (eqb s.state asleep) (woken j s) (start_taken s)

-- lines 5 and 6: "active, set empty, waits zero"
unfoldable pub ready : Station → Bool
ready s = eqb s.state active && eqb s.unstarted 0 && eqb s.waits 0

-- line 5, station i: "report (station 0)"
unfoldable pub may_report : Config → ℕ → Station → Bool
may_report t i s = eqb i (root_of t) && ready s

-- line 6, station i: "Send an answer (not station 0)"
unfoldable pub may_answer : Config → ℕ → Station → Bool
may_answer t i s = not (eqb i (root_of t)) && ready s

-- lines 5 and 6: "becomes finished"
abbrev pub ended : Station → Station
ended s = record { held = s.held; unstarted = s.unstarted; parent = s.parent; waits = s.waits; state = finished }
