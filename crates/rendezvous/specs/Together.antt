-- "Each step is the sender's event and the receiver's together, and equals Figure 2" (document 01, "Stations that meet"): what that says of
-- a net. Steps are defined by Figure 2; the events are those of Definition 3.1. The theorem is `steps_are_events` of proofs/Events.
use Rattle.std.specs.Prelude.{◌≡◌, Bool, true, not, ◌&&◌, ℕ, ◌<◌, eqb, length}
use Rattle.aggregate.specs.Aggregate.{root_of}
use Rattle.station.specs.declared.Process.{Process}
use Rattle.station.specs.Events.{asleep, active}
use Rattle.station.specs.Process as process
use Rattle.rendezvous.specs.Net.{Net, station, well_formed}
use Rattle.rendezvous.specs.Figure.{wake, pass, answer, report, may_step, assigned}

-- station i of the net, by itself
abbrev pub process_at : Net → ℕ → Process
process_at net i = record { own = i; classes = net.config.classes; desk = net.config.desk; way = net.config.way; station = station net i }

-- an event that no number refuses
abbrev pub is_done : process.EventOutcome → Bool
is_done event = eqb event.number 0

-- Figure 2 lets j and i make a step of a kind
abbrev pub may : Net → ℕ → ℕ → ℕ → Bool
may net kind j i = may_step net.config kind j i (station net j) (station net i)

-- the step from j to i is what j sends and what i takes: it is allowed just where they are two stations that `fit` and both events are
-- accepted, and it leaves at each what its event leaves
pub record Together (net : Net) (kind j i : ℕ) (fit : Bool) (sends takes : process.EventOutcome) : Type 0 where
  pub allowed : may net kind j i ≡ (not (eqb i j) && fit && is_done sends && is_done takes)
  pub sender : may net kind j i ≡ true → station (assigned net kind j i) j ≡ sends.process.station
  pub receiver : may net kind j i ≡ true → station (assigned net kind j i) i ≡ takes.process.station

-- the report is the root's alone
pub record Alone (net : Net) (kind j : ℕ) (event : process.EventOutcome) : Type 0 where
  pub allowed : may net kind j j ≡ is_done event
  pub reporter : may net kind j j ≡ true → station (assigned net kind j j) j ≡ event.process.station

-- the table of kinds, in one net
pub record EventsIn (net : Net) : Type 0 where
  -- 1 wake: "sender's start, receiver asleep"
  pub wakes : (j i : ℕ) → j < net.config.k → i < net.config.k
      → Together net wake j i (eqb (station net i).state asleep) (process.send_start i (process_at net j)) (process.take_start j (process_at net i))
  -- 2 pass: "sender's start, receiver active"
  pub passes : (j i : ℕ) → j < net.config.k → i < net.config.k
      → Together net pass j i (eqb (station net i).state active) (process.send_start i (process_at net j)) (process.take_start j (process_at net i))
  -- 3 answer: "sender's answer to its parent", which takes the sum given
  pub answers : (j i : ℕ) → j < net.config.k → i < net.config.k
      → let sends = process.send_answer (process_at net j) in
      Together net answer j i (eqb (station net j).parent i) sends (process.take_answer sends.given (process_at net i))
  -- 4 report: "0 and 0", for which the desk stands (document 02, request 5)
  pub reports : Alone net report (root_of net.config) (process.report (process_at net (root_of net.config)))

-- "Each step is the sender's event and the receiver's together": in every net in form, with 64 places as all that code holds
abbrev pub StepsAreEvents : Type 0
StepsAreEvents = (net : Net) → well_formed net ≡ true → length net.stations ≡ 64 → EventsIn net
