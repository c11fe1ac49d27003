-- The five events of a process (document 01, "One station"), with the refusals 11, 12 and 13 (Causes and numbers), which leave it.
-- For station 0 read the desk (document 02, request 5).
use Rattle.std.specs.Prelude.{ℕ, Bool, true, ◌||◌, List, [], ◌∷◌, eqb, ltb, Option, Some, None, Result, Ok, Err}
use Rattle.finite.specs.Tests.{unless}
use Rattle.aggregate.specs.declared.Aggregate.{Aggregate}
use Rattle.aggregate.specs.Aggregate.{bounded, clipped, nothing}
use Rattle.refusal.specs.declared.Refusal.{Refusal}
use Rattle.refusal.specs.declared.Refusal.TheVariants.{OutOfForm, OutOfRange, NotAllowed}
use Rattle.refusal.specs.Refusal.{number_of}
use Rattle.station.specs.declared.Station.{Station}
use Rattle.station.specs.declared.Process.{Process}
use Rattle.station.specs.declared.Gives.{Gives}
use Rattle.station.specs.Events.{asleep, active, may_send_start, start_sent, answer_taken, started_by, may_report, may_answer, ended}
use Rattle.station.specs.Form.{process_config, well_formed_process}

-- what an event comes to: its number (0: accepted), the values returned, what is given with them, and the process after it
pub record EventOutcome : Type 0 where
  pub number : ℕ
  pub values : List ℕ
  pub given : Aggregate
  pub process : Process

-- the number and the values of each reply
abbrev pub number_and_values : Result (Option Gives) Refusal → ℕ × List ℕ
number_and_values (Ok None) = (0, [])
number_and_values (Ok (Some g)) = (0, g.parent ∷ [])
number_and_values (Err r) = (number_of r, [])

-- what is given with it: nothing but at the end of the station's part
abbrev pub given_of : Result (Option Gives) Refusal → Aggregate
given_of (Ok None) = nothing
given_of (Ok (Some g)) = g.held
given_of (Err r) = nothing

-- what a reply and the process left come to
abbrev pub event_outcome_of : Result (Option Gives) Refusal → Process → EventOutcome
event_outcome_of r p = record { number = (number_and_values r).0; values = (number_and_values r).1; given = given_of r; process = p }

-- a refusal returns its number and leaves the process as it was
abbrev pub event_refused : Refusal → Process → EventOutcome
event_refused r p = record { number = number_of r; values = []; given = nothing; process = p }

-- the process after an event at its station
abbrev pub after : Process → Station → Process
after p s = record { own = p.own; classes = p.classes; desk = p.desk; way = p.way; station = s }

-- an accepted event that gives nothing
abbrev pub done : Process → EventOutcome
done p = record { number = 0; values = []; given = nothing; process = p }

-- "becomes finished and gives parent and sum"; what it gives has zero past c (document 02, request 2)
abbrev pub gives : Process → EventOutcome
gives p =
    let given = clipped (process_config p) p.station.held in
    record { number = 0; values = p.station.parent ∷ []; given = given; process = after p (ended p.station) }

-- the order of the refusals: form 11, range 12, allowed 13, else the event is accepted
unfoldable pub decide : Bool → Bool → Bool → Process → EventOutcome → EventOutcome
decide form range allowed p o =
    unless form (event_refused OutOfForm p) (unless range (event_refused OutOfRange p) (unless allowed (event_refused NotAllowed p) o))

-- "Take a start from j", asleep or active
unfoldable pub take_start : ℕ → Process → EventOutcome
take_start j p =
    decide (well_formed_process p) (ltb j (process_config p).k) (eqb p.station.state asleep || eqb p.station.state active) p
    (done (after p (started_by j p.station)))

-- "Send a start to j"
unfoldable pub send_start : ℕ → Process → EventOutcome
send_start j p =
    decide (well_formed_process p) (ltb j (process_config p).k) (may_send_start j p.station) p
    (done (after p (start_sent j p.station)))

-- "Take an answer v"
unfoldable pub take_answer : Aggregate → Process → EventOutcome
take_answer v p =
    decide (well_formed_process p) (bounded (process_config p) v) (eqb p.station.state active) p
    (done (after p (answer_taken (process_config p) v p.station)))

-- "Send an answer (not station 0)"
unfoldable pub send_answer : Process → EventOutcome
send_answer p = decide (well_formed_process p) true (may_answer (process_config p) p.own p.station) p (gives p)

-- "or report (station 0)"
unfoldable pub report : Process → EventOutcome
report p = decide (well_formed_process p) true (may_report (process_config p) p.own p.station) p (gives p)
