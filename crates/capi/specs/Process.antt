-- One station lent from C: the number of its event, with the parent where one is given, what is given, and the process left.
use Rattle.std.specs.Prelude.{◌∷◌, ℕ}
use Rattle.station.specs.declared.Process.{Process}
use Rattle.station.specs.Process.{EventOutcome}
use Rattle.capi.specs.declared.process.Given.{Given}
use Rattle.capi.specs.Answers.{packed, Called, called}

-- an event (One station): its number and values, packed, and the process that it leaves
abbrev pub event_call : EventOutcome → Called ℕ Process
event_call o = called (packed (o.number ∷ o.values)) o.process

-- "gives parent and sum" (One station): the number with the parent, and what is given
abbrev pub giving_call : EventOutcome → Called Given Process
giving_call o = called (record { answer = packed (o.number ∷ o.values); held = o.given }) o.process
