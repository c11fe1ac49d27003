-- What demand 3 speaks of (document 01, "Lists of calls"): a kind of net, and of a list of calls the steps made, the reports and messages
-- among them, and the net left. Said by what the calls answer; nothing of how it is proved.
use Rattle.std.specs.Prelude.{Bool, true, false, not, ◌&&◌, List, ℕ, eqb}
use Rattle.aggregate.specs.declared.Aggregate.{Aggregate}
use Rattle.station.specs.declared.Station.{Station}
use Rattle.linemap.specs.declared.Map.{Map}
use Rattle.schedule.specs.declared.Step.{Step}
use Rattle.schedule.specs.Rules.{Rules}
use Rattle.schedule.specs.Listing.{select, how_many, step}
use Rattle.schedule.specs.Calls.{Call, calls_made, calls_net}
use Rattle.rendezvous.specs.Net as rendezvous-net
use Rattle.rendezvous.specs.Telling.{is_tell}
use Rattle.rendezvous.specs.Rules as rendezvous-rules
use Rattle.rendezvous.specs.Opening as rendezvous-opening
use Rattle.mailbox.specs.Net as mailbox-net
use Rattle.mailbox.specs.Rules as mailbox-rules
use Rattle.mailbox.specs.Opening as mailbox-opening

-- a kind of net: its rules, its way of joining counts, the fresh net of a map, the stations of a net, and which steps demand 3 counts, of all that
-- are made
pub record Kind : Type 1 where
  pub Net : Type 0
  pub rules : Rules Net
  pub way : ℕ
  pub fresh : Map → Net
  pub station : Net → ℕ → Station
  pub counts : Step → Bool

-- "Stations that meet", "joined its way" (document 02, request 10)
abbrev pub meeting : ℕ → Kind
meeting way =
    record {
      Net = rendezvous-net.Net;
      rules = rendezvous-rules.rules;
      way = way;
      fresh = rendezvous-opening.fresh_on false way;
      station = rendezvous-net.station;
      counts = λ s. true;
    }

-- "A net of stations that meet may be opened for carrying back" (document 02, request 8): "in demand 3 the steps made, the steps allowed, the report
-- as the last of them and the messages each way are those of kinds 1 to 4"
abbrev pub carrying : ℕ → Kind
carrying way =
    record {
      Net = rendezvous-net.Net;
      rules = rendezvous-rules.rules;
      way = way;
      fresh = rendezvous-opening.fresh_on true way;
      station = rendezvous-net.station;
      counts = λ s. not (is_tell s);
    }

-- "Stations with mail"
abbrev pub mailing : ℕ → Kind
mailing way =
    record {
      Net = mailbox-net.Net;
      rules = mailbox-rules.rules;
      way = way;
      fresh = mailbox-opening.fresh_on way;
      station = mailbox-net.station;
      counts = λ s. true;
    }

-- "that desk" (document 02, request 5): the map's
abbrev pub desk : Map → ℕ
desk m = m.desk

module _ (K : Kind) where
  -- a report, by its kind
  abbrev pub is_report : Step → Bool
  is_report s = eqb s.kind K.rules.reports

  -- "that desk's report" (document 02, request 5), at the desk and the desk
  abbrev pub desk_report : Map → Step
  desk_report m = step K.rules.reports (desk m) (desk m)

  -- "Every step made but a report is one message, carried by the link of its two stations from sender to receiver"
  abbrev pub is_message : ℕ → ℕ → Step → Bool
  is_message i j s = not (is_report s) && eqb i s.sender && eqb j s.receiver

  -- "the desk's sum", and its missing number, of each class
  abbrev pub desk_held : Map → K.Net → Aggregate
  desk_held m net = (K.station net (desk m)).held

  module _ (m : Map) (calls : List Call) where
    -- "The steps made, in order", by a list that "starts from the fresh net"
    abbrev pub made : List Step
    made = calls_made K.rules (K.fresh m) calls

    -- "the net that the list leaves"
    abbrev pub left : K.Net
    left = calls_net K.rules (K.fresh m) calls

    -- those that demand 3 counts
    abbrev pub steps : List Step
    steps = select K.counts made

    -- how often the desk has reported
    abbrev pub reports : ℕ
    reports = how_many is_report steps

    -- how many messages have gone from i to j
    abbrev pub messages : ℕ → ℕ → ℕ
    messages i j = how_many (is_message i j) steps
