-- A step in its parts, and the receivers of a kind of step from a sender, as sets: what waits, which changes with the sender alone, and who takes
-- it by the states.
use Rattle.std.specs.Prelude.{◌≡◌, Bool, ◌&&◌, cond, List, ℕ, set, eqb}
use Rattle.std.specs.Int.Bits.{bit_and}
use Rattle.bitset.specs.Set.{without, union, put, bit_if}
use Rattle.bitset.specs.Internal.Selected.{set_of}
use Rattle.aggregate.specs.declared.Config.{Config}
use Rattle.aggregate.specs.Aggregate.{root_of}
use Rattle.station.specs.declared.Station.{Station}
use Rattle.station.specs.Events.{active, ended}
use Rattle.stations.specs.Stations.{station_at}
use Rattle.schedule.specs.declared.Step.{Step}
use Rattle.schedule.specs.declared.rows.Sizes.{Sizes}
use Rattle.schedule.specs.Internal.Rows.{HoldRows}
use Rattle.mail.specs.declared.Message.TheVariants.{Start}
use Rattle.mail.specs.Mail.{starts_of, answers_of}
use Rattle.mailbox.specs.declared.listing.Takers.{Takers}
use Rattle.mailbox.specs.Net.{Net, station}
use Rattle.mailbox.specs.Delivery.{takes_message, may_report, receiver_after, boxes_delivered}
use Rattle.mailbox.specs.Rules.{delivery, report}

-- what a step makes of its receiver, and of the mailboxes: `applied` in its two parts
abbrev pub receiver_made : Config → List ℕ → Step → Station → Station
receiver_made t boxes s receiver =
    cond (eqb s.kind delivery) (receiver_after t boxes s.sender s.receiver receiver) (ended receiver)

-- the mailboxes after a step
abbrev pub boxes_made : Config → List ℕ → Step → Station → List ℕ
boxes_made t boxes s receiver = cond (eqb s.kind delivery) (boxes_delivered t boxes s.sender s.receiver receiver) boxes

-- the receiver of a step after it, and the net with it
pub record Made (net : Net) (s : Step) (next : Station) (after : Net) : Type 0 where
  pub next-is : next ≡ receiver_made net.config net.boxes s (station net s.receiver)
  pub after_is : after
      ≡ record {
        config = net.config;
        stations = set net.stations s.receiver next;
        boxes = boxes_made net.config net.boxes s (station net s.receiver);
      }

-- whether a station takes a start
abbrev pub takes_start : Station → Bool
takes_start s = takes_message s Start

-- whether a station takes an answer
abbrev pub takes_answer : Station → Bool
takes_answer s = eqb s.state active

-- whether the root among these stations may report
abbrev pub root_reports : Config → List Station → Bool
root_reports t stations = may_report (station_at stations (root_of t))

-- the stations below k that take a start, and those that take an answer
unfoldable pub takers_of : ℕ → List Station → Takers
takers_of k stations =
    record { starts = set_of k (λ i. takes_start (station_at stations i)); answers = set_of k (λ i. takes_answer (station_at stations i)) }

-- the same, where station j is now s
unfoldable pub retaken : ℕ → Station → Takers → Takers
retaken j s takers = record { starts = put j (takes_start s) takers.starts; answers = put j (takes_answer s) takers.answers }

-- the receivers to which what waits from s can be delivered
unfoldable pub deliverable : ℕ → ℕ → ℕ → Takers → ℕ
deliverable s starts answers takers = without s (union (bit_and starts takers.starts) (bit_and answers takers.answers))

-- the receivers of a kind of step from s; only the root reports
unfoldable pub receivers_of : ℕ → Takers → Bool → List ℕ → ℕ → ℕ → ℕ
receivers_of root takers reports boxes kind s =
    cond (eqb kind delivery) (deliverable s (starts_of boxes s) (answers_of boxes s) takers)
    (cond (eqb kind report) (bit_if (eqb s root && reports) s) 0)

-- rows that hold the receivers of some senders, four rows a sender, and their sizes
abbrev pub HoldReceivers : (ℕ → Type 0) → Config → Takers → Bool → List ℕ → List ℕ → Sizes → Type 0
HoldReceivers those t takers reports boxes rows z = HoldRows those t.k (receivers_of (root_of t) takers reports boxes) rows z

-- every sender
abbrev pub AnySender : ℕ → Type 0
AnySender s = Unit {0}
