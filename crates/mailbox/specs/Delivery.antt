-- Delivery and report of stations with mail, sentence by sentence (document 01, "Stations with mail").
use Rattle.std.specs.Prelude.{Bool, false, not, cond, ◌&&◌, ◌||◌, List, ℕ, ◌-◌, set, eqb}
use Rattle.bitset.specs.Set.{size, without}
use Rattle.aggregate.specs.declared.Config.{Config}
use Rattle.aggregate.specs.declared.Aggregate.{Aggregate}
use Rattle.aggregate.specs.Aggregate.{root_of, nothing, clipped}
use Rattle.station.specs.declared.Station.{Station}
use Rattle.station.specs.Events.{asleep, active, start_taken, answer_taken, ended}
use Rattle.mail.specs.declared.Message.{Message}
use Rattle.mail.specs.declared.Message.TheVariants.{Start, Answer}
use Rattle.mail.specs.declared.Mailbox.{Mailbox}
use Rattle.mail.specs.declared.Mailbox.TheVariants.{Empty, Full}
use Rattle.mail.specs.Mail.{box_at, brought_at, with_box, starts_posted}
use Rattle.mailbox.specs.Net.{Net, station}

-- "A start is taken asleep or active, an answer only active"
abbrev pub takes_message : Station → Message → Bool
takes_message s Start = eqb s.state asleep || eqb s.state active
takes_message s Answer = eqb s.state active

-- "A delivery (sender, receiver) needs a full box"
abbrev pub takes_from : Station → Mailbox → Bool
takes_from s Empty = false
takes_from s (Full m) = takes_message s m

-- "Except in a report, a step from a station to itself is never allowed" (Stations that meet)
abbrev pub may_deliver : ℕ → ℕ → Station → Mailbox → Bool
may_deliver from to receiver box = not (eqb from to) && takes_from receiver box

-- "On waking, the receiver's parent is the sender, waits are its neighbours less one"; "neighbour sets stay"
abbrev pub awakened : ℕ → Station → Station
awakened from s = record { held = s.held; unstarted = s.unstarted; parent = from; waits = size s.unstarted - 1; state = active }

-- "either makes an active receiver's waits less one, and an answer's sum is added": v is what it brings
abbrev pub message_taken : Config → ℕ → Message → Aggregate → Station → Station
message_taken t from Start v s = cond (eqb s.state asleep) (awakened from s) (start_taken s)
message_taken t from Answer v s = answer_taken t v s

-- the receiver after a delivery: an empty mailbox brings nothing
abbrev pub taken : Config → ℕ → Mailbox → Aggregate → Station → Station
taken t from Empty v s = s
taken t from (Full m) v s = message_taken t from m v s

-- a delivery "empties it"; on waking the receiver "posts a start to every neighbour but the parent"
unfoldable pub boxes_after : List ℕ → ℕ → ℕ → Station → List ℕ
boxes_after boxes from to receiver =
    let emptied = with_box boxes from to Empty nothing in
    cond (eqb receiver.state asleep) (starts_posted emptied to (without from receiver.unstarted)) emptied

-- "After any delivery, a receiver other than 0 with waits zero posts its sum as an answer to its parent and is finished"; "the desk takes the
-- place of station 0" (document 02, request 5)
abbrev pub must_answer : Config → ℕ → Station → Bool
must_answer t to s = not (eqb to (root_of t)) && eqb s.waits 0

-- then it "is finished"; any other receiver stays as the message left it
abbrev pub settled : Config → ℕ → Station → Station
settled t to s = cond (must_answer t to s) (ended s) s

-- and its sum is in the mailbox to its parent; "what a station gives or posts has zero there" (document 02, request 2): past c
unfoldable pub boxes_settled : Config → List ℕ → ℕ → Station → List ℕ
boxes_settled t boxes to s = cond (must_answer t to s) (with_box boxes to s.parent (Full Answer) (clipped t s.held)) boxes

-- the receiver after a delivery, of what the mailboxes held
abbrev pub receiver_after : Config → List ℕ → ℕ → ℕ → Station → Station
receiver_after t boxes from to receiver = settled t to (taken t from (box_at boxes from to) (brought_at t boxes from to) receiver)

-- the mailboxes after a delivery
abbrev pub boxes_delivered : Config → List ℕ → ℕ → ℕ → Station → List ℕ
boxes_delivered t boxes from to receiver =
    boxes_settled t (boxes_after boxes from to receiver) to (taken t from (box_at boxes from to) (brought_at t boxes from to) receiver)

-- the net after a delivery
unfoldable pub delivered : Net → ℕ → ℕ → Net
delivered net from to =
    let after = receiver_after net.config net.boxes from to (station net to) in
    let boxes = boxes_delivered net.config net.boxes from to (station net to) in
    record { config = net.config; stations = set net.stations to after; boxes = boxes }

-- "Report: desk active, waits zero; it becomes finished"
abbrev pub may_report : Station → Bool
may_report root = eqb root.state active && eqb root.waits 0

-- "it becomes finished"
unfoldable pub reported : Net → ℕ → Net
reported net root = record { config = net.config; stations = set net.stations root (ended (station net root)); boxes = net.boxes }
