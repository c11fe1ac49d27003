-- Stations with mail as a kind of net: "Delivery is kind 1, report (0 and 0) kind 2; listing, draws and runs go as above" (document 01,
-- "Stations with mail"), from the definitions of `schedule`; for 0 read the desk (document 02, request 5).
use Rattle.std.specs.Prelude.{Bool, false, cond, ℕ, eqb}
use Rattle.aggregate.specs.Aggregate.{root_of}
use Rattle.station.specs.declared.Station.{Station}
use Rattle.schedule.specs.declared.Step.{Step}
use Rattle.schedule.specs.Rules.{Rules}
use Rattle.mail.specs.declared.Mailbox.{Mailbox}
use Rattle.mail.specs.Mail.{box_at}
use Rattle.mailbox.specs.Net.{Net, station, well_formed}
use Rattle.mailbox.specs.Delivery.{may_deliver, may_report, delivered, reported}

-- "Delivery is kind 1"
abbrev pub delivery : ℕ
delivery = 1

-- "report (0 and 0) kind 2"
abbrev pub report : ℕ
report = 2

-- number 13: a step, its receiver, and what is in the mailbox from its sender to it
unfoldable pub may_step : Step → Station → Mailbox → Bool
may_step s receiver box =
    cond (eqb s.kind delivery) (may_deliver s.sender s.receiver receiver box)
    (cond (eqb s.kind report) (may_report receiver) false)

-- the net after a delivery or a report
unfoldable pub net_after : Net → Step → Net
net_after net s = cond (eqb s.kind delivery) (delivered net s.sender s.receiver) (reported net s.receiver)

-- the kind of net: "kind not .. (mail: 1 or 2)", and what else `schedule` asks of one
abbrev pub rules : Rules Net
rules =
    let k : Net → ℕ = λ net. net.config.k in
    let root : Net → ℕ = λ net. root_of net.config in
    let guard : Net → Step → Bool = λ net s. may_step s (station net s.receiver) (box_at net.boxes s.sender s.receiver) in
    record { kinds = λ net. 2; reports = report; stations = k; root = root; well_formed = well_formed; guard = guard; apply = net_after }
