-- The net of stations with mail: its stations and mailboxes, its form, and the fresh net (document 01, "Stations with mail"). The words
-- of both are lent, so a net is what contracts speak of, and no struct of the code.
use Rattle.std.specs.Prelude.{Bool, ◌&&◌, ◌||◌, List, ℕ, get_or, eqb}
use Rattle.finite.specs.Below.{all_below}
use Rattle.aggregate.specs.declared.Config.{Config}
use Rattle.aggregate.specs.Aggregate.{root_of}
use Rattle.station.specs.declared.Station.{Station}
use Rattle.stations.specs.Stations.{station_at, are_well_formed, fresh_stations}
use Rattle.stations.specs.Words.{config_in, stations_in}
use Rattle.mail.specs.Mail.{mailbox_bounded, box_at, brought_at, starts_posted, no_mail}

-- what the net was opened with, its 64 places of stations, and the 36,992 words of its mailboxes
pub record Net : Type 0 where
  pub config : Config
  pub stations : List Station
  pub boxes : List ℕ

-- the net in these words, of its stations and of its mailboxes
abbrev pub net_of : List ℕ → List ℕ → Net
net_of line boxes = record { config = config_in line; stations = stations_in line; boxes = boxes }

-- station i of the net
abbrev pub station : Net → ℕ → Station
station net i = station_at net.stations i

-- "posted sums below 2^62", from s to the other stations below k (Causes and numbers, form)
abbrev pub row_bounded : Config → List ℕ → ℕ → Bool
row_bounded t boxes s = all_below t.k (λ r. eqb s r || mailbox_bounded t (box_at boxes s r) (brought_at t boxes s r))

-- the same, from each station below k
unfoldable pub are_bounded : Config → List ℕ → Bool
are_bounded t boxes = all_below t.k (row_bounded t boxes)

-- "Form (11)": the stations' and the mailboxes'
unfoldable pub well_formed : Net → Bool
well_formed net = are_well_formed net.config net.stations && are_bounded net.config net.boxes

-- "Fresh as above, with a start from the desk in each neighbour's box and all other boxes empty"
unfoldable pub fresh_net : Config → List ℕ → List ℕ → Net
fresh_net t counts neighbours =
    record { config = t; stations = fresh_stations t counts neighbours; boxes = starts_posted no_mail (root_of t) (get_or neighbours (root_of t) 0) }
