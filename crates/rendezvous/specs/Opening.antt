-- The fresh net of a line map, and opening a net on one (document 01, "Stations that meet").
use Rattle.std.specs.Prelude.{Bool, ℕ}
use Rattle.linemap.specs.declared.Map.{Map}
use Rattle.linemap.specs.Maps.{config_of}
use Rattle.linemap.specs.Openings.{Opening, opening_by}
use Rattle.rendezvous.specs.Net.{Net, fresh_net}

-- "Fresh: .." (Stations that meet), of the map's counts and neighbours, opened for carrying back or not, to join counts the way
abbrev pub fresh_on : Bool → ℕ → Map → Net
fresh_on back way m = fresh_net back (config_of way m) m.counts m.neighbours

-- "a map handed over goes 3, 7 to 10" (Causes and numbers), and 12 (document 02, request 10); a refusal leaves the net as it was
abbrev pub rendezvous_opening : Bool → ℕ → Map → Net → Opening Net
rendezvous_opening back way m net = opening_by (fresh_on back) way net m
