-- The fresh net of a line map, and opening a net on one (document 01, "Stations with mail").
use Rattle.std.specs.Prelude.{ℕ}
use Rattle.linemap.specs.declared.Map.{Map}
use Rattle.linemap.specs.Maps.{config_of}
use Rattle.linemap.specs.Openings.{Opening, opening_by}
use Rattle.mailbox.specs.Net.{Net, fresh_net}

-- "Fresh as above, .." (Stations with mail), of the map's counts and neighbours, to join counts the way
abbrev pub fresh_on : ℕ → Map → Net
fresh_on way m = fresh_net (config_of way m) m.counts m.neighbours

-- "a map handed over goes 3, 7 to 10" (Causes and numbers), and 12 (document 02, request 10); a refusal leaves the net as it was
abbrev pub mailbox_opening : ℕ → Map → Net → Opening Net
mailbox_opening way m net = opening_by fresh_on way net m
