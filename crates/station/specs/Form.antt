-- The form of a station, number 11 (document 01, "Causes and numbers"): what the nets ask of each of theirs, and a process of its own.
use Rattle.std.specs.Prelude.{ℕ, Bool, not, ◌&&◌, ◌||◌, eqb, leb, ltb}
use Rattle.aggregate.specs.declared.Config.{Config}
use Rattle.aggregate.specs.Aggregate.{root_of, valid, bounded}
use Rattle.bitset.specs.Set.{member, within}
use Rattle.station.specs.declared.Station.{Station}
use Rattle.station.specs.declared.Process.{Process}
use Rattle.station.specs.Events.{finished}

-- station i under t: "states at most 2, parents and set members below k, waits at most 64, sums .. below 2^62, no station in its
-- own set, none but station 0 its own parent"; "the desk takes the place of station 0" (document 02, request 5)
unfoldable pub well_formed : Config → ℕ → Station → Bool
well_formed t i s =
    leb s.state finished && ltb s.parent t.k && within t.k s.unstarted && leb s.waits 64 && bounded t s.held
    && not (member i s.unstarted) && (eqb i (root_of t) || not (eqb s.parent i))

-- "For one station 64 stands for k"
abbrev pub process_config : Process → Config
process_config p = record { k = 64; classes = p.classes; desk = p.desk; way = p.way }

-- "and its own number is below 64"; "a net or station with such a c is out of form" (document 02, request 2), and so is a desk "not below k"
-- (request 5) and a way "above 3" (request 10)
unfoldable pub well_formed_process : Process → Bool
well_formed_process p =
    valid (process_config p) && ltb p.own (process_config p).k && well_formed (process_config p) p.own p.station
