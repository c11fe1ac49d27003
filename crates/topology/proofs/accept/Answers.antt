-- `topology::accept` meets its contract: the number of stations or the root is refused, or the rules over all stations are left. Assumes nothing.
use mathlib.Core.Path.{◌≡◌, sym, ◌∙◌}
use mathlib.Core.Bool.{true, false}
use borrow.Author.Tests.{le-ltb}
use Rattle.topology.specs.Acceptance.{verdict_of}
use Rattle.bitset.specs.Set.{is_station_count}
use Rattle.topology.proofs.accept.Goals as goal
use Rattle.topology.proofs.accept.Goals.{Else-not-is_station_count}

pub returns-then-not-is_station_count : goal.returns-then-not-is_station_count
unfolding verdict_of
returns-then-not-is_station_count c =
    let none : is_station_count c.args.k ≡ false = sym c.is_station_count.ensures ∙ c.if-not-is_station_count.true in
    rw none

counted : (c : Else-not-is_station_count) → is_station_count c.args.k ≡ true
counted c = sym c.is_station_count.ensures ∙ c.if-not-is_station_count.false

pub returns-then-k-root : goal.returns-then-k-root
unfolding verdict_of
returns-then-k-root c = rw (counted (goal.at.returns-then-k-root c).Else-not-is_station_count, le-ltb _ _ c.if-k-root.true)
