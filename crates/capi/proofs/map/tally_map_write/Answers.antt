-- `capi::map::tally_map_write` meets its contract: the numbers of `linemap::write`, packed, whose value fits. Assumes nothing.
use Prim.Native.Nat.{◌<◌}
use native.Mathlib.Omega.{arith}
use Rattle.linemap.specs.Writing.{write_numbers}
use Rattle.capi.specs.Internal.Values.{value_of}
use Rattle.capi.proofs.Maps.{writing_small}
use Rattle.capi.proofs.map.tally_map_write.Goals as goal
use Rattle.capi.proofs.map.tally_map_write.Goals.{After-write}

value-small : (c : After-write) → value_of (write_numbers c.write.result) < 4294967296
value-small c = rw c.write.ensures.answer (writing_small _ _)

pub overflow_cast-need : goal.overflow_cast-need
overflow_cast-need c = omega (arith, rw c.in-Ok.is at (value-small (goal.at.overflow_cast-need c).After-write))

pub write_fault-requires : goal.write_fault-requires
write_fault-requires c = rw c.in-Err.is at (value-small (goal.at.write_fault-requires c).After-write)
