-- `capi::sheets::laid` meets its contract: each case is its number, with its value, which fits. Assumes nothing.
use native.Mathlib.Omega.{arith}
use Rattle.capi.proofs.sheets.laid.Goals as goal

pub overflow_cast-need : goal.overflow_cast-need
overflow_cast-need c = omega (arith, rw c.in-Ok.is at c.requires)

pub sheet_fault-requires : goal.sheet_fault-requires
sheet_fault-requires c = rw c.in-Err.is at c.requires

pub returns-in-Ok : goal.returns-in-Ok
returns-in-Ok c = rw c.in-Ok.is c.with_value.ensures
