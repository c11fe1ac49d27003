-- `capi::map::write_fault` meets its contract: each case is its number, with its value, which fits. Assumes nothing.
use native.Mathlib.Omega.{arith}
use Rattle.capi.proofs.map.write_fault.Goals as goal

pub overflow_cast-need : goal.overflow_cast-need
overflow_cast-need c = omega (arith, rw c.in-Buffer.is at c.requires)

pub returns-in-Buffer : goal.returns-in-Buffer
returns-in-Buffer c = rw c.in-Buffer.is c.with_value.ensures
