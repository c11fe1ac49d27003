-- `capi::steps::number` meets its contract: a refusal's number, or 0 with the step made. Assumes nothing.
use native.Mathlib.Omega.{arith}
use Rattle.capi.proofs.steps.number.Goals as goal

pub returns-in-Ok : goal.returns-in-Ok
returns-in-Ok c = rw c.in-Ok.is (omega arith)

pub returns-in-Err : goal.returns-in-Err
returns-in-Err c = rw c.in-Err.is (omega (arith, c.number.ensures))
