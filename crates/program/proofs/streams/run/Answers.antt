-- `program::streams::run` meets its contract: the buffers have the lengths that `serve` asks for. Assumes nothing.
use mathlib.Core.Path.{sym}
use Prim.Native.Nat.{ℕ, ◌≤◌}
use native.Mathlib.Nat.{le_of_eq}
use lib.ListN.{length-replicate}
use Rattle.program.specs.Output.{output_room}
use Rattle.program.specs.Running.{input_room}
use Rattle.program.specs.Internal.Serving.{count_read}
use Rattle.program.proofs.streams.run.Goals as goal

pub slice_bounds-serve-end : goal.slice_bounds-serve-end
slice_bounds-serve-end c = sym (length-replicate {A = ℕ} input_room 0)

pub slice_bounds-serve-end-2 : goal.slice_bounds-serve-end-2
slice_bounds-serve-end-2 c = sym (length-replicate {A = ℕ} output_room 0)

pub serve-requires-clause-input_room : goal.serve-requires-clause-input_room
serve-requires-clause-input_room c = length-replicate {A = ℕ} input_room 0

pub serve-requires-clause-output_room : goal.serve-requires-clause-output_room
serve-requires-clause-output_room c = le_of_eq (sym (length-replicate {A = ℕ} output_room 0))

pub returns-in-Ok : goal.returns-in-Ok
returns-in-Ok c = (c.in-Ok.ensures).0

pub returns-in-Err-Unwritten : goal.returns-in-Err-Unwritten
returns-in-Err-Unwritten c =
    let within : count_read c.in-Err-Unwritten.field-0 ≤ input_room = (c.in-Err-Unwritten.ensures).0 in
    rw c.in-Err-Unwritten.field-0-is at within
