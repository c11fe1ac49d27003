-- `program::put_output` meets its contract: a refusal is one line, and an accepted map has its run. Assumes nothing.
use Rattle.program.proofs.Answers.{opens-map, refusal_alone}
use Rattle.program.proofs.Outputs.{output_left, output_put, line_fills}
use Rattle.program.proofs.put_output.Goals as goal

pub returns-then-out-lt-OUTPUT_ROOM : goal.returns-then-out-lt-OUTPUT_ROOM
returns-then-out-lt-OUTPUT_ROOM c =
    let left = output_left c.args.input.now c.args.out.now c.if-out-lt-OUTPUT_ROOM.true in
    record { count = left.0; bytes = left.1 }

pub put_lot-requires : goal.put_lot-requires
put_lot-requires c =
    record { opens = opens-map c.args.input.now c.open.result c.open.ensures c.in-Ok.is; output_room_in_bounds = c.if-out-lt-OUTPUT_ROOM.false }

pub returns-in-Err : goal.returns-in-Err
returns-in-Err c =
    let s = c.args.input.now in
    let l = c.args.out.now in
    let line = rw c.refusal_line.ensures at c.put_line_at.ensures in
    let alone = refusal_alone s c.open.result c.open.ensures c.in-Err.is in
    let put = output_put s l c.if-out-lt-OUTPUT_ROOM.false (line_fills s l c.if-out-lt-OUTPUT_ROOM.false alone line) in
    record { count = put.0; bytes = put.1 }

pub returns-in-Ok : goal.returns-in-Ok
returns-in-Ok c =
    let put = output_put c.args.input.now c.args.out.now c.if-out-lt-OUTPUT_ROOM.false c.put_lot.ensures in
    record { count = put.0; bytes = put.1 }
