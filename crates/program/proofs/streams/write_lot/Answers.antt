-- `program::streams::write_lot` hands the one write the output for its input: `put_output` left it at the front of the buffer, which has
-- room for every output. Assumes nothing.
use Rattle.program.proofs.Outputs.{front_is}
use Rattle.program.proofs.streams.write_lot.Goals as goal

pub write_output-requires : goal.write_output-requires
write_output-requires g c =
    front_is c.args.input.now c.args.room.now c.put_output-end.ensures.count c.put_output-end.ensures.bytes c.requires
