-- `program::streams::serve` meets its contract: the front that is read decides the output. Assumes nothing.
use Rattle.std.proofs.Common.{rules, arith}
use Rattle.std.specs.Io.KnownBytes.{Appends}
use Rattle.program.specs.Internal.Serving.{Begins}
use Rattle.program.proofs.Inputs.{front_enough}
use Rattle.program.proofs.Serving.{front_serves}
use Rattle.program.proofs.streams.serve.Goals as goal

pub returns-in-Ok-write_lot : goal.returns-in-Ok-write_lot
returns-in-Ok-write_lot g c =
    let contents = g.W.Write.contents in (
      omega (arith, (c.in-Ok.ensures).within),
      front_serves front_enough (Appends (contents c.args.writer.now) (contents c.write_lot.new.writer)) _ c.in-Ok.n c.read_input.new.buf
          (search rules) (c.in-Ok.ensures).bytes (c.in-Ok-write_lot.ensures),
    )

pub returns-in-Err-write_lot : goal.returns-in-Err-write_lot
returns-in-Err-write_lot g c =
    let contents = g.W.Write.contents in (
      omega (arith, (c.in-Ok.ensures).within),
      front_serves front_enough (Begins (contents c.args.writer.now) (contents c.write_lot.new.writer)) _ c.in-Ok.n c.read_input.new.buf
          (search rules) (c.in-Ok.ensures).bytes (c.in-Err-write_lot.ensures),
    )
