-- `program::streams::write_output` meets its contract: a beginning of the output is written, and each turn writes more.
use Rattle.std.proofs.Common.{rules}
use Rattle.program.proofs.Serving.{write_more}
use Rattle.program.proofs.streams.write_output.Goals as goal

pub loop-done-preserved : goal.loop-done-preserved
loop-done-preserved g c = record {
  within = search rules;
  written = write_more c.loop-done.done c.in_ok-more.more c.args.output.now _ _ _ c.loop-done.invariant.written
      (c.in_ok-more.ensures).bytes;
}
