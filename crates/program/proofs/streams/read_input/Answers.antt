-- `program::streams::read_input` meets its contract: what was read stands at the front of the buffer, and each turn reads more.
use Rattle.std.proofs.Common.{rules}
use Rattle.program.proofs.Serving.{read_more}
use Rattle.program.proofs.streams.read_input.Goals as goal

pub loop-n-preserved : goal.loop-n-preserved
loop-n-preserved g c = record {
  within = search rules;
  read = read_more c.loop-n.n _ c.in_ok-more.more c.loop-n.buf c.read_some.new.buf c.loop-n.invariant.within
      (c.in_ok-more.ensures).bound.0 _ _ _ c.loop-n.invariant.read (c.in_ok-more.ensures).bytes.0;
}
