-- `program::put_line_at` meets its contract: the part of the buffer has room for every line. Assumes nothing.
use Rattle.program.proofs.Lines.{line-put-at}
use Rattle.program.proofs.put_line_at.Goals as goal

pub returns : goal.returns
returns c =
    line-put-at c.args.out.now c.args.at c.args.line c.requires c.put_line.ensures.count c.put_line.ensures.bytes
