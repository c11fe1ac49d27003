-- `linemap::reading::read_row` meets its contract: the row starts within the bytes, or not. Assumes nothing.
use Rattle.std.proofs.Common.{length, arith, le-leb}
use borrow.Author.Tests.{lt-leb}
use Rattle.linemap.specs.Internal.Stages.{row_of}
use Rattle.linemap.proofs.reading.read_row.Goals as goal

pub returns-then-n-back : goal.returns-then-n-back
unfolding row_of
returns-then-n-back c =
    let a = c.args in
    rw (lt-leb a.back (length a.s.now) (omega arith))

pub returns : goal.returns
unfolding row_of
returns c =
    let a = c.args in
    rw (le-leb a.back (length a.s.now) (omega arith)) (cc)
