-- `linemap::reading::read_trailer` meets its contract: each field is the number at its place in the last 16 bytes. Assumes nothing.
use Rattle.std.proofs.Common.{length, arith, le-leb}
use borrow.Author.Tests.{lt-leb}
use Rattle.linemap.specs.Stored.{trailer_length}
use Rattle.linemap.specs.Internal.Stages.{trailer_of}
use Rattle.linemap.proofs.reading.read_trailer.Goals as goal

pub returns-then-n-lt-TRAILER_LENGTH : goal.returns-then-n-lt-TRAILER_LENGTH
unfolding trailer_of
returns-then-n-lt-TRAILER_LENGTH c = rw (lt-leb trailer_length (length c.args.s.now) (omega arith))

pub returns : goal.returns
unfolding trailer_of
returns c =
    rw (le-leb trailer_length (length c.args.s.now) (omega arith)) (cc)
