-- `linemap::writing::put_rows` meets its contract. Invariant: the first i rows are laid over the front of the buffer. Assumes
-- nothing.
use Rattle.std.proofs.Common.{◌≡◌}
use Rattle.linemap.specs.Internal.Stages.{put}
use Rattle.finite.specs.Below.{each}
use Rattle.linemap.specs.Stored.{row_bytes}
use Rattle.linemap.proofs.writing.put_rows.Given as goal

abbrev pub invariant-loop-i : goal.invariant-loop-i
invariant-loop-i l = l.buf ≡ put l.initial.buf 0 (each (row_bytes l.m.classes l.m.counts l.m.neighbours) l.i)
