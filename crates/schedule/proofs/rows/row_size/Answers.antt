-- `schedule::rows::row_size` meets its contract: an empty row lists nothing. Assumes nothing.
use Rattle.std.proofs.Common.{sym}
use Rattle.bitset.proofs.Laws.{size_empty}
use Rattle.schedule.proofs.rows.row_size.Goals as goal

pub returns-then-row-eq0 : goal.returns-then-row-eq0
returns-then-row-eq0 c = rw c.if-row-eq0.true (sym size_empty)
