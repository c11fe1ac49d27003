-- `schedule::rows::row_at` meets its contract: past its end a list gives 0. Assumes nothing.
use Rattle.std.proofs.Common.{sym}
use lib.ListN.{get_or-eq_default}
use Rattle.schedule.proofs.rows.row_at.Goals as goal

pub returns-else-at-rows : goal.returns-else-at-rows
returns-else-at-rows c = sym (get_or-eq_default c.args.rows.now 0 c.if-at-rows.false)
