-- `sheet::Writer::put_number` meets its contract: the last of the twenty columns are the number's. Assumes nothing.
use Rattle.sheet.proofs.Columns.{last_columns}
use Rattle.sheet.proofs.Writer.put_number.Goals as goal

pub returns : goal.returns
returns c = rw (last_columns c.args.width c.args.n c.requires c.align-columns.ensures) at c.put.ensures
