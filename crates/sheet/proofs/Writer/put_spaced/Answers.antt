-- `sheet::Writer::put_spaced` meets its contract: the number, then the blank. Assumes nothing.
use Rattle.sheet.specs.Layout.{spaced}
use Rattle.sheet.proofs.Laying.{puts_then}
use Rattle.sheet.proofs.Writer.put_spaced.Goals as goal

pub returns : goal.returns
unfolding spaced
returns c = puts_then c.put_number.ensures c.put.ensures
