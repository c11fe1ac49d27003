-- `sheet::Writer::put_lot` meets its contract: the lot, then what fills the line. Assumes nothing.
use Rattle.sheet.proofs.Lines.{lot_line_lem}
use Rattle.sheet.proofs.Laying.{puts_then}
use Rattle.sheet.proofs.Writer.put_lot.Goals as goal

pub returns : goal.returns
returns c = rw (lot_line_lem c.args.lot c.requires) (puts_then c.put_number.ensures c.put.ensures)
