-- `sheet::Writer::put_total_line` meets its contract: the letter, class, total and missing number, then what fills the line. Assumes nothing.
use Rattle.sheet.proofs.Lines.{total_line_lem}
use Rattle.sheet.proofs.Laying.{puts_then}
use Rattle.sheet.proofs.Writer.put_total_line.Goals as goal

pub returns : goal.returns
returns c =
    rw (total_line_lem c.args.j c.args.x c.requires.j_bound c.requires.narrow_cell)
    (puts_then
    (puts_then (puts_then (puts_then c.put.ensures c.put_spaced.ensures) c.put_spaced-2.ensures) c.put_number.ensures)
    c.put-2.ensures)
