-- `sheet::Writer::put_count_line` meets its contract: station, class and count, then what fills the line. Assumes nothing.
use native.Mathlib.Omega.{arith}
use Rattle.sheet.proofs.Lines.{count_line_lem}
use Rattle.sheet.proofs.Laying.{puts_then}
use Rattle.sheet.proofs.Writer.put_count_line.Goals as goal

pub returns-clause-lays : goal.returns-clause-lays
returns-clause-lays c =
    let a = c.args in
    rw (count_line_lem a.i a.j a.count c.requires.0 c.requires.1 (omega arith))
    (puts_then (puts_then (puts_then c.put_spaced.ensures c.put_spaced-2.ensures) c.put_count.ensures) c.put.ensures)
