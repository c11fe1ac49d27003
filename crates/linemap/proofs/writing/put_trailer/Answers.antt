-- `linemap::writing::put_trailer` meets its contract: six numbers, one right after the other. Assumes nothing.
use Rattle.linemap.proofs.StoredForm.{trailer_laid}
use Rattle.linemap.proofs.writing.put_trailer.Goals as goal

pub returns : goal.returns
returns c =
    let a = c.args in
    trailer_laid a.buf.now a.width a.k a.desk a.lot
    c.put.ensures
    c.put-2.ensures
    c.put-3.ensures
    c.put-4.ensures
    c.put-5.ensures
    c.put-6.ensures
