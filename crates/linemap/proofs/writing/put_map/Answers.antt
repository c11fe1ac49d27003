-- `linemap::writing::put_map` meets its contract: rows, trailer and check word, one right after the other. Assumes nothing.
use Rattle.linemap.proofs.StoredForm.{stored-laid}
use Rattle.linemap.proofs.writing.put_map.Goals as goal

pub returns : goal.returns
returns c =
    let width_is = c.row_length-width.ensures.0 in
    let need-is = c.stored_length-need.ensures in
    stored-laid c.args.m c.args.buf.now c.requires.2
    c.put_rows.ensures
    (rw width_is at c.put_trailer.ensures)
    (rw need-is at c.sum_words-sum.ensures)
    c.check_word.ensures
    (rw need-is at c.put.ensures)
