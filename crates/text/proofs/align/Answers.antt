-- `text::align` meets its contract: the digits, put from the front, are copied to the end of blanks. Assumes nothing.
use borrow.Author.Rules.{rules}
use Rattle.text.proofs.Columns.{number_room, count_le, counted, count_within, columns_are}
use Rattle.text.proofs.align.Goals as goal

pub put_number-requires : goal.put_number-requires
put_number-requires c = number_room c.args.n

pub overflow_sub-columns : goal.overflow_sub-columns
overflow_sub-columns c = count_le c.args.n c.put_number.ensures.put

pub slice_bounds-left-end : goal.slice_bounds-left-end
slice_bounds-left-end c = count_within c.args.n c.put_number.ensures.put (search rules)

pub slice_bounds-copy_from_slice-end : goal.slice_bounds-copy_from_slice-end
slice_bounds-copy_from_slice-end c = counted c.args.n c.put_number.ensures.put (search rules)

pub returns : goal.returns
returns c = columns_are c.args.n c.put_number.ensures.put (search rules) c.copy_from_slice.ensures.after
