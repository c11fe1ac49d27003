-- `text::Writer::put_item` meets its contract: the word, then the number. Assumes nothing.
use Rattle.finite.proofs.Stores.{room_first, room_next}
use Rattle.text.specs.Text.{item, digits}
use Rattle.text.proofs.Writing.{puts_then}
use Rattle.text.proofs.Writer.put_item.Goals as goal

pub put_word-requires : goal.put_word-requires
unfolding item
put_word-requires c = room_first (digits 20 c.args.n) c.requires

pub put_number-requires : goal.put_number-requires
unfolding item
put_number-requires c = room_next c.requires c.put_word.ensures.put

pub returns : goal.returns
unfolding item
returns c = puts_then c.put_word.ensures c.put_number.ensures
