-- `text::Writer::put_two` meets its contract: one item, then the other. Assumes nothing.
use Rattle.finite.proofs.Stores.{room_next}
use Rattle.text.proofs.Writing.{puts_then}
use Rattle.text.proofs.Writer.put_two.Goals as goal

pub put_item-requires-2 : goal.put_item-requires-2
put_item-requires-2 c = room_next c.requires c.put_item.ensures.put

pub returns : goal.returns
returns c = puts_then c.put_item.ensures c.put_item-2.ensures
