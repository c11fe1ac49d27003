-- `text::Writer::put_words` meets its contract: each arm puts the parts of its line, one after the other, and the room for the line is room for
-- each. Assumes nothing.
use Rattle.finite.proofs.Stores.{room_next}
use Rattle.text.proofs.Writing.{puts_then}
use Rattle.text.proofs.Writer.put_words.Goals as goal

pub put_aggregate-requires : goal.put_aggregate-requires
put_aggregate-requires c = room_next (rw c.in-Answer.is at c.requires) c.put_two-in-Answer.ensures.put

pub put_aggregate-requires-in-Report : goal.put_aggregate-requires-in-Report
put_aggregate-requires-in-Report c = room_next (rw c.in-Report.is at c.requires) c.put_item.ensures.put

pub put_item-requires-in-Closing : goal.put_item-requires-in-Closing
put_item-requires-in-Closing c = room_next (rw c.in-Closing.is at c.requires) c.put_two-in-Closing.ensures.put

pub returns-in-Answer : goal.returns-in-Answer
returns-in-Answer c = rw c.in-Answer.is (puts_then c.put_two-in-Answer.ensures c.put_aggregate.ensures)

pub returns-in-Report : goal.returns-in-Report
returns-in-Report c = rw c.in-Report.is (puts_then c.put_item.ensures c.put_aggregate-in-Report.ensures)

pub returns-in-Closing : goal.returns-in-Closing
returns-in-Closing c = rw c.in-Closing.is (puts_then c.put_two-in-Closing.ensures c.put_item-in-Closing.ensures)
