-- `text::put_line` meets its contract: every line fits into the room asked for. Assumes nothing.
use mathlib.Core.Path.{◌∙◌}
use borrow.Author.Rules.{rules}
use Rattle.finite.proofs.Stores.{room_first, room_next}
use Rattle.text.specs.Ascii.{ascii}
use Rattle.text.specs.Text.{text_of}
use Rattle.text.proofs.Lines.{line-left, line_room_lem, line-put}
use Rattle.text.proofs.Writing.{puts_then}
use Rattle.text.proofs.put_line.Goals as goal

pub returns-then-buf-lt-LINE_ROOM : goal.returns-then-buf-lt-LINE_ROOM
returns-then-buf-lt-LINE_ROOM c =
    let left = line-left c.args.line c.args.buf.now c.if-buf-lt-LINE_ROOM.true in
    record { count = left.0; bytes = left.1 }

pub put_words-requires : goal.put_words-requires
unfolding text_of
put_words-requires c = room_first (ascii "\n") (line_room_lem c.args.line c.args.buf.now c.if-buf-lt-LINE_ROOM.false)

pub put_word-requires : goal.put_word-requires
unfolding text_of
put_word-requires c = room_next (line_room_lem c.args.line c.args.buf.now c.if-buf-lt-LINE_ROOM.false) c.put_words.ensures.put

pub returns : goal.returns
unfolding text_of
returns c =
    let put = line-put c.args.line c.if-buf-lt-LINE_ROOM.false (puts_then c.put_words.ensures c.put_word.ensures).put in
    record { count = put.0; bytes = search rules ∙ put.1 }
