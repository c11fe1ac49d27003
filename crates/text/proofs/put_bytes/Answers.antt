-- `text::put_bytes` meets its contract: where there is room the word is put, and where there is none nothing is. Assumes nothing.
use mathlib.Core.Path.{◌∙◌}
use Prim.Native.Nat.{◌+◌, ◌<◌}
use native.Mathlib.Omega.{arith}
use lib.ListN.{length}
use borrow.Author.Rules.{rules}
use Rattle.finite.proofs.Stores.{put-laid, none-laid}
use Rattle.text.proofs.put_bytes.Goals as goal
use Rattle.text.proofs.put_bytes.Goals.{then-buf-at-via-then-buf-at, then-buf-at-via-else-buf-at+then-buf-at-2}

pub returns-then-buf-at : goal.returns-then-buf-at
returns-then-buf-at c =
    let a = c.args in
    let none : length a.buf.now < a.at + length a.word.now =
    elim c.then-buf-at.branch [ then-buf-at-via-then-buf-at w ↦ omega arith | then-buf-at-via-else-buf-at+then-buf-at-2 w ↦ omega arith ] in
    let left = none-laid a.buf.now a.at a.word.now none in
    record { end = left.0; bytes = left.1 }

pub returns : goal.returns
returns c =
    let a = c.args in
    let put = put-laid a.buf.now a.at a.word.now (record { fits = omega arith }) c.put_word.ensures.put in
    record { end = put.0; bytes = search rules ∙ put.1 }
