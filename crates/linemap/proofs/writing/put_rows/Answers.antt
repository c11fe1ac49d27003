-- `linemap::writing::put_rows` meets its contract. Invariant: the first i rows are laid over the front of the buffer. Assumes
-- nothing.
use Rattle.std.proofs.Common.{ℕ, ◌*◌, List, ◌++◌, slice_index, sym, ap, ◌∙◌, arith, rules}
use Rattle.finite.specs.Numbers.{bytes}
use Rattle.linemap.specs.Internal.Stages.{put}
use Rattle.finite.specs.Below.{each}
use Rattle.linemap.specs.Stored.{row_bytes}
use Rattle.linemap.proofs.Each.{each_more}
use Rattle.linemap.proofs.Put.{lay, put-none}
use Rattle.linemap.proofs.StoredForm.{counts_taken, length-rows}
use Rattle.linemap.proofs.writing.put_rows.Goals as goal

pub loop-i-init : goal.loop-i-init
unfolding each
loop-i-init c = sym (put-none _ 0)

pub loop-i-preserved : goal.loop-i-preserved
unfolding row_bytes
loop-i-preserved c =
    let a = c.args in
    let i = c.loop-i.i in
    let width = c.row_length-width.result * i in
    let f = row_bytes a.m.classes a.m.counts a.m.neighbours in
    let row = ap (λ (l : List ℕ). put c.loop-i.buf width (l ++ bytes 8 (slice_index a.m.neighbours i)))
    (counts_taken a.m.classes a.m.counts i (search rules)) in
    lay a.buf.now 0 (each f i) (f i) width c.loop-i.invariant (c.put_row.ensures ∙ row)
    (omega (arith, ap (λ (w : ℕ). w * i) c.row_length-width.ensures.0, length-rows a.m i))
    ∙ ap (put a.buf.now 0) (sym (each_more f i))
