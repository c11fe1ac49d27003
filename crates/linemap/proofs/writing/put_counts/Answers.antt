-- `linemap::writing::put_counts` meets its contract. Invariant: the first j counts are laid one after the other. Assumes nothing.
use Rattle.std.proofs.Common.{ℕ, ◌≡◌, ◌+◌, ◌*◌, List, length, slice_index, sym, ap, ◌∙◌, arith}
use Rattle.finite.specs.Below.{each}
use Rattle.finite.specs.Numbers.{bytes}
use Rattle.finite.proofs.Digits.{length-bytes}
use Rattle.linemap.specs.Internal.Stages.{put, bytes_of_counts}
use Rattle.linemap.proofs.Each.{length-each, each_more}
use Rattle.linemap.proofs.Put.{lay, put-none}
use Rattle.linemap.proofs.writing.put_counts.Goals as goal

pub loop-j-init : goal.loop-j-init
unfolding each
loop-j-init c = sym (put-none _ _)

pub loop-j-preserved : goal.loop-j-preserved
loop-j-preserved c =
    let a = c.args in
    let j = c.loop-j.j in
    let f : ℕ → List ℕ = λ j. bytes 4 (slice_index a.counts.now j) in
    lay a.buf.now a.at (each f j) (f j) (a.at + 4 * j) c.loop-j.invariant c.put.ensures
    (omega (arith, length-each f 4 j (λ i l. length-bytes 4 _)))
    ∙ ap (put a.buf.now a.at) (sym (each_more f j))

pub returns : goal.returns
unfolding bytes_of_counts
returns c =
    let all : length c.args.counts.now ≡ c.loop-j.j = omega arith in
    rw all c.loop-j.invariant
