-- `linemap::writing::put_row` meets its contract: the counts, and the set right after them. Assumes nothing.
use Rattle.std.proofs.Common.{ℕ, ◌+◌, ◌*◌, length, sym, ap}
use Rattle.finite.specs.Numbers.{bytes}
use Rattle.linemap.specs.Internal.Stages.{bytes_of_counts}
use Rattle.linemap.proofs.Put.{lay}
use Rattle.linemap.proofs.StoredForm.{length-bytes_of_counts}
use Rattle.linemap.proofs.writing.put_row.Goals as goal

pub returns : goal.returns
returns c =
    let a = c.args in
    lay a.buf.now a.at (bytes_of_counts a.counts.now) (bytes 8 a.set) (a.at + 4 * length a.counts.now)
    c.put_counts.ensures c.put.ensures
    (ap (λ (n : ℕ). a.at + n) (sym (length-bytes_of_counts a.counts.now)))
