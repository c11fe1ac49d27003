-- `linemap::writing::put_counts` meets its contract. Invariant: the first j counts are laid one after the other. Assumes nothing.
use Rattle.std.proofs.Common.{◌≡◌, slice_index}
use Rattle.finite.specs.Below.{each}
use Rattle.finite.specs.Numbers.{bytes}
use Rattle.linemap.specs.Internal.Stages.{put}
use Rattle.linemap.proofs.writing.put_counts.Given as goal

abbrev pub invariant-loop-j : goal.invariant-loop-j
invariant-loop-j l = l.buf ≡ put l.initial.buf l.at (each (λ j. bytes 4 (slice_index l.counts j)) l.j)
