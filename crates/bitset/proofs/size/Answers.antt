-- `bitset::size` meets its contract: a word has 64 bits, and as many members as ones. Assumes nothing.
use Rattle.bitset.specs.Set.{size}
use Rattle.bitset.proofs.Bits.{ones_count}
use Rattle.bitset.proofs.size.Goals as goal

pub returns : goal.returns
unfolding size
returns c = ones_count 64 c.args.set c.ranges.set.fits
