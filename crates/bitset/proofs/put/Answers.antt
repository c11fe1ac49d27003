-- `bitset::put` meets its contract: call by call. Assumes nothing.
use Rattle.bitset.specs.Set.{put}
use Rattle.bitset.proofs.put.Goals as goal

pub returns : goal.returns
unfolding put
returns c = rw (c.union.ensures, c.bit_if.ensures, c.without.ensures)
