-- `linemap::numbers::sum_words` meets its contract. Invariant: the sum of the first i words. Assumes nothing.
use Rattle.std.proofs.Common.{add-one, rules}
use Rattle.linemap.specs.Words.{sum_words}
use Rattle.linemap.proofs.numbers.sum_words.Goals as goal

pub loop-i-init : goal.loop-i-init
unfolding sum_words
loop-i-init c = search rules

pub loop-i-preserved : goal.loop-i-preserved
unfolding sum_words
loop-i-preserved c = rw add-one (cc)
