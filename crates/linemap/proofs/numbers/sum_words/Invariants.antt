-- `linemap::numbers::sum_words` meets its contract. Invariant: the sum of the first i words. Assumes nothing.
use Rattle.std.proofs.Common.{◌≡◌}
use Rattle.linemap.specs.Words.{sum_words}
use Rattle.linemap.proofs.numbers.sum_words.Given as goal

abbrev pub invariant-loop-i : goal.invariant-loop-i
invariant-loop-i l = l.sum ≡ sum_words l.s l.at l.i
