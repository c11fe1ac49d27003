-- `linemap::writing::check_word` meets its contract: a word taken from zero, with wrap. Assumes nothing.
use Rattle.std.proofs.Common.{arith}
use Rattle.linemap.specs.Stored.{check_word}
use Rattle.linemap.proofs.writing.check_word.Goals as goal

pub returns : goal.returns
unfolding check_word
returns c = omega arith
