-- `aggregate::missing_word` meets its contract: the language's number of eight bytes is the definition's, and they come back. Assumes nothing.
use mathlib.Core.Path.{◌∙◌}
use Rattle.std.proofs.Common.{rules}
use Rattle.std.proofs.lemmas.Nat.{le_bytes_8}
use Rattle.aggregate.specs.Aggregate.{missing_word}
use Rattle.aggregate.proofs.WordBytes.{word_of-bytes, bytes_of-word}
use Rattle.aggregate.proofs.missing_word.Goals as goal

pub returns-clause-word : goal.returns-clause-word
unfolding missing_word
returns-clause-word c = c.from_le_bytes.ensures ∙ word_of-bytes c.args.a.missing

pub returns-clause-again : goal.returns-clause-again
returns-clause-again c =
    bytes_of-word c.from_le_bytes.result ∙ le_bytes_8 c.args.a.missing _ (search rules) (search rules) c.from_le_bytes.ensures
