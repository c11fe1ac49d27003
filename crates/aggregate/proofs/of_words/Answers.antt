-- `aggregate::of_words` meets its contract: the language's bytes of the word are the definition's. Assumes nothing.
use mathlib.Core.Path.{sym, ap, ◌∙◌}
use mathlib.Core.List.{List}
use Prim.Native.Nat.{ℕ}
use Rattle.aggregate.proofs.WordBytes.{bytes_of-word}
use Rattle.aggregate.proofs.of_words.Goals as goal

pub returns : goal.returns
returns c = ap (λ (m : List ℕ). record { sums = c.args.sums; missing = m }) (c.to_le_bytes.ensures ∙ sym (bytes_of-word c.args.word))
