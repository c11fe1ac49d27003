-- `aggregate::from_words` meets its contract: what the words hold in every place, clipped. Assumes nothing.
use mathlib.Core.Path.{◌∙◌, ap}
use Rattle.aggregate.specs.Aggregate.{clipped, from_words}
use Rattle.aggregate.proofs.from_words.Goals as goal

pub returns : goal.returns
unfolding clipped from_words
returns c = c.clip.ensures ∙ ap (clipped c.args.t) c.of_words.ensures
