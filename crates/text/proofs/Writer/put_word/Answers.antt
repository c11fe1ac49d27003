-- `text::Writer::put_word` meets its contract: the word is copied to its place. Assumes nothing.
use mathlib.Core.Path.{refl}
use Rattle.finite.proofs.Stores.{put_copy}
use Rattle.text.proofs.Writer.put_word.Goals as goal

pub returns : goal.returns
returns c = record { same = refl; put = put_copy c.requires c.copy_from_slice.ensures.after }
