-- What the parts of a writer ask of it and leave.
use Rattle.std.specs.Prelude.{◌≡◌, List, ℕ}
use Rattle.finite.specs.Internal.Putting.{Room, Put}
use Rattle.text.specs.declared.Writer.{Writer}

-- the buffer has room for the bytes vs from the writer's place on
abbrev pub Fits : Writer → List ℕ → Type 0
Fits w vs = Room w.buf.now w.at vs

-- vs was put there, and the place is the one after it; the buffer is the same
pub record Puts (w : Writer) (vs : List ℕ) (w' : Writer) : Type 0 where
  pub same : w'.buf.ghost_name ≡ w.buf.ghost_name
  pub put : Put w.buf.now w.at vs w'.buf.now w'.at
