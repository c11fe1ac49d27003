-- What a function that fills a lent buffer asks of it, and leaves.
use Rattle.std.specs.Prelude.{◌≡◌, List, ℕ, ◌+◌, ◌≤◌, length}
use Rattle.std.proofs.lemmas.List.Edits.{sets}

-- there is room for the bytes vs in l from `at`
pub record Room (l : List ℕ) (at : ℕ) (vs : List ℕ) : Type 0 where
  pub fits : at + length vs ≤ length l

-- vs was stored into l from `at` on, which gave l', and r is the place after it
pub record Put (l : List ℕ) (at : ℕ) (vs l' : List ℕ) (r : ℕ) : Type 0 where
  pub bytes : l' ≡ sets l at vs
  pub end : r ≡ at + length vs
