-- Following parents (document 02, request 6): from a station to its parent, to that one's parent, and on.
use Rattle.std.specs.Prelude.{Bool, ◌||◌, ℕ, zero, suc, eqb}

-- "Following parents": where h hops lead from j
unfoldable pub hop : (ℕ → ℕ) → ℕ → ℕ → ℕ
hop parent zero j = j
hop parent (suc h) j = hop parent h (parent j)

-- "whose parents lead through it": j is i, or at most n hops lead from j to i
unfoldable pub leads : (ℕ → ℕ) → ℕ → ℕ → ℕ → Bool
leads parent zero j i = eqb j i
leads parent (suc n) j i = eqb j i || leads parent n (parent j) i
