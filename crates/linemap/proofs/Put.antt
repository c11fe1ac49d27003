-- The laws of `put`, a run of stores: two runs one after the other, a run from the front. Assumes nothing.
use Rattle.std.proofs.Common.{◌≡◌, ℕ, ◌+◌, ◌≤◌, List, [], ◌++◌, length, drop, refl, ap, ◌∙◌, zero-add}
use lib.Seq.{sets-eq}
use Rattle.finite.proofs.Stores.{sets-sets}
use Rattle.linemap.specs.Internal.Stages.{put}

pub put-none : (l : List ℕ) (at : ℕ) → put l at [] ≡ l
unfolding put
put-none l at = refl

-- a run right after another, from what the two calls leave
pub lay : {b b' : List ℕ} (l : List ℕ) (at : ℕ) (vs ws : List ℕ) (n : ℕ)
    → b ≡ put l at vs → b' ≡ put b n ws → n ≡ at + length vs → b' ≡ put l at (vs ++ ws)
unfolding put
lay l at vs ws n first next e = next ∙ ap (λ (x : List ℕ). put x n ws) first ∙ rw e (sets-sets vs ws l at)

-- from the front: the run, and the rest of the list
pub put_front : (l vs : List ℕ) → length vs ≤ length l → put l 0 vs ≡ vs ++ drop (length vs) l
unfolding put
put_front l vs h = sets-eq vs l 0 (rw zero-add h) ∙ rw zero-add
