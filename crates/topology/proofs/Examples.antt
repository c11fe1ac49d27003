-- Document 01's examples on acceptance ("Edges"), computed. Assumes nothing.
use mathlib.Core.Path.{◌≡◌, refl}
use mathlib.Core.List.{[], ◌∷◌}
use Rattle.finite.specs.Sum.{fold_to, indicator}
use Rattle.finite.specs.Links.{links}
use Rattle.bitset.specs.Set.{member, within}
use Rattle.topology.specs.Acceptance.{any_below, near, first_from, verdict_of, links_of}

-- "Set 1 for k = 1: 8"
itself : verdict_of 0 1 (1 ∷ []) ≡ 8 ∷ 0 ∷ []
unfolding verdict_of first_from member within
itself = refl

-- "Two empty sets: 10 with station 1"
apart : verdict_of 0 2 (0 ∷ 0 ∷ []) ≡ 10 ∷ 1 ∷ []
unfolding verdict_of first_from member within any_below near
apart = refl

-- "Sets 2 and 0: 9 with station 0"
one_way : verdict_of 0 2 (2 ∷ 0 ∷ []) ≡ 9 ∷ 0 ∷ []
unfolding verdict_of first_from member within any_below
one_way = refl

-- "Set 4 at station 0 of two: 7"
beyond : verdict_of 0 2 (4 ∷ 0 ∷ []) ≡ 7 ∷ 0 ∷ []
unfolding verdict_of first_from member within
beyond = refl

-- the triangle is accepted, with any of its stations for the root, and has 3 links
triangle : (verdict_of 0 3 (6 ∷ 5 ∷ 3 ∷ []) ≡ 0 ∷ []) × (verdict_of 2 3 (6 ∷ 5 ∷ 3 ∷ []) ≡ 0 ∷ [])
unfolding verdict_of first_from member within any_below near
triangle = (refl, refl)

triangle-links : links_of 0 3 (6 ∷ 5 ∷ 3 ∷ []) ≡ 0 ∷ 3 ∷ []
unfolding links_of verdict_of first_from member within any_below near links fold_to indicator
triangle-links = refl

-- "19 when the desk is not below k, after 3" (document 02, request 5): no station of three is station 3, whatever the sets, and none of none is
-- station 3
no_root : (verdict_of 3 3 (8 ∷ 5 ∷ 3 ∷ []) ≡ 19 ∷ []) × (verdict_of 3 0 [] ≡ 3 ∷ [])
unfolding verdict_of
no_root = (refl, refl)

-- chains lead to the root, wherever it is: station 2 has a link to nobody, so with the root at 1 it is apart, and with the root at 2 the others are
chains_lead : (verdict_of 1 3 (2 ∷ 1 ∷ 0 ∷ []) ≡ 10 ∷ 2 ∷ []) × (verdict_of 2 3 (2 ∷ 1 ∷ 0 ∷ []) ≡ 10 ∷ 0 ∷ [])
unfolding verdict_of first_from member within any_below near
chains_lead = (refl, refl)
