-- What acceptance says, as facts (document 01, "The line map", third paragraph). The theorem is `accepted_webs` (proofs/Webs).
use Rattle.std.specs.Prelude.{◌≡◌, true, false, List, ◌↔◌, ℕ, ◌<◌, ◌≤◌, get_or}
use Rattle.finite.specs.Links.{Chain}
use Rattle.bitset.specs.Set.{member}
use Rattle.topology.specs.Answer.{accepted}
use Rattle.topology.specs.Acceptance.{linked, verdict_of}

-- "no set names a station of k or more, no station names itself, naming is mutual, and every station is joined to the desk by a chain of links"
pub record Web (root k : ℕ) (sets : List ℕ) : Type 0 where
  pub some-station : 0 < k
  pub few_stations : k ≤ 64
  pub named-below : (i j : ℕ) → i < k → member j (get_or sets i 0) ≡ true → j < k
  pub not_itself : (i : ℕ) → i < k → member i (get_or sets i 0) ≡ false
  pub named_back : (i j : ℕ) → i < k → j < k → member j (get_or sets i 0) ≡ true → member i (get_or sets j 0) ≡ true
  pub joined : (i : ℕ) → i < k → Chain (linked k sets) root i

-- "A map is accepted if" these hold, and only then
abbrev pub AcceptedWebs : Type 0
AcceptedWebs = (root k : ℕ) (sets : List ℕ) → (verdict_of root k sets ≡ accepted) ↔ Web root k sets
