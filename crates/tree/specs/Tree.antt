-- The tree behind a total (document 02, request 6): "After the report, on any accepted map and in any order", "for both kinds of net". The
-- theorem is `tree` (proofs/Tree).
use Rattle.std.specs.Prelude.{◌≡◌, Bool, true, false, ◌&&◌, ◌↔◌, ℕ, ◌-◌, ◌<◌, ◌≤◌, eqb, replicate}
use mathlib.Core.List.{List, [], ◌∷◌, ◌++◌, map, flat_map}
use Rattle.finite.specs.Below.{tabulate}
use Rattle.finite.specs.Hops.{hop, leads}
use Rattle.aggregate.specs.declared.Cell.{Cell}
use Rattle.aggregate.specs.declared.Aggregate.{Aggregate}
use Rattle.aggregate.specs.Ways.{summing}
use Rattle.aggregate.specs.Aggregate.{cell}
use Rattle.station.specs.Events.{asleep}
use Rattle.topology.specs.Acceptance.{linked}
use Rattle.linemap.specs.declared.Map.{Map}
use Rattle.linemap.specs.Maps.{totals_of, totals}
use Rattle.schedule.specs.declared.Step.{Step}
use Rattle.schedule.specs.Calls.{Call, single, run}
use Rattle.rendezvous.specs.Net as meeting-net
use Rattle.rendezvous.specs.Figure.{answer}
use Rattle.mail.specs.declared.Message.TheVariants.{Start, Answer}
use Rattle.mail.specs.declared.Mailbox.{Mailbox}
use Rattle.mail.specs.declared.Mailbox.TheVariants.{Empty, Full}
use Rattle.mail.specs.Mail.{box_at, brought_at}
use Rattle.mailbox.specs.Rules.{delivery}
use Rattle.demand.specs.Kinds.{Kind, meeting, carrying, mailing, desk, made, left, reports}
use Rattle.demand.specs.Demand.{OnEveryMap, OnEveryWay}

-- what is sent up in a kind of net: whether a step made in a net carries an answer, and what that brings
pub record Answers (K : Kind) : Type 0 where
  pub is_answer : K.Net → Step → Bool
  pub brought : K.Net → Step → Aggregate

-- stations that meet: "3 answer", with what its sender holds
abbrev pub meeting_answers : (way : ℕ) → Answers (meeting way)
meeting_answers way =
    record { is_answer = λ net s. eqb s.kind answer; brought = λ net s. (meeting-net.station net s.sender).held }

-- the same where totals are carried back (document 02, request 8)
abbrev pub carrying_answers : (way : ℕ) → Answers (carrying way)
carrying_answers way = record { is_answer = (meeting_answers way).is_answer; brought = (meeting_answers way).brought }

-- "holding a start or an answer" (Stations with mail)
abbrev pub holds_answer : Mailbox → Bool
holds_answer Empty = false
holds_answer (Full Start) = false
holds_answer (Full Answer) = true

-- stations with mail: a delivery from a mailbox that holds an answer, with what was posted there
abbrev pub mailing_answers : (way : ℕ) → Answers (mailing way)
mailing_answers way =
    record {
      is_answer = λ net s. eqb s.kind delivery && holds_answer (box_at net.boxes s.sender s.receiver);
      brought = λ net s. brought_at net.config net.boxes s.sender s.receiver;
    }

-- the net after some steps on the fresh one, one by one
abbrev pub after : (K : Kind) → Map → List Step → K.Net
after K m steps = left K m (map single steps)

module _ (K : Kind) (m : Map) (calls : List Call) where
  -- "the parent records", in the net that the list leaves
  abbrev pub parent_of : ℕ → ℕ
  parent_of i = (K.station (left K m calls) i).parent

  -- station j is i itself, or one "whose parents lead through it"
  abbrev pub leads_through : ℕ → ℕ → Bool
  leads_through i j = leads parent_of (m.k - 1) j i

  -- "the total of its own count and those of all stations whose parents lead through it", in class c, "joined its way" (document 02, request 10)
  abbrev pub tree_totals : ℕ → ℕ → Cell
  tree_totals i c = totals_of K.way (leads_through i) m c

  -- what holds after the report
  pub record Behind (A : Answers K) : Type 0 where
    -- "each station but the desk has a neighbour as parent."
    pub neighbour : (i : ℕ) → i < m.k → (i ≡ desk m → ⊥) → linked m.k m.neighbours i (parent_of i) ≡ true
    -- "Following parents reaches the desk in at most k − 1 hops.", and it stays there
    pub reaches : (i : ℕ) → i < m.k → (h : ℕ) × (h ≤ m.k - 1) × (hop parent_of h i ≡ desk m)
    pub stays : parent_of (desk m) ≡ desk m
    -- so parents lead through i where any number of hops leads to it
    pub through : (i j : ℕ) → j < m.k → (leads_through i j ≡ true) ↔ ((h : ℕ) × (hop parent_of h j ≡ i))
    -- "The sum a station sent up is the total of its own count and those of all stations whose parents lead through it.": of each answer
    -- among the steps made, which went to the parent
    pub sent : (front back : List Step) (s : Step) → made K m calls ≡ front ++ (s ∷ back) → A.is_answer (after K m front) s ≡ true
        → (parent_of s.sender ≡ s.receiver)
        × ((c : ℕ) → c < m.classes → cell (A.brought (after K m front) s) c ≡ tree_totals s.sender c)
    -- each station but the desk sent one
    pub each_sent : (i : ℕ) → i < m.k → (i ≡ desk m → ⊥)
        → (front : List Step) × (s : Step) × (back : List Step) × (made K m calls ≡ front ++ (s ∷ back))
        × (A.is_answer (after K m front) s ≡ true) × (s.sender ≡ i)
    -- each station still holds it in the net that the list leaves
    pub held : (i c : ℕ) → i < m.k → c < m.classes → cell (K.station (left K m calls) i).held c ≡ tree_totals i c
    -- for the desk it is the total reported
    pub whole : (c : ℕ) → tree_totals (desk m) c ≡ totals K.way m c

-- what is claimed of a kind of net
pub record OfKind (K : Kind) (A : Answers K) : Type 0 where
  -- the first of the steps made are made as single steps too, and all of them lead to the net that the list leaves
  pub made_again : OnEveryMap (λ m calls. (front back : List Step) → made K m calls ≡ front ++ back → made K m (map single front) ≡ front)
  pub after-all : OnEveryMap (λ m calls. after K m (made K m calls) ≡ left K m calls)
  pub behind : OnEveryMap (λ m calls. reports K m calls ≡ 1 → Behind K m calls A)
  -- after waking a parent never changes: the parents of the last net are those of every net on the way
  pub parents_stay : OnEveryMap (λ m calls.
      (front back : List Step) → made K m calls ≡ front ++ back → (i : ℕ) → i < m.k → ((K.station (after K m front) i).state ≡ asleep → ⊥)
      → parent_of K m calls i ≡ (K.station (after K m front) i).parent)

-- with mail, what is posted waits: each answer that waits in a net on the way brings the same, and is for the parent
abbrev pub Posted : Type 0
Posted =
    OnEveryWay (λ way. let K = mailing way in OnEveryMap (λ m calls.
    reports K m calls ≡ 1 → (front back : List Step) → made K m calls ≡ front ++ back → (i j : ℕ) → i < m.k → j < m.k
    → let net = after K m front in
    box_at net.boxes i j ≡ Full Answer
    → (parent_of K m calls i ≡ j)
    × ((c : ℕ) → c < m.classes → cell (brought_at net.config net.boxes i j) c ≡ tree_totals K m calls i c)))

-- "counts 5, 7, 11; sets 6, 5, 3; lot 42" (The program)
abbrev pub triangle : Map
triangle =
    let counts = flat_map (λ (n : ℕ). n ∷ replicate 7 0) (5 ∷ 7 ∷ 11 ∷ []) in
    record { k = 3; classes = 1; desk = 0; lot = 42; counts = counts; neighbours = 6 ∷ 5 ∷ 3 ∷ [] }

-- the parents after a run of it
abbrev pub parents_after : Kind → List ℕ → List ℕ
parents_after K draws = tabulate 3 (parent_of K triangle (run draws ∷ []))

-- "any tree may arise" (Wrong turns): with draws 0, 1, 0, 0, 0, 0, 0 station 2, a neighbour of the desk, hangs on station 1, and with seven draws of 0 both
-- hang on the desk
pub record AnyTree (K : Kind) : Type 0 where
  pub chain : parents_after K (0 ∷ 1 ∷ replicate 5 0) ≡ 0 ∷ 0 ∷ 1 ∷ []
  pub star : parents_after K (replicate 7 0) ≡ 0 ∷ 0 ∷ 0 ∷ []

-- all of it
pub record Tree : Type 0 where
  pub stations_that_meet : OnEveryWay (λ way. OfKind (meeting way) (meeting_answers way))
  pub carrying-back : OnEveryWay (λ way. OfKind (carrying way) (carrying_answers way))
  pub stations_with_mail : OnEveryWay (λ way. OfKind (mailing way) (mailing_answers way))
  pub posted : Posted
  pub any_tree : AnyTree (meeting summing) × AnyTree (mailing summing)
