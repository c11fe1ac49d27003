-- What the parts of the code compute.
use Rattle.std.specs.Prelude.{Bool, not, ◌||◌, List, ℕ, get_or, eqb, leb, ⊤, Result, Ok, Err}
use Rattle.finite.specs.Tests.{unless}
use Rattle.std.specs.Int.Bits.{bit_and}
use Rattle.finite.specs.Sum.{indicator}
use Rattle.finite.specs.Internal.Monoid.{addition, sum_to}
use Rattle.bitset.specs.Set.{member}
use Rattle.bitset.specs.Internal.Selected.{set_of}
use Rattle.topology.specs.Acceptance.{linked, near, lowest}
use Rattle.topology.specs.declared.Fault.{Fault}

-- a rule over all stations: the cause, from the lowest that breaks it
abbrev pub judged_all : ℕ → (ℕ → Bool) → (ℕ → Fault) → Result ⊤ Fault
judged_all k breaks cause = unless (leb k (lowest k breaks)) (Err (cause (lowest k breaks))) (Ok tt)

-- station i is the root, or its set has a member that is reached
abbrev pub near_by : ℕ → ℕ → ℕ → ℕ → Bool
near_by root set reached i = eqb i root || not (eqb (bit_and reached set) 0)

-- the root, and the stations with a neighbour that is reached
abbrev pub round_of : ℕ → ℕ → List ℕ → ℕ → ℕ
round_of root k sets reached = set_of k (λ i. near_by root (get_or sets i 0) reached i)

-- the stations that a chain of links joins to the root
abbrev pub reached_of : ℕ → ℕ → List ℕ → ℕ
reached_of root k sets = set_of k (near (linked k sets) root k k)

-- how many stations below i are in the set
abbrev pub count_below : ℕ → ℕ → ℕ
count_below i set = sum_to addition i (λ j. indicator (member j set))
