-- When a line map is accepted (document 01, "The line map", third paragraph). `sets` are the neighbours of the k stations; the root
-- (01: the desk) is any station.
use Rattle.std.specs.Prelude.{Bool, false, not, ◌&&◌, ◌||◌, cond, List, [], ◌∷◌, ℕ, zero, suc, get_or, eqb, ltb, leb, ⊤, Result, Ok, Err}
use Rattle.finite.specs.Links.{links}
use Rattle.bitset.specs.Set.{is_station_count, member, within}
use Rattle.topology.specs.Answer.{accepted, is_accepted}
use Rattle.finite.specs.Tests.{unless}
use Rattle.topology.specs.declared.Fault.{Fault}
use Rattle.topology.specs.declared.Fault.TheVariants.{Classes, Stations, Desk, Beyond, Itself, OneWay, Apart}

-- "Causes and numbers": the number of each refusal, with the station where one is returned; "A map handed over with c not 1 to 8 gets 2"
-- (document 02, request 2), "19 when the desk is not below k" (request 5). `verdict_pins` and `links_pins` (proofs/Answers) say that the
-- numbers tell the answers apart.
abbrev pub fault_numbers : Fault → List ℕ
fault_numbers Classes = 2 ∷ []
fault_numbers Stations = 3 ∷ []
fault_numbers Desk = 19 ∷ []
fault_numbers (Beyond i) = 7 ∷ i ∷ []
fault_numbers (Itself i) = 8 ∷ i ∷ []
fault_numbers (OneWay i) = 9 ∷ i ∷ []
fault_numbers (Apart i) = 10 ∷ i ∷ []

-- 0 where the map is accepted
abbrev pub verdict_numbers : Result ⊤ Fault → List ℕ
verdict_numbers (Ok done) = accepted
verdict_numbers (Err fault) = fault_numbers fault

-- 0 with m where the map is accepted
abbrev pub links_numbers : Result ℕ Fault → List ℕ
links_numbers (Ok m) = 0 ∷ m ∷ []
links_numbers (Err fault) = fault_numbers fault

-- "a set of neighbours": station i has a link to j
abbrev pub linked : ℕ → List ℕ → ℕ → ℕ → Bool
linked k sets i j = ltb i k && member j (get_or sets i 0)

-- some station below k passes the test
unfoldable pub any_below : ℕ → (ℕ → Bool) → Bool
any_below zero test = false
any_below (suc k) test = any_below k test || test k

-- "no set names a station of k or more": station i breaks this rule
abbrev pub names_beyond : ℕ → List ℕ → ℕ → Bool
names_beyond k sets i = not (within k (get_or sets i 0))

-- "no station names itself"
abbrev pub names_itself : List ℕ → ℕ → Bool
names_itself sets i = member i (get_or sets i 0)

-- "naming is mutual": station i is the namer
abbrev pub names_one_sided : ℕ → List ℕ → ℕ → Bool
names_one_sided k sets i = any_below k (λ j. member j (get_or sets i 0) && not (member i (get_or sets j 0)))

-- fewer than t links join station i to the root: it is the root, or has a link to a station that fewer than t − 1 links join
unfoldable pub near : (ℕ → ℕ → Bool) → ℕ → ℕ → ℕ → ℕ → Bool
near adj root k zero i = false
near adj root k (suc t) i = eqb i root || any_below k (λ j. near adj root k t j && adj i j)

-- "every station is joined to the desk by a chain of links". Fewer than k links are enough: `near_chain` and `chain_near`
-- (proofs/Chains) say that `near` at k is `Chain`.
abbrev pub is_apart : ℕ → ℕ → List ℕ → ℕ → Bool
is_apart root k sets i = not (near (linked k sets) root k k i)

-- the first of i, i + 1, .., i + n − 1 that passes the test, and i + n where none does
unfoldable pub first_from : (ℕ → Bool) → ℕ → ℕ → ℕ
first_from test i zero = i
first_from test i (suc n) = cond (test i) i (first_from test (suc i) n)

-- "each over all stations; the lowest offender is given"; k where there is none
abbrev pub lowest : ℕ → (ℕ → Bool) → ℕ
lowest k offends = first_from offends 0 k

-- a rule over all stations, then the rest
abbrev pub over_all : ℕ → (ℕ → Bool) → (ℕ → Fault) → List ℕ → List ℕ
over_all k offends fault rest = unless (leb k (lowest k offends)) (fault_numbers (fault (lowest k offends))) rest

-- "Rules are tested in that order"; 19 "after 3" (document 02, request 5)
unfoldable pub verdict_of : ℕ → ℕ → List ℕ → List ℕ
verdict_of root k sets =
    unless (is_station_count k) (fault_numbers Stations)
    (unless (ltb root k) (fault_numbers Desk)
    (over_all k (names_beyond k sets) Beyond
    (over_all k (names_itself sets) Itself
    (over_all k (names_one_sided k sets) OneWay
    (over_all k (is_apart root k sets) Apart accepted)))))

-- "A link is an unordered pair; m counts them": m of an accepted map
unfoldable pub links_of : ℕ → ℕ → List ℕ → List ℕ
links_of root k sets =
    unless (is_accepted (verdict_of root k sets)) (verdict_of root k sets) (links_numbers (Ok (links k (linked k sets))))
