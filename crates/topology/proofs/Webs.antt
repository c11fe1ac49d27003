-- Acceptance both ways: `verdict_of` accepts exactly the webs, and a web is a graph with its root. Each rule that is passed says
-- that nobody offends. Assumes nothing.
use mathlib.Core.Path.{◌≡◌, refl, sym, ap, ◌∙◌}
use mathlib.Core.Bool.{Bool, true, false, not, ◌&&◌}
use mathlib.Core.List.{List}
use Prim.Native.Nat.{ℕ, zero, suc, ◌^◌, ◌<◌}
use native.Mathlib.Nat.{pow-suc}
use native.Mathlib.Omega.{arith}
use lib.ListN.{get_or}
use lib.Dec.{ltb, leb}
use borrow.Author.Tests.{ltb-true, leb-true, lt-ltb, le-leb, not-false}
use Rattle.finite.proofs.Cases.{clash, by_bool, and_both}
use Rattle.wave.specs.Internal.Graph.{Graph}
use Rattle.bitset.specs.Set.{member, within, is_station_count}
use Rattle.bitset.proofs.Laws.{within-member, within_members}
use Rattle.topology.specs.Answer.{accepted, is_accepted}
use Rattle.finite.specs.Tests.{unless}
use Rattle.topology.specs.Acceptance.{fault_numbers, linked, names_beyond, names_itself, names_one_sided, is_apart, lowest, verdict_of}
use Rattle.topology.specs.Web.{Web, AcceptedWebs}
use Rattle.topology.specs.declared.Fault.{Fault}
use Rattle.topology.specs.declared.Fault.TheVariants.{Stations, Desk, Beyond, Itself, OneWay, Apart}
use Rattle.topology.proofs.Answers.{fault_refuses}
use Rattle.topology.proofs.Searches.{any_of, any_none, lowest-none, none-lowest}
use Rattle.topology.proofs.Chains.{chain_map, chain_end, near_chain, chain_near}

below_power : (n : ℕ) → n < 2 ^ n
below_power zero = omega arith
below_power (suc n) = omega (arith, below_power n, pow-suc 2 n)

-- what is accepted passed the first test, and the rest accepts it
pub passed : (b : Bool) (f : Fault) (rest : List ℕ) → is_accepted (unless b (fault_numbers f) rest) ≡ true
    → (b ≡ true) × (is_accepted rest ≡ true)
passed true f rest e = (refl, e)
passed false f rest e = clash e (fault_refuses f)

module _ (root k : ℕ) (sets : List ℕ) where
  nobody : (offends : ℕ → Bool) → leb k (lowest k offends) ≡ true → (i : ℕ) → i < k → offends i ≡ false
  nobody offends e = lowest-none k offends (leb-true k (lowest k offends) e)

  pub accepted_web : is_accepted (verdict_of root k sets) ≡ true → Web root k sets
  unfolding verdict_of
  accepted_web e =
      let counted = passed (is_station_count k) Stations _ e in
      let desk = passed (ltb root k) Desk _ counted.1 in
      let beyond = passed (leb k (lowest k (names_beyond k sets))) (Beyond _) _ desk.1 in
      let itself = passed (leb k (lowest k (names_itself sets))) (Itself _) _ beyond.1 in
      let one_way = passed (leb k (lowest k (names_one_sided k sets))) (OneWay _) _ itself.1 in
      let apart = passed (leb k (lowest k (is_apart root k sets))) (Apart _) _ one_way.1 in
      let both = and_both (ltb 0 k) (leb k 64) counted.0 in
      record {
        some-station = ltb-true 0 k both.0;
        few_stations = leb-true k 64 both.1;
        named-below = λ i j l e. within-member k j (get_or sets i 0) (not-false _ (nobody (names_beyond k sets) beyond.0 i l)) e;
        not_itself = nobody (names_itself sets) itself.0;
        named_back = λ i j l m e.
            by_bool (member i (get_or sets j 0)) (λ t. t)
            (λ f. clash
            (any_of k (λ x. member x (get_or sets i 0) && not (member i (get_or sets x 0))) j m (rw (e, f)))
            (nobody (names_one_sided k sets) one_way.0 i l));
        joined = λ i l. near_chain (linked k sets) root k k i (not-false _ (nobody (is_apart root k sets) apart.0 i l));
      }

  module _ (web : Web root k sets) where
    pub ends : (i j : ℕ) → linked k sets i j ≡ true → (i < k) × (j < k)
    ends i j e =
        let b = and_both (ltb i k) (member j (get_or sets i 0)) e in
        let l = ltb-true i k b.0 in
        (l, web.named-below i j l b.1)

    pub linked-back : (i j : ℕ) → linked k sets i j ≡ true → linked k sets j i ≡ true
    linked-back i j e =
        let w = ends i j e in
        let b = and_both (ltb i k) (member j (get_or sets i 0)) e in
        rw (lt-ltb j k w.1, web.named_back i j w.0 w.1 b.1)

    pub not-linked : (i : ℕ) → linked k sets i i ≡ false
    not-linked i =
        by_bool (linked k sets i i)
        (λ t. let b = and_both (ltb i k) (member i (get_or sets i 0)) t in clash b.1 (web.not_itself i (ltb-true i k b.0)))
        (λ f. f)

    -- its sets have members below k alone
    pub web_within : (i : ℕ) → i < k → within k (get_or sets i 0) ≡ true
    web_within i l = within_members (get_or sets i 0) k (get_or sets i 0) (below_power (get_or sets i 0)) (λ j e. web.named-below i j l e)

    -- it has stations, and not too many
    pub web_count : is_station_count k ≡ true
    web_count = rw (lt-ltb 0 k web.some-station, le-leb k 64 web.few_stations)

    -- its root is one of its stations: a chain from a station ends there
    pub web_root : root < k
    web_root = chain_end (linked k sets) root k (λ i j e. (ends i j e).1) 0 web.some-station (web.joined 0 web.some-station)

    -- a web is a graph
    abbrev pub graph : Graph
    graph =
        record {
          size = k;
          root = root;
          adj = linked k sets;
          within = ends;
          mutual_adj = linked-back;
          no_loop = not-linked;
          root_in = web_root;
          joined = web.joined;
        }

    -- a web is accepted
    pub web_accepted : verdict_of root k sets ≡ accepted
    unfolding verdict_of
    web_accepted =
        let beyond = none-lowest k (names_beyond k sets) (λ i l. ap not (web_within i l)) in
        let itself = none-lowest k (names_itself sets) web.not_itself in
        let one_way = none-lowest k (names_one_sided k sets)
        (λ i l. any_none k (λ j. member j (get_or sets i 0) && not (member i (get_or sets j 0)))
        (λ j m. by_bool (member j (get_or sets i 0)) (λ t. rw (t, web.named_back i j l m t)) (λ f. rw f))) in
        let apart = none-lowest k (is_apart root k sets)
        (λ i l. ap not (chain_near (linked k sets) root k (λ a b e. (ends a b e).1) i l (web.joined i l))) in
        rw (
          web_count,
          lt-ltb root k web_root,
          le-leb k (lowest k (names_beyond k sets)) beyond,
          le-leb k (lowest k (names_itself sets)) itself,
          le-leb k (lowest k (names_one_sided k sets)) one_way,
          le-leb k (lowest k (is_apart root k sets)) apart,
        )

-- accepted are just the webs
pub accepted_webs : AcceptedWebs
accepted_webs root k sets = ((λ e. accepted_web root k sets (ap is_accepted e)), web_accepted root k sets)

-- a web asks only of the sets of stations below k
pub web_agree : (root k : ℕ) (a b : List ℕ) → ((i : ℕ) → i < k → get_or a i 0 ≡ get_or b i 0) → Web root k a → Web root k b
web_agree root k a b same web =
    record {
      some-station = web.some-station;
      few_stations = web.few_stations;
      named-below = λ i j l e. web.named-below i j l (ap (member j) (same i l) ∙ e);
      not_itself = λ i l. ap (member i) (sym (same i l)) ∙ web.not_itself i l;
      named_back = λ i j l m e. ap (member i) (sym (same j m)) ∙ web.named_back i j l m (ap (member j) (same i l) ∙ e);
      joined = λ i l. chain_map (linked k a) (linked k b) keep root i (web.joined i l);
    }
  where
    keep : (i j : ℕ) → linked k a i j ≡ true → linked k b i j ≡ true
    keep i j e =
        let p = and_both (ltb i k) (member j (get_or a i 0)) e in
        rw p.0 (ap (member j) (sym (same i (ltb-true i k p.0))) ∙ p.1)
