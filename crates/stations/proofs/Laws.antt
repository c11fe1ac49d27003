-- What the form of a net's stations says of k and of each of them, also after one is replaced, and each fresh station below k: the
-- definitions, place by place.
-- Assumes nothing.
use mathlib.Core.Path.{◌≡◌, sym, ◌∙◌, ap}
use mathlib.Core.Bool.{true, cond}
use mathlib.Core.List.{List}
use Prim.Native.Nat.{ℕ, ◌+◌, ◌*◌, ◌≤◌, ◌<◌}
use native.Mathlib.Omega.{arith}
use lib.ListN.{length, get_or, set}
use lib.Seq.{set_out, get_or-set_same, get_or-set_other}
use lib.Dec.{eqb, ltb}
use borrow.Author.Tests.{lt-ltb, ltb-true, ltb-false}
use Rattle.finite.specs.Below.{all_below}
use Rattle.finite.proofs.Cases.{by_bool, and_both}
use Rattle.finite.proofs.Below.{all_below-at, all_below-one, get_d_tabulate}
use Rattle.bitset.specs.Set.{size}
use Rattle.aggregate.specs.declared.Config.{Config}
use Rattle.aggregate.specs.Aggregate.{root_of, valid, used, bounded, gathered}
use Rattle.station.specs.declared.Station.{Station}
use Rattle.station.specs.Events.{asleep, active}
use Rattle.station.specs.Form.{well_formed}
use Rattle.station.proofs.Formed.{facts}
use Rattle.stations.specs.Stations.{no_station, station_at, are_well_formed, reading_at, fresh_station, fresh_stations}

module _ (t : Config) (stations : List Station) (h : are_well_formed t stations ≡ true) where
  parts : (valid t ≡ true) × (all_below t.k (λ i. well_formed t i (station_at stations i)) ≡ true)
  unfolding are_well_formed
  parts = and_both (valid t) (all_below t.k (λ i. well_formed t i (station_at stations i))) h

  -- "k 1 to 64"; `valid-k` and `root_below` of aggregate's Laws say what that means
  pub config_valid : valid t ≡ true
  config_valid = parts.0

  -- each station below k is well-formed; `facts` of station's Formed says what that means
  pub well_formed-at : (i : ℕ) → i < t.k → well_formed t i (station_at stations i) ≡ true
  well_formed-at i l = all_below-at (λ i. well_formed t i (station_at stations i)) t.k i parts.1 l

  pub held-bounded-at : (i : ℕ) → i < t.k → bounded t (station_at stations i).held ≡ true
  held-bounded-at i l = (facts t i (station_at stations i) (well_formed-at i l)).held-bounded

  -- A station replaced, where the list has its place and where it has not: the form is the new station's, or, where only what it holds can
  -- break that, what the place holds.
  module _ (i : ℕ) (s : Station) (l : i < t.k) where
    replaced_formed : i < length stations → are_well_formed t (set stations i s) ≡ well_formed t i s
    unfolding are_well_formed
    replaced_formed m =
        rw config_valid
        (all_below-one (λ x. well_formed t x (station_at (set stations i s) x)) t.k i l
        (λ x h n. ap (well_formed t x) (get_or-set_other stations i x s no_station n) ∙ well_formed-at x h)
        ∙ ap (well_formed t i) (get_or-set_same stations i s no_station m))

    pub replaced_kept : well_formed t i s ≡ true → are_well_formed t (set stations i s) ≡ true
    replaced_kept f =
        by_bool (ltb i (length stations))
        (λ m. replaced_formed (ltb-true i (length stations) m) ∙ f)
        (λ m. ap (are_well_formed t) (set_out stations i s (ltb-false i (length stations) m)) ∙ h)

    pub replaced_bounded : well_formed t i s ≡ bounded t s.held → are_well_formed t (set stations i s) ≡ bounded t (station_at (set stations i s) i).held
    replaced_bounded f =
        by_bool (ltb i (length stations))
        (λ m. let inside = ltb-true i (length stations) m in
        replaced_formed inside ∙ f ∙ ap (λ (x : Station). bounded t x.held) (sym (get_or-set_same stations i s no_station inside)))
        (λ m. let same = set_out stations i s (ltb-false i (length stations) m) in
        ap (are_well_formed t) same ∙ h ∙ sym (ap (λ (x : List Station). bounded t (station_at x i).held) same ∙ held-bounded-at i l))

-- a count of a class in use
pub count_of : (t : Config) (counts : List ℕ) (i j : ℕ) → j < used t → get_or (reading_at t counts i).counts j 0 ≡ get_or counts (8 * i + j) 0
unfolding reading_at
count_of t counts i j l =
    get_d_tabulate (λ n. cond (ltb n (used t)) (get_or counts (8 * i + n) 0) 0) 8 j 0 (omega arith) ∙ rw (lt-ltb j (used t) l)

-- the fresh station of a place below k
pub fresh_at : (t : Config) (counts neighbours : List ℕ) (i : ℕ) → t.k ≤ 64 → i < t.k
    → station_at (fresh_stations t counts neighbours) i
    ≡ record {
      held = gathered t (reading_at t counts i);
      unstarted = get_or neighbours i 0;
      parent = root_of t;
      waits = size (get_or neighbours i 0);
      state = cond (eqb i (root_of t)) active asleep;
    }
unfolding fresh_stations fresh_station
fresh_at t counts neighbours i most below =
    get_d_tabulate (λ i. fresh_station t (reading_at t counts i) (get_or neighbours i 0) i) 64 i no_station (omega arith)
    ∙ rw (lt-ltb i t.k below)
