-- What a well-formed net and a step in range say of its two stations: they have places, and their sums may be joined. Assumes nothing.
use mathlib.Core.Path.{◌≡◌, refl, sym, ap, ◌∙◌}
use mathlib.Core.Bool.{Bool, true, false, ◌&&◌, cond}
use mathlib.Core.List.{List, map}
use Prim.Native.Nat.{ℕ, ◌≤◌, ◌<◌}
use native.Mathlib.Omega.{arith}
use lib.ListN.{get_or-map}
use lib.Dec.{eqb}
use borrow.Author.Tests.{eqb-true, ne_eqb}
use Rattle.finite.specs.Below.{all_below}
use Rattle.finite.proofs.Cases.{clash, by_bool, and_both, eqb_self}
use Rattle.finite.proofs.Below.{all_below-at}
use Rattle.aggregate.specs.Aggregate.{root_of, valid, bounded, joinable}
use Rattle.aggregate.proofs.Laws.{valid-k, root_below}
use Rattle.station.specs.declared.Station.{Station}
use Rattle.station.specs.Form as form
use Rattle.station.proofs.Formed.{facts}
use Rattle.schedule.specs.declared.Step.{Step}
use Rattle.schedule.specs.Rules.{in_range}
use Rattle.schedule.proofs.Listing.{range_bounds}
use Rattle.stations.specs.Stations.{no_station, station_at, are_well_formed}
use Rattle.stations.proofs.Laws.{config_valid, well_formed-at, held-bounded-at}
use Rattle.rendezvous.specs.Net.{Net, carries, station, kept_at, told, settled, told_well, carrying_well, well_formed}
use Rattle.rendezvous.specs.Rules.{rules}
use Rattle.rendezvous.proofs.Settled.{settled_untold}

-- the form with carrying back, and without
pub formed_back : (net : Net) → carries net ≡ true → well_formed net ≡ carrying_well net
unfolding well_formed
formed_back net b = rw b

pub formed_flat : (net : Net) → net.carrying ≡ 0 → well_formed net ≡ are_well_formed net.config net.stations
unfolding well_formed
formed_flat net e = rw e

-- the parts of the form of a net that carries back
pub back_parts : (net : Net) → carrying_well net ≡ true
    → (are_well_formed net.config (map settled net.stations) ≡ true)
    × (all_below net.config.k (λ i. told_well net.config i (station net i) && bounded net.config (kept_at net i)) ≡ true)
unfolding carrying_well
back_parts net f = and_both (are_well_formed net.config (map settled net.stations)) _ f

module _ (net : Net) (f : well_formed net ≡ true) where
  -- a flag that is not 1 is 0
  pub flag_zero : carries net ≡ false → net.carrying ≡ 0
  unfolding well_formed
  flag_zero b =
      eqb-true net.carrying 0
      (and_both (eqb net.carrying 0) (are_well_formed net.config net.stations)
      (sym (ap (λ (x : Bool). cond x (carrying_well net) (eqb net.carrying 0 && are_well_formed net.config net.stations)) b) ∙ f)).0

  -- the stations, told ones taken as finished, are in form
  abbrev settled_all : List Station
  settled_all = cond (carries net) (map settled net.stations) net.stations

  all_formed : are_well_formed net.config settled_all ≡ true
  all_formed =
      by_bool (carries net)
      (λ b. rw b (back_parts net (sym (formed_back net b) ∙ f)).0)
      (λ b. rw b (sym (formed_flat net (flag_zero b)) ∙ f))

  held_as : (i : ℕ) → (station_at settled_all i).held ≡ (station net i).held
  held_as i = by_bool (carries net) (λ b. rw b (ap (λ (s : Station). s.held) (get_or-map settled net.stations i no_station))) (λ b. rw b)

  -- a station that is not told is in form by itself
  pub formed_at : (i : ℕ) → i < net.config.k → eqb (station net i).state told ≡ false → form.well_formed net.config i (station net i) ≡ true
  formed_at i l u =
      let plainly : station_at settled_all i ≡ station net i =
      by_bool (carries net) (λ b. rw b (get_or-map settled net.stations i no_station ∙ settled_untold (station net i) u)) (λ b. rw b) in
      ap (form.well_formed net.config i) (sym plainly) ∙ well_formed-at net.config settled_all all_formed i l

  pub form_valid : valid net.config ≡ true
  form_valid = config_valid net.config settled_all all_formed

  pub k_most : net.config.k ≤ 64
  k_most = (valid-k net.config form_valid).1

  pub root_most : root_of net.config < 64
  root_most = omega (arith, k_most, root_below net.config form_valid)

  pub held-bounded : (i : ℕ) → i < net.config.k → bounded net.config (station net i).held ≡ true
  held-bounded i l = ap (bounded net.config) (sym (held_as i)) ∙ held-bounded-at net.config settled_all all_formed i l

  -- the root is not told
  pub root_untold : eqb (station net (root_of net.config)).state told ≡ false
  unfolding told_well
  root_untold =
      let root = root_of net.config in
      let low = root_below net.config form_valid in
      by_bool (carries net)
      (λ b.
      let test = (and_both (told_well net.config root (station net root)) (bounded net.config (kept_at net root))
      (all_below-at (λ i. told_well net.config i (station net i) && bounded net.config (kept_at net i)) net.config.k root
      (back_parts net (sym (formed_back net b) ∙ f)).1 low)).0 in
      by_bool (eqb (station net root).state told) (λ q. clash (rw (q, eqb_self root) at test) refl) (λ q. q))
      (λ b.
      let flat = sym (formed_flat net (flag_zero b)) ∙ f in
      let w = facts net.config root (station net root) (well_formed-at net.config net.stations flat root low) in
      ne_eqb (station net root).state told (λ e. omega (arith, w.state-le, e)))

  module _ (s : Step) (r : in_range rules net s ≡ true) where
    pub places : (s.sender < 64) × (s.receiver < 64)
    places = let b = range_bounds rules net s r in omega (arith, b.sender-low, b.receiver-low, k_most)

    pub sums-joinable : joinable net.config (station net s.receiver).held (station net s.sender).held ≡ true
    sums-joinable =
        let b = range_bounds rules net s r in
        rw (held-bounded s.receiver b.receiver-low, held-bounded s.sender b.sender-low)
