-- The parts of a net's words pin them: words of 64 bits that hold the same net, and the same beside it, are the same. Assumes nothing.
use mathlib.Core.Path.{◌≡◌, sym, ap, ap₂, ◌∙◌}
use mathlib.Core.List.{List}
use Prim.Native.Nat.{ℕ, suc, ◌+◌, ◌*◌, ◌-◌, ◌/◌, ◌%◌, ◌^◌, ◌<◌}
use native.Mathlib.Nat.{div-one, div-div-eq-div-mul, div-add-mod', mod-eq_of_lt, mod-lt}
use native.Mathlib.Omega.{arith}
use lib.Dec.{lit<}
use lib.ListN.{length, get_or}
use lib.Seq.{ext_get_or}
use Rattle.finite.specs.Numbers.{number, bytes}
use Rattle.finite.proofs.Cases.{by_eq}
use Rattle.finite.proofs.Below.{get_d_tabulate}
use Rattle.finite.proofs.Digits.{power_more, number_of-bytes}
use Rattle.aggregate.specs.declared.Config.{Config}
use Rattle.aggregate.specs.declared.Aggregate.{Aggregate}
use Rattle.aggregate.specs.Aggregate.{absent}
use Rattle.station.specs.declared.Station.{Station}
use Rattle.stations.specs.Stations.{station_at}
use Rattle.stations.specs.Words.{byte_of, config_in, first_word, sums_in, aggregate_from, station_from, stations_in, spare_in, WordsPinned}
use Rattle.stations.specs.Kept.{kept_in}
use Rattle.stations.proofs.Words.{station_at_lem}
use Rattle.stations.proofs.Kept.{kept_at}

-- numbers of which byte j and what is above it are equal
pins_up : (v w j : ℕ) → v / 2 ^ (8 * suc j) ≡ w / 2 ^ (8 * suc j) → byte_of j v ≡ byte_of j w → v / 2 ^ (8 * j) ≡ w / 2 ^ (8 * j)
pins_up v w j high low = sym (parts v) ∙ ap₂ (λ (q r : ℕ). q * 2 ^ 8 + r) (above v ∙ high ∙ sym (above w)) low ∙ parts w
  where
    above : (x : ℕ) → x / 2 ^ (8 * j) / 2 ^ 8 ≡ x / 2 ^ (8 * suc j)
    above x = div-div-eq-div-mul x (2 ^ (8 * j)) (2 ^ 8) ∙ ap (λ (n : ℕ). x / n) (sym (power_more j))

    parts : (x : ℕ) → x / 2 ^ (8 * j) / 2 ^ 8 * 2 ^ 8 + x / 2 ^ (8 * j) % 2 ^ 8 ≡ x / 2 ^ (8 * j)
    parts x = div-add-mod' (x / 2 ^ (8 * j)) (2 ^ 8)

pins_all : (v w : ℕ) → v / 2 ^ (8 * 0) ≡ w / 2 ^ (8 * 0) → v ≡ w
pins_all v w e = sym (div-one v) ∙ e ∙ div-one w

-- eight bytes pin a word
pins_bytes : (v w : ℕ) → v < 2 ^ 64 → w < 2 ^ 64 → bytes 8 v ≡ bytes 8 w → v ≡ w
pins_bytes v w hv hw e =
    sym (mod-eq_of_lt hv) ∙ sym (number_of-bytes 8 v) ∙ ap (λ (l : List ℕ). number l 0 8) e ∙ number_of-bytes 8 w ∙ mod-eq_of_lt hw

-- an aggregate pins its nine words
aggregate_pinned : (l m : List ℕ) (at : ℕ) → ((p : ℕ) → (get_or l p 0 < 2 ^ 64) × (get_or m p 0 < 2 ^ 64)) → aggregate_from l at ≡ aggregate_from m at
    → (j : ℕ) → j < 9 → get_or l (at + j) 0 ≡ get_or m (at + j) 0
unfolding sums_in
aggregate_pinned l m at fits same j h =
    by_eq j 8
    (λ (e : j ≡ 8). rw e (pins_bytes _ _ (fits (at + 8)).0 (fits (at + 8)).1 (ap (λ (a : Aggregate). a.missing) same)))
    (λ n.
    sym (get_d_tabulate (λ x. get_or l (at + x) 0) 8 j 0 (omega arith))
    ∙ ap (λ (a : Aggregate). get_or a.sums j 0) same
    ∙ get_d_tabulate (λ x. get_or m (at + x) 0) 8 j 0 (omega arith))

module _ (l m : List ℕ) (config : config_in l ≡ config_in m) (stations : stations_in l ≡ stations_in m) (spare : spare_in l ≡ spare_in m) where
  first_pinned : get_or l 0 0 ≡ get_or m 0 0
  unfolding config_in spare_in
  first_pinned =
      let v = get_or l 0 0 in
      let w = get_or m 0 0 in
      let high = ap (λ (x : List ℕ). get_or x 0 0) spare in
      let way = ap (λ (t : Config). t.way) config in
      let desk = ap (λ (t : Config). t.desk) config in
      let classes = ap (λ (t : Config). t.classes) config in
      pins_all v w (pins_up v w 0 (pins_up v w 1 (pins_up v w 2 (pins_up v w 3 high way) desk) classes) (ap (λ (t : Config). t.k) config))

  module _ (i : ℕ) (low : i < 64) where
    station-same : station_from l (first_word i) ≡ station_from m (first_word i)
    station-same = sym (station_at_lem l i low) ∙ ap (λ (s : List Station). station_at s i) stations ∙ station_at_lem m i low

    held_same : aggregate_from l (first_word i) ≡ aggregate_from m (first_word i)
    unfolding station_from
    held_same = ap (λ (s : Station). s.held) station-same

    set_pinned : get_or l (first_word i + 9) 0 ≡ get_or m (first_word i + 9) 0
    unfolding station_from
    set_pinned = ap (λ (s : Station). s.unstarted) station-same

    last_pinned : get_or l (first_word i + 10) 0 ≡ get_or m (first_word i + 10) 0
    unfolding station_from spare_in
    last_pinned =
        let v = get_or l (first_word i + 10) 0 in
        let w = get_or m (first_word i + 10) 0 in
        let high : v / 2 ^ 24 ≡ w / 2 ^ 24 =
        sym (get_d_tabulate (λ x. get_or l (first_word x + 10) 0 / 2 ^ 24) 64 i 0 low)
        ∙ ap (λ (x : List ℕ). get_or x (suc i) 0) spare
        ∙ get_d_tabulate (λ x. get_or m (first_word x + 10) 0 / 2 ^ 24) 64 i 0 low in
        let state = ap (λ (s : Station). s.state) station-same in
        let waits = ap (λ (s : Station). s.waits) station-same in
        pins_all v w (pins_up v w 0 (pins_up v w 1 (pins_up v w 2 high state) waits) (ap (λ (s : Station). s.parent) station-same))

    module _ (fits : (p : ℕ) → (get_or l p 0 < 2 ^ 64) × (get_or m p 0 < 2 ^ 64)) where
      station_pinned : (j : ℕ) → j < 11 → get_or l (first_word i + j) 0 ≡ get_or m (first_word i + j) 0
      station_pinned j h =
          by_eq j 9 (λ (e : j ≡ 9). rw e set_pinned)
          (λ o. by_eq j 10 (λ (e : j ≡ 10). rw e last_pinned)
          (λ q. aggregate_pinned l m (first_word i) fits held_same j (omega arith)))

  same_words : length l ≡ 705 → length m ≡ 705 → ((p : ℕ) → (get_or l p 0 < 2 ^ 64) × (get_or m p 0 < 2 ^ 64)) → l ≡ m
  same_words long same fits =
      ext_get_or 0 l m (long ∙ sym same)
      (λ p h. by_eq p 0
      (λ (e : p ≡ 0). rw e first_pinned)
      (λ n.
      let i = (p - 1) / 11 in
      let j = (p - 1) % 11 in
      let parts : i * 11 + j ≡ p - 1 = div-add-mod' (p - 1) 11 in
      let rest : j < 11 = mod-lt (p - 1) (lit< tt) in
      let place : first_word i + j ≡ p = omega (arith, parts, n) in
      let low : i < 64 = omega (arith, parts, h, long) in
      ap (λ (x : ℕ). get_or l x 0) (sym place) ∙ station_pinned i low fits j rest ∙ ap (λ (x : ℕ). get_or m x 0) place))

pub words_pinned : WordsPinned
words_pinned = record { pinned = λ l m long same fits config stations spare. same_words l m config stations spare long same fits }

-- and what is kept pins its words
pub kept_pinned : (l m : List ℕ) → length l ≡ 576 → length m ≡ 576 → ((p : ℕ) → (get_or l p 0 < 2 ^ 64) × (get_or m p 0 < 2 ^ 64)) → kept_in l ≡ kept_in m → l ≡ m
kept_pinned l m long same fits kept =
    ext_get_or 0 l m (long ∙ sym same)
    (λ p h.
    let i = p / 9 in
    let j = p % 9 in
    let parts : i * 9 + j ≡ p = div-add-mod' p 9 in
    let rest : j < 9 = mod-lt p (lit< tt) in
    let place : 9 * i + j ≡ p = omega (arith, parts) in
    let low : i < 64 = omega (arith, parts, h, long) in
    let there : aggregate_from l (9 * i) ≡ aggregate_from m (9 * i) =
    sym (kept_at l i low) ∙ ap (λ (k : List Aggregate). get_or k i absent) kept ∙ kept_at m i low in
    ap (λ (x : ℕ). get_or l x 0) (sym place) ∙ aggregate_pinned l m (9 * i) fits there j rest ∙ ap (λ (x : ℕ). get_or m x 0) place)
