-- Stations in lent words: what each part of the words is after one is written, of 705 words and a station whose fields fit their bytes.
-- Assumes nothing.
use mathlib.Core.Path.{◌≡◌, refl, sym, ap, ap₂, ◌∙◌}
use mathlib.Core.List.{List, ◌∷◌}
use Prim.Native.Nat.{ℕ, zero, suc, ◌+◌, ◌*◌, ◌/◌, ◌%◌, ◌^◌, ◌≤◌, ◌<◌}
use native.Mathlib.Nat.{not-suc-le-zero, div-one, div-div-eq-div-mul, mul_comm}
use native.Mathlib.Omega.{arith}
use lib.Arith.{digits_div, digits_mod}
use lib.ListN.{length, get_or, set, length-set}
use lib.Seq.{get_or-set_same, get_or-set_other, ext_get_or}
use borrow.Author.Tests.{lt-ltb}
use Rattle.finite.specs.Below.{tabulate}
use Rattle.finite.specs.Numbers.{bytes}
use Rattle.finite.proofs.Cases.{by_eq}
use Rattle.finite.proofs.Below.{length-tabulate, get_d_tabulate, tabulate_ext}
use Rattle.finite.proofs.Digits.{power_more}
use Rattle.aggregate.specs.declared.Config.{Config}
use Rattle.aggregate.specs.declared.Aggregate.{Aggregate}
use Rattle.aggregate.specs.Aggregate.{cell, missing_word}
use Rattle.station.specs.declared.Station.{Station}
use Rattle.stations.specs.Stations.{no_station, station_at}
use Rattle.stations.specs.Words.{byte_of, config_in, first_word, sums_in, aggregate_from, station_from, stations_in, spare_in, station_read}
use Rattle.stations.specs.Words.{config_word, with_config, fields_word, with_sums, with_aggregate, with_station}
use Rattle.stations.specs.Internal.Fitting.{FitsHeld, Fits}

-- ---- a byte put below a number
module _ (q r : ℕ) (byte : r < 2 ^ 8) where
  byte_low : byte_of 0 (q * 2 ^ 8 + r) ≡ r
  byte_low = ap (λ (x : ℕ). x % 2 ^ 8) (div-one (q * 2 ^ 8 + r)) ∙ digits_mod q byte

  bytes_up : (j : ℕ) → (q * 2 ^ 8 + r) / 2 ^ (8 * suc j) ≡ q / 2 ^ (8 * j)
  bytes_up j =
      ap (λ (x : ℕ). (q * 2 ^ 8 + r) / x) (power_more j ∙ mul_comm (2 ^ (8 * j)) (2 ^ 8))
      ∙ sym (div-div-eq-div-mul (q * 2 ^ 8 + r) (2 ^ 8) (2 ^ (8 * j)))
      ∙ ap (λ (x : ℕ). x / 2 ^ (8 * j)) (digits_div q byte)

  byte_up : (j : ℕ) → byte_of (suc j) (q * 2 ^ 8 + r) ≡ byte_of j q
  byte_up j = ap (λ (x : ℕ). x % 2 ^ 8) (bytes_up j)

-- ---- reading
module _ (words : List ℕ) where
  pub length-stations : length (stations_in words) ≡ 64
  unfolding stations_in
  length-stations = length-tabulate (λ i. station_from words (first_word i)) 64

  module _ (i : ℕ) (low : i < 64) where
    pub station_at_lem : station_at (stations_in words) i ≡ station_from words (first_word i)
    unfolding stations_in
    station_at_lem = get_d_tabulate (λ i. station_from words (first_word i)) 64 i no_station low

    pub station_read_lem : station_read words i ≡ station_at (stations_in words) i
    station_read_lem = rw (lt-ltb i 64 low) (sym station_at_lem)

-- ---- what is read of words that are alike
module _ (l m : List ℕ) where
  pub sums_alike : (at : ℕ) → ((j : ℕ) → j < 8 → get_or l (at + j) 0 ≡ get_or m (at + j) 0) → sums_in l at ≡ sums_in m at
  unfolding sums_in
  sums_alike at h = tabulate_ext 8 _ _ h

  pub station_alike : (at : ℕ) → ((j : ℕ) → j < 11 → get_or l (at + j) 0 ≡ get_or m (at + j) 0) → station_from l at ≡ station_from m at
  unfolding station_from
  station_alike at h =
      rw (sums_alike at (λ j u. h j (omega arith)), h 8 (omega arith), h 9 (omega arith), h 10 (omega arith))

-- ---- what the net was opened with, written
module _ (words : List ℕ) (long : length words ≡ 705) (t : Config) (byte : (t.k < 2 ^ 8) × (t.classes < 2 ^ 8) × (t.desk < 2 ^ 8) × (t.way < 2 ^ 8)) where
  first_word_lem : get_or (with_config words t) 0 0 ≡ config_word (get_or words 0 0) t
  unfolding with_config
  first_word_lem = get_or-set_same words 0 _ 0 (omega arith)

  later_word : (i j : ℕ) → get_or (with_config words t) (first_word i + j) 0 ≡ get_or words (first_word i + j) 0
  unfolding with_config
  later_word i j = get_or-set_other words 0 (first_word i + j) _ 0 (λ e. omega arith)

  -- the parts of the first word, from the highest
  abbrev rest : ℕ
  rest = get_or words 0 0 / 2 ^ 32

  abbrev two : ℕ
  two = rest * 2 ^ 8 + t.way

  abbrev three : ℕ
  three = two * 2 ^ 8 + t.desk

  abbrev four : ℕ
  four = three * 2 ^ 8 + t.classes

  pub config_put : config_in (with_config words t) ≡ t
  unfolding config_in
  config_put =
      config_of_lem
      (ap (byte_of 0) first_word_lem ∙ byte_low four t.k byte.0)
      (ap (byte_of 1) first_word_lem ∙ byte_up four t.k byte.0 0 ∙ byte_low three t.classes byte.1)
      (ap (byte_of 2) first_word_lem ∙ byte_up four t.k byte.0 1 ∙ byte_up three t.classes byte.1 0 ∙ byte_low two t.desk byte.2)
      (ap (byte_of 3) first_word_lem ∙ byte_up four t.k byte.0 2 ∙ byte_up three t.classes byte.1 1 ∙ byte_up two t.desk byte.2 0
      ∙ byte_low rest t.way byte.3)
    where
      config_of_lem : {k l c d r s v w : ℕ} → k ≡ l → c ≡ d → r ≡ s → v ≡ w
          → ◌≡◌ {A = Config} (record { k = k; classes = c; desk = r; way = v }) (record { k = l; classes = d; desk = s; way = w })
      config_of_lem e f g h = rw (e, f, g, h)

  pub config_put_stations : stations_in (with_config words t) ≡ stations_in words
  unfolding stations_in
  config_put_stations = tabulate_ext 64 _ _ (λ i l. station_alike (with_config words t) words (first_word i) (λ j u. later_word i j))

  pub config_put_spare : spare_in (with_config words t) ≡ spare_in words
  unfolding spare_in
  config_put_spare =
      ap₂ (λ (x : ℕ) (l : List ℕ). x ∷ l)
      (ap (λ (x : ℕ). x / 2 ^ 32) first_word_lem
      ∙ bytes_up four t.k byte.0 3 ∙ bytes_up three t.classes byte.1 2 ∙ bytes_up two t.desk byte.2 1 ∙ bytes_up rest t.way byte.3 0 ∙ div-one rest)
      (tabulate_ext 64 _ _ (λ i l. ap (λ (x : ℕ). x / 2 ^ 24) (later_word i 10)))

-- what `put_config` ensures of the words, part by part
pub ruleset config_laws = (config_put, config_put_stations, config_put_spare)

-- ---- a station written
pub length-sums : (words : List ℕ) (at : ℕ) (v : Aggregate) (n : ℕ) → length (with_sums words at v n) ≡ length words
unfolding with_sums
length-sums words at v zero = refl
length-sums words at v (suc n) = length-set (with_sums words at v n) (at + n) (cell v n).sum ∙ length-sums words at v n

sums-other : (words : List ℕ) (at : ℕ) (v : Aggregate) (p n : ℕ) → ((j : ℕ) → j < n → p ≡ at + j → ⊥)
    → get_or (with_sums words at v n) p 0 ≡ get_or words p 0
unfolding with_sums
sums-other words at v p zero out = refl
sums-other words at v p (suc n) out =
    get_or-set_other (with_sums words at v n) (at + n) p (cell v n).sum 0 (out n (omega arith))
    ∙ sums-other words at v p n (λ j u. out j (omega arith))

sums_same : (words : List ℕ) (at : ℕ) (v : Aggregate) (j n : ℕ) → j < n → at + n ≤ length words
    → get_or (with_sums words at v n) (at + j) 0 ≡ (cell v j).sum
unfolding with_sums
sums_same words at v j zero l room = absurd (not-suc-le-zero l)
sums_same words at v j (suc n) l room =
    by_eq j n
    (λ (e : j ≡ n). rw e (get_or-set_same (with_sums words at v n) (at + n) (cell v n).sum 0 (omega (arith, length-sums words at v n))))
    (λ q.
    get_or-set_other (with_sums words at v n) (at + n) (at + j) (cell v n).sum 0 (λ e. q (omega arith))
    ∙ sums_same words at v j n (omega arith) (omega arith))

-- an aggregate written
module _ (words : List ℕ) (at : ℕ) (v : Aggregate) where
  abbrev sums : List ℕ
  sums = with_sums words at v 8

  pub length-aggregate : length (with_aggregate words at v) ≡ length words
  length-aggregate = length-set sums (at + 8) (missing_word v) ∙ length-sums words at v 8

  -- a word that is none of its nine
  pub aggregate-other : (p : ℕ) → ((j : ℕ) → j < 9 → p ≡ at + j → ⊥) → get_or (with_aggregate words at v) p 0 ≡ get_or words p 0
  aggregate-other p out =
      get_or-set_other sums (at + 8) p (missing_word v) 0 (out 8 (omega arith)) ∙ sums-other words at v p 8 (λ j u. out j (omega arith))

  module _ (room : at + 9 ≤ length words) where
    sum_word : (j : ℕ) → j < 8 → get_or (with_aggregate words at v) (at + j) 0 ≡ get_or v.sums j 0
    sum_word j l = get_or-set_other sums (at + 8) (at + j) (missing_word v) 0 (λ e. omega arith) ∙ sums_same words at v j 8 l (omega arith)

    missing_word_lem : get_or (with_aggregate words at v) (at + 8) 0 ≡ missing_word v
    missing_word_lem = get_or-set_same sums (at + 8) (missing_word v) 0 (omega (arith, length-sums words at v 8))

    -- words whose nine are those that were written
    pub aggregate_again : FitsHeld v → (after : List ℕ) → ((j : ℕ) → j < 9 → get_or after (at + j) 0 ≡ get_or (with_aggregate words at v) (at + j) 0)
        → aggregate_from after at ≡ v
    unfolding sums_in
    aggregate_again fits after same =
        let f : ℕ → ℕ = λ j. get_or after (at + j) 0 in
        ap₂ (λ (a m : List ℕ). record { sums = a; missing = m })
        (ext_get_or 0 (tabulate 8 f) v.sums (length-tabulate f 8 ∙ sym fits.sums_long)
        (λ j l. let low : j < 8 = omega (arith, length-tabulate f 8) in get_d_tabulate f 8 j 0 low ∙ same j (omega arith) ∙ sum_word j low))
        (ap (bytes 8) (same 8 (omega arith) ∙ missing_word_lem) ∙ fits.missing_again)

module _ (words : List ℕ) (at : ℕ) (s : Station) where
  abbrev fields : ℕ
  fields = fields_word (get_or words (at + 10) 0) s

  -- the words one after the other
  abbrev held : List ℕ
  held = with_aggregate words at s.held

  abbrev unstarted : List ℕ
  unstarted = set held (at + 9) s.unstarted

  -- a word that is none of the station's
  station-other : (p : ℕ) → ((j : ℕ) → j < 11 → p ≡ at + j → ⊥) → get_or (with_station words at s) p 0 ≡ get_or words p 0
  unfolding with_station
  station-other p out =
      get_or-set_other unstarted (at + 10) p fields 0 (out 10 (omega arith))
      ∙ get_or-set_other held (at + 9) p s.unstarted 0 (out 9 (omega arith))
      ∙ aggregate-other words at s.held p (λ j u. out j (omega arith))

  module _ (room : at + 11 ≤ length words) (fits : Fits s) where
    length-unstarted : length unstarted ≡ length words
    length-unstarted = length-set held (at + 9) s.unstarted ∙ length-aggregate words at s.held

    held_word : (j : ℕ) → j < 9 → get_or (with_station words at s) (at + j) 0 ≡ get_or held (at + j) 0
    unfolding with_station
    held_word j l =
        get_or-set_other unstarted (at + 10) (at + j) fields 0 (λ e. omega arith)
        ∙ get_or-set_other held (at + 9) (at + j) s.unstarted 0 (λ e. omega arith)

    set_word : get_or (with_station words at s) (at + 9) 0 ≡ s.unstarted
    unfolding with_station
    set_word =
        get_or-set_other unstarted (at + 10) (at + 9) fields 0 (λ e. omega arith)
        ∙ get_or-set_same held (at + 9) s.unstarted 0 (omega (arith, length-aggregate words at s.held))

    last_word : get_or (with_station words at s) (at + 10) 0 ≡ fields
    unfolding with_station
    last_word = get_or-set_same unstarted (at + 10) fields 0 (omega (arith, length-unstarted))

    -- the fields of the last word, and what stands beside them
    abbrev beside : ℕ
    beside = get_or words (at + 10) 0 / 2 ^ 24

    abbrev upper : ℕ
    upper = beside * 2 ^ 8 + s.state

    waits_again : byte_of 1 fields ≡ s.waits
    waits_again = byte_up (upper * 2 ^ 8 + s.waits) s.parent fits.parent_byte 0 ∙ byte_low upper s.waits fits.waits_byte

    state_again : byte_of 2 fields ≡ s.state
    state_again =
        byte_up (upper * 2 ^ 8 + s.waits) s.parent fits.parent_byte 1
        ∙ byte_up upper s.waits fits.waits_byte 0
        ∙ byte_low beside s.state fits.state_byte

    spare_again : get_or (with_station words at s) (at + 10) 0 / 2 ^ 24 ≡ beside
    spare_again =
        ap (λ (x : ℕ). x / 2 ^ 24) last_word
        ∙ bytes_up (upper * 2 ^ 8 + s.waits) s.parent fits.parent_byte 2
        ∙ bytes_up upper s.waits fits.waits_byte 1
        ∙ bytes_up beside s.state fits.state_byte 0
        ∙ div-one beside

    station_again : station_from (with_station words at s) at ≡ s
    unfolding station_from
    station_again =
        let held : aggregate_from (with_station words at s) at ≡ s.held =
        aggregate_again words at s.held (omega arith) fits.held_fits (with_station words at s) held_word in
        station_of held set_word (ap (byte_of 0) last_word ∙ byte_low (upper * 2 ^ 8 + s.waits) s.parent fits.parent_byte)
        (ap (byte_of 1) last_word ∙ waits_again) (ap (byte_of 2) last_word ∙ state_again)
      where
        station_of : {a b : Aggregate} {u v p q w x y z : ℕ} → a ≡ b → u ≡ v → p ≡ q → w ≡ x → y ≡ z
            → ◌≡◌ {A = Station} (record { held = a; unstarted = u; parent = p; waits = w; state = y })
            (record { held = b; unstarted = v; parent = q; waits = x; state = z })
        station_of e f g h i = rw (e, f, g, h, i)

-- the parts of the words, after station i is written
module _ (words : List ℕ) (long : length words ≡ 705) (i : ℕ) (low : i < 64) (s : Station) (fits : Fits s) where
  abbrev after : List ℕ
  after = with_station words (first_word i) s

  other_word : (x j : ℕ) → (x ≡ i → ⊥) → j < 11 → get_or after (first_word x + j) 0 ≡ get_or words (first_word x + j) 0
  other_word x j n l = station-other words (first_word i) s (first_word x + j) (λ h u e. n (omega arith))

  pub stations-stored : stations_in after ≡ set (stations_in words) i s
  stations-stored =
      let same : length (stations_in after) ≡ length (set (stations_in words) i s) =
      length-stations after ∙ sym (length-set (stations_in words) i s ∙ length-stations words) in
      ext_get_or no_station (stations_in after) (set (stations_in words) i s) same
      (λ x l.
      let inside : x < 64 = omega (arith, length-stations after) in
      station_at_lem after x inside
      ∙ by_eq x i
      (λ (e : x ≡ i). rw e
      (station_again words (first_word i) s (omega arith) fits
      ∙ sym (get_or-set_same (stations_in words) i s no_station (omega (arith, length-stations words)))))
      (λ n.
      station_alike after words (first_word x) (λ j u. other_word x j n u)
      ∙ sym (station_at_lem words x inside)
      ∙ sym (get_or-set_other (stations_in words) i x s no_station n)))

  pub stored_config : config_in after ≡ config_in words
  unfolding config_in
  stored_config = rw (station-other words (first_word i) s 0 (λ j u e. omega arith))

  pub stored_spare : spare_in after ≡ spare_in words
  unfolding spare_in
  stored_spare =
      ap₂ (λ (x : ℕ) (l : List ℕ). x ∷ l)
      (ap (λ (x : ℕ). x / 2 ^ 32) (station-other words (first_word i) s 0 (λ j u e. omega arith)))
      (tabulate_ext 64 _ _ (λ x l.
      by_eq x i
      (λ (e : x ≡ i). rw e (spare_again words (first_word i) s (omega arith) fits))
      (λ n. ap (λ (y : ℕ). y / 2 ^ 24) (other_word x 10 n (omega arith)))))
