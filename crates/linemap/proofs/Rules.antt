-- Reading and writing rule by rule: what the reader's parts leave of a reading, what is left after 1 to 5, and what an accepted
-- reading went by; the four ways that writing ends. Assumes nothing.
use Rattle.std.proofs.Common.{◌≡◌, ℕ, ◌+◌, ◌-◌, ◌*◌, ◌%◌, ◌^◌, ◌<◌, ◌≤◌, Bool, true, false, ◌&&◌, eqb, ltb, leb, ◌⊎◌, List, ◌++◌, length, drop, Option, Some, None, Result, Ok, Err, sym, refl, ap, ◌∙◌, ap₂, ⊎_elim, mul-le-mul_left, arith, ltb-true, le-ltb, lt-ltb, eq-eqb, ne_eqb, eqb-true, le-leb, leb-false, leb-true}
use Rattle.std.specs.Prelude.{⊤}
use borrow.Author.Tests.{lt-leb}
use Rattle.finite.proofs.Cases.{clash, and_both}
use Rattle.topology.specs.Answer.{is_accepted}
use Rattle.finite.specs.Tests.{unless}
use Rattle.topology.specs.Acceptance.{fault_numbers}
use Rattle.bitset.specs.Set.{is_station_count}
use Rattle.aggregate.specs.Aggregate.{is_class_count}
use Rattle.aggregate.proofs.Laws.{class_count}
use Rattle.topology.specs.declared.Fault.{Fault}
use Rattle.topology.specs.declared.Fault.TheVariants.{Classes, Stations, Desk}
use Rattle.topology.proofs.Answers.{fault_refuses}
use Rattle.finite.specs.Numbers.{number}
use Rattle.linemap.specs.Words.{sum_words}
use Rattle.linemap.specs.Maps.{acceptance}
use Rattle.linemap.specs.Stored.{row_length, trailer_length, stored_length, length_of, word_count, stored_of}
use Rattle.linemap.specs.Reading.{read_as, ReadOutcome, read_refused, is_row_length, classes_of, map_at, judged, reading}
use Rattle.linemap.specs.Reading.{stations_in, desk_in, row_length_in, classes_in, distance_in, lot_in, start_in}
use Rattle.linemap.specs.Writing.{write_fault_numbers, write_numbers, is_storable, writing, written}
use Rattle.linemap.specs.Internal.Stages.{fields_of, trailer_of, trailer_answer, row_of, rows_outcome, put}
use Rattle.linemap.specs.declared.Map.{Map}
use Rattle.linemap.specs.declared.ReadFault.{ReadFault}
use Rattle.linemap.specs.declared.ReadFault.TheVariants.{Short, Distance, Rows, CheckWord, Unfit}
use Rattle.linemap.specs.declared.WriteFault.TheVariants.{Lot, Buffer}
use Rattle.linemap.specs.declared.reading.Trailer.{Trailer}
use Rattle.linemap.specs.declared.reading.Row.{Row}
use Rattle.linemap.proofs.Answers.{read_fault_refuses}
use Rattle.linemap.proofs.Put.{put_front}
use Rattle.linemap.proofs.StoredForm.{length-stored}

some-station : (k : ℕ) → is_station_count k ≡ true → 0 < k
some-station k count = ltb-true 0 k (and_both (ltb 0 k) (leb k 64) count).0

pub few_stations : (k : ℕ) → is_station_count k ≡ true → k ≤ 64
few_stations k count = leb-true k 64 (and_both (ltb 0 k) (leb k 64) count).1

-- a row length that is let through is that of its class count, and each class count has one
pub row_classes : (w : ℕ) → is_row_length w ≡ true → (row_length (classes_of w) ≡ w) × (1 ≤ classes_of w) × (classes_of w ≤ 8) × (w ≤ 40)
row_classes w ok =
    let most = and_both (eqb (w % 4) 0 && leb 12 w) (leb w 40) ok in
    let least = and_both (eqb (w % 4) 0) (leb 12 w) most.0 in
    omega (arith, eqb-true (w % 4) 0 least.0, leb-true 12 w least.1, leb-true w 40 most.1)

pub classes_row : (c w : ℕ) → is_class_count c ≡ true → w ≡ row_length c → (is_row_length w ≡ true) × (classes_of w ≡ c)
classes_row c w count is =
    let both = class_count c count in (
      rw (eq-eqb (w % 4) 0 (omega arith), le-leb 12 w (omega arith), le-leb w 40 (omega arith)),
      omega arith,
    )

-- row i of k rows of w bytes
pub row_below : (w i k : ℕ) → i < k → w * i + w ≤ w * k
row_below w i k h = omega (arith, mul-le-mul_left w h)

row-known : (b : Bool) (r x : Row) → unless b None (Some r) ≡ Some x → (b ≡ true) × (x ≡ r)
row-known true r x e = (refl, cc)
row-known false r x e = let never : ◌≡◌ {A = ℕ} 0 1 = cc in absurd (omega arith)

row_unknown : (b : Bool) (r : Row) → unless b None (Some r) ≡ None → b ≡ false
row_unknown false r e = refl
row_unknown true r e = let never : ◌≡◌ {A = ℕ} 0 1 = cc in absurd (omega arith)

-- a row that was read starts within the bytes, at its place from the end; one that was not starts before them
module _ (s : List ℕ) (w back : ℕ) where
  row_within : (r : Row) → row_of s w back ≡ Some r
      → (back ≤ length s) × (r.at ≡ length s - back) × (r.set ≡ number s (length s - back + (w - 8)) 8)
  unfolding row_of
  row_within r e =
      let known = row-known (leb back (length s)) _ r e in
      (leb-true back (length s) known.0, ap (λ (x : Row). x.at) known.1, ap (λ (x : Row). x.set) known.1)

  pub row_outside : row_of s w back ≡ None → length s < back
  unfolding row_of
  row_outside e = leb-false back (length s) (row_unknown (leb back (length s)) _ e)

-- row i of k was read: all rows stand within the bytes, since the first of them starts farthest back, and it has its place among them
pub row_read : (s : List ℕ) (c k i w need : ℕ) (r : Row) → i < k → w ≡ row_length c → need ≡ stored_length c k
    → (i ≡ 0) ⊎ (stored_length c k ≤ length s) → row_of s w (need - w * i) ≡ Some r
    → let place = length s - stored_length c k + row_length c * i in
    (stored_length c k ≤ length s) × (r.at ≡ place) × (r.set ≡ number s (place + 4 * c) 8)
row_read s c k i w need r more width_is need-is before e =
    let known = row_within s w (need - w * i) r e in
    let same : w * i ≡ row_length c * i = ap (λ (x : ℕ). x * i) width_is in
    let below = row_below (row_length c) i k more in
    let fits : stored_length c k ≤ length s =
    ⊎_elim (λ first. let none : w * i ≡ w * 0 = ap (λ (n : ℕ). w * n) first in omega (arith, none, known.0)) (λ f. f) before in
    let from_front : length s - (need - w * i) ≡ length s - stored_length c k + row_length c * i = omega arith in
    let wide : w - 8 ≡ 4 * c = omega arith in
    (fits, known.1 ∙ from_front, known.2 ∙ ap₂ (λ (x y : ℕ). number s (x + y) 8) from_front wide)

-- the rows start before the bytes; their words do not add to zero; the map is judged
module _ (s : List ℕ) (c k desk lot : ℕ) where
  abbrev need : ℕ
  need = stored_length c k

  pub rows_outside : length s < need → rows_outcome s c k desk lot ≡ read_refused Rows
  unfolding rows_outcome
  rows_outside far = rw (lt-leb need (length s) far)

  module _ (fits : need ≤ length s) where
    pub words_off : (sum_words s (length s - need) (word_count c k) ≡ 0 → ⊥) → rows_outcome s c k desk lot ≡ read_refused CheckWord
    unfolding rows_outcome
    words_off ne = rw (le-leb need (length s) fits, ne_eqb (sum_words s (length s - need) (word_count c k)) 0 ne)

    pub words_add : sum_words s (length s - need) (word_count c k) ≡ 0 → rows_outcome s c k desk lot ≡ judged (map_at s c k desk lot (length s - need))
    unfolding rows_outcome
    words_add zero = rw (le-leb need (length s) fits, eq-eqb (sum_words s (length s - need) (word_count c k)) 0 zero)

-- what an answer of 2, 3, 19 and 4 makes of the rest of a reading, and the reading of a trailer that was read
abbrev pub answered : Result ⊤ ReadFault → ReadOutcome → ReadOutcome
answered (Err fault) rest = read_refused fault
answered (Ok done) rest = rest

abbrev pub ruled : List ℕ → Option Trailer → ReadOutcome
ruled s None = read_refused Short
ruled s (Some t) = answered (trailer_answer t) (rows_outcome s (classes_of t.row_length) t.stations t.desk t.lot)

answered-unless : (row count desk back : Bool) (rest : ReadOutcome)
    → unless row (read_refused (Unfit Classes))
    (unless count (read_refused (Unfit Stations)) (unless desk (read_refused (Unfit Desk)) (unless back (read_refused Distance) rest)))
    ≡ answered (unless row (Err (Unfit Classes)) (unless count (Err (Unfit Stations))
    (unless desk (Err (Unfit Desk)) (unless back (Err Distance) (Ok tt))))) rest
answered-unless false count desk back rest = refl
answered-unless true false desk back rest = refl
answered-unless true true false back rest = refl
answered-unless true true true false rest = refl
answered-unless true true true true rest = refl

ruled-unless : (long : Bool) (s : List ℕ) (t : Trailer) (rest : ReadOutcome) → rest ≡ ruled s (Some t)
    → unless long (read_refused Short) rest ≡ ruled s (unless long None (Some t))
ruled-unless false s t rest e = refl
ruled-unless true s t rest e = e

pub reading-ruled : (s : List ℕ) → reading s ≡ ruled s (trailer_of s)
unfolding reading trailer_of trailer_answer rows_outcome
reading-ruled s =
    ruled-unless (leb trailer_length (length s)) s (fields_of s) _
    (answered-unless (is_row_length (row_length_in s)) (is_station_count (stations_in s)) (ltb (desk_in s) (stations_in s))
    (eqb (distance_in s) (row_length_in s * stations_in s)) _)

-- an accepted trailer has a row length, a number of stations and one of them for the desk
pub trailer_few : (t : Trailer) (done : ⊤) → trailer_answer t ≡ Ok done
    → (is_row_length t.row_length ≡ true) × (0 < t.stations) × (t.stations ≤ 64) × (t.desk < t.stations)
unfolding trailer_answer
trailer_few t done ok =
    let k = t.stations in
    let all = counted (is_row_length t.row_length) (is_station_count k) (ltb t.desk k) (eqb t.distance (t.row_length * k)) ok in
    (all.0, some-station k all.1, few_stations k all.1, ltb-true t.desk k all.2)
  where
    counted : (row count desk back : Bool)
        → unless row (Err (Unfit Classes)) (unless count (Err (Unfit Stations))
        (unless desk (Err (Unfit Desk)) (unless back (Err Distance) (Ok tt)))) ≡ Ok done
        → (row ≡ true) × (count ≡ true) × (desk ≡ true)
    counted true true true back e = (refl, refl, refl)
    counted true true false back e = let never : ◌≡◌ {A = ℕ} 0 1 = cc in absurd (omega arith)
    counted true false desk back e = let never : ◌≡◌ {A = ℕ} 0 1 = cc in absurd (omega arith)
    counted false count desk back e = let never : ◌≡◌ {A = ℕ} 0 1 = cc in absurd (omega arith)

-- what is left of a reading that 1 to 5 let through
pub reading-left : (s : List ℕ) (c k desk lot start : ℕ) → stations_in s ≡ k → desk_in s ≡ desk → lot_in s ≡ lot
    → length s ≡ start + stored_length c k → row_length_in s ≡ row_length c → is_class_count c ≡ true → is_station_count k ≡ true → desk < k
    → distance_in s ≡ row_length c * k
    → reading s ≡ unless (eqb (sum_words s start (word_count c k)) 0) (read_refused CheckWord) (judged (map_at s c k desk lot start))
unfolding reading
reading-left s c k desk lot start stations_are desk-is lot_is ends row classes count below back =
    let starts : length s - stored_length c k ≡ start = omega arith in
    let found = classes_row c (row_length_in s) classes row in
    let distance : distance_in s ≡ row_length_in s * k = back ∙ ap (λ (w : ℕ). w * k) (sym row) in
    rw (
      le-leb trailer_length (length s) (omega arith),
      found.0,
      stations_are,
      desk-is,
      lot_is,
      count,
      lt-ltb desk k below,
      eq-eqb (distance_in s) (row_length_in s * k) distance,
      found.1,
      le-leb (stored_length c k) (length s) (omega arith),
      starts,
    )

-- an accepted reading passed the test, and the rest accepts it
passed : (b : Bool) (fault : ReadFault) (rest : ReadOutcome) (m : Map) → unless b (read_refused fault) rest ≡ read_as m
    → (b ≡ true) × (rest ≡ read_as m)
passed true fault rest m e = (refl, e)
passed false fault rest m e = clash (ap (λ (o : ReadOutcome). is_accepted o.numbers) e) (read_fault_refuses fault)

judged-is : (b : Bool) (n m : Map) → is_accepted (acceptance n) ≡ b → judged n ≡ read_as m
    → (is_accepted (acceptance n) ≡ true) × (n ≡ m)
judged-is true n m t e = (t, ap (λ (o : ReadOutcome). o.map) (rw t at e))
judged-is false n m f e = clash (ap (λ (o : ReadOutcome). is_accepted o.numbers) (rw f at e)) f

-- what an accepted reading went by
pub record Read (s : List ℕ) (m : Map) : Type 0 where
  pub row : row_length_in s ≡ row_length (classes_in s)
  pub few : classes_in s ≤ 8
  pub back : distance_in s ≡ row_length (classes_in s) * stations_in s
  pub fits : stored_length (classes_in s) (stations_in s) ≤ length s
  pub sum : sum_words s (start_in s) (word_count (classes_in s) (stations_in s)) ≡ 0
  pub good : is_accepted (acceptance m) ≡ true
  pub is : map_at s (classes_in s) (stations_in s) (desk_in s) (lot_in s) (start_in s) ≡ m

pub read_facts : (s : List ℕ) (m : Map) → reading s ≡ read_as m → Read s m
unfolding reading
read_facts s m e =
    let c = classes_in s in
    let k = stations_in s in
    let not_IsShort = passed (leb trailer_length (length s)) Short _ m e in
    let row_ok = passed (is_row_length (row_length_in s)) (Unfit Classes) _ m not_IsShort.1 in
    let count-ok = passed (is_station_count k) (Unfit Stations) _ m row_ok.1 in
    let desk-ok = passed (ltb (desk_in s) k) (Unfit Desk) _ m count-ok.1 in
    let back-ok = passed (eqb (distance_in s) (row_length_in s * k)) Distance _ m desk-ok.1 in
    let rows_ok = passed (leb (stored_length c k) (length s)) Rows _ m back-ok.1 in
    let sum-ok = passed (eqb (sum_words s (start_in s) (word_count c k)) 0) CheckWord _ m rows_ok.1 in
    let row_is = row_classes (row_length_in s) row_ok.0 in
    let judge-ok = judged-is (is_accepted (acceptance (map_at s c k (desk_in s) (lot_in s) (start_in s)))) _ m refl sum-ok.1 in
    record {
      row = sym row_is.0;
      few = row_is.2;
      back = eqb-true _ _ back-ok.0 ∙ ap (λ (w : ℕ). w * k) (sym row_is.0);
      fits = leb-true _ _ rows_ok.0;
      sum = eqb-true _ _ sum-ok.0;
      good = ap (λ (n : Map). is_accepted (acceptance n)) (sym judge-ok.1) ∙ judge-ok.0;
      is = judge-ok.1;
    }

-- an accepted map with a storable lot is written where there are the bytes for it
pub room_enough : (m : Map) (n : ℕ) → is_accepted (acceptance m) ≡ true → m.lot < 2 ^ 48 → length_of m ≤ n
    → writing m n ≡ write_numbers (Ok (length_of m))
unfolding writing
room_enough m n ok small room = rw (ok, lt-ltb m.lot (2 ^ 48) small, le-leb (length_of m) n room)

-- the four ways that writing ends: the map is refused, its lot is too long, the buffer is too short, the stored form is laid over its front
module _ (m : Map) (l : List ℕ) where
  pub unfit : (fault : Fault) → fault_numbers fault ≡ acceptance m → (fault_numbers fault ≡ writing m (length l)) × (l ≡ written m l)
  unfolding writing written
  unfit fault told =
      let no : is_accepted (acceptance m) ≡ false = ap is_accepted (sym told) ∙ fault_refuses fault in
      (rw no told, rw (no, no))

  module _ (ok : is_accepted (acceptance m) ≡ true) where
    pub long_lot : 2 ^ 48 ≤ m.lot → (write_fault_numbers Lot ≡ writing m (length l)) × (l ≡ written m l)
    unfolding writing written
    long_lot far = let no : is_storable m.lot ≡ false = le-ltb m.lot (2 ^ 48) far in (rw (ok, no), rw (ok, no))

    module _ (small : m.lot < 2 ^ 48) where
      pub too_short : (need : ℕ) → need ≡ length_of m → length l < need
          → (write_fault_numbers (Buffer need) ≡ writing m (length l)) × (l ≡ written m l)
      unfolding writing written
      too_short need e far =
          let storable : is_storable m.lot ≡ true = lt-ltb m.lot (2 ^ 48) small in
          let no : leb (length_of m) (length l) ≡ false = lt-leb (length_of m) (length l) (omega arith) in
          (rw (ok, storable, no) (ap (λ (n : ℕ). write_fault_numbers (Buffer n)) e), rw (ok, storable, no))

      pub fills : (need : ℕ) (b : List ℕ) → need ≡ length_of m → need ≤ length l → b ≡ put l 0 (stored_of m)
          → (write_numbers (Ok need) ≡ writing m (length l)) × (b ≡ written m l)
      unfolding written
      fills need b e room laid =
          let told = room_enough m (length l) ok small (omega arith) in (
            ap (λ (n : ℕ). write_numbers (Ok n)) e ∙ sym told,
            rw told (laid ∙ put_front l (stored_of m) (omega (arith, length-stored m))
                ∙ ap (λ (n : ℕ). stored_of m ++ drop n l) (length-stored m)),
          )
