-- What a sheet says: a sheet that is laid out passed every test, so its numbers fit their columns, its lines stand where they are read, and
-- demand 3 says what the desk holds. Assumes nothing.
use mathlib.Core.Path.{◌≡◌, refl, sym, ap, subst, ◌∙◌}
use mathlib.Core.Bool.{Bool, true, false}
use mathlib.Core.List.{List, ◌++◌}
use Prim.Native.Nat.{ℕ, ◌+◌, ◌*◌, ◌<◌}
use native.Mathlib.Omega.{arith}
use lib.Dec.{leb}
use lib.ListN.{length, drop}
use Rattle.finite.specs.Sum.{indicator}
use Rattle.finite.specs.Tests.{unless}
use Rattle.finite.specs.Stores.{over}
use Rattle.finite.specs.Internal.Monoid.{addition}
use Rattle.finite.proofs.Cases.{clash}
use Rattle.finite.proofs.Sums.{sum_ext}
use Rattle.aggregate.specs.declared.Cell.{Cell}
use Rattle.aggregate.specs.declared.Aggregate.{Aggregate}
use Rattle.aggregate.specs.Ways.{summing}
use Rattle.aggregate.specs.Aggregate.{cell}
use Rattle.aggregate.specs.Reported.{Reported}
use Rattle.topology.specs.Answer.{is_accepted}
use Rattle.linemap.specs.declared.Map.{Map}
use Rattle.linemap.specs.Maps.{config_of, acceptance, place, count_at}
use Rattle.linemap.specs.RoundTrip.{Fits}
use Rattle.linemap.specs.Writing.{is_storable}
use Rattle.rendezvous.specs.Net.{Net, station, well_formed}
use Rattle.demand.specs.Kinds.{meeting, carrying, reports, left}
use Rattle.demand.proofs.Demand.{demand}
use Rattle.sheet.specs.Layout.{count_column, total_line, sheet_of}
use Rattle.sheet.specs.Sheet.{SheetOutcome, desk_of, agrees, is_reported, sheet_length, sheet_on}
use Rattle.sheet.specs.Adding.{line_at, columns_at, shown, is_hyphens, count_in, AddsUp, Columns, LaidOut, Sound, Sheets}
use Rattle.sheet.specs.Internal.Laying.{NarrowSheet, FitStations}
use Rattle.sheet.proofs.Columns.{length-column, length_count, narrow_lot, narrow_station, narrow_class, narrow_total, narrow_missing}
use Rattle.sheet.proofs.Lines.{length_sheet}
use Rattle.sheet.proofs.Rules.{agreed, narrow_sheet}
use Rattle.sheet.proofs.Shown.{shown-column, shown_count, hyphens_count}
use Rattle.sheet.proofs.Places.{count_at_lem, total-at, count_columns, total_columns, missing_columns}

-- the tests that a sheet passed
pub record Passed (m : Map) (net : Net) (buffer : List ℕ) : Type 0 where
  pub ok : is_accepted (acceptance m) ≡ true
  pub storable : is_storable m.lot ≡ true
  pub formed : well_formed net ≡ true
  pub same : agrees (config_of summing m) net.config ≡ true
  pub reported : is_reported m.classes (desk_of net) ≡ true
  pub enough : leb (sheet_length m) (length buffer) ≡ true

passed : (b : Bool) (refusal rest : SheetOutcome) → (b ≡ false → is_accepted refusal.numbers ≡ false)
    → is_accepted (unless b refusal rest).numbers ≡ true
    → (b ≡ true) × (is_accepted rest.numbers ≡ true)
passed true refusal rest refuses h = (refl, h)
passed false refusal rest refuses h = clash h (refuses refl)

module _ (m : Map) (net : Net) (buffer : List ℕ) (laid : LaidOut m net buffer) where
  all_passed : Passed m net buffer
  unfolding sheet_on
  all_passed =
      let a = passed (is_accepted (acceptance m)) _ _ (λ f. f) (ap is_accepted laid) in
      let b = passed (is_storable m.lot) _ _ (λ f. refl) a.1 in
      let c = passed (well_formed net) _ _ (λ f. refl) b.1 in
      let d = passed (agrees (config_of summing m) net.config) _ _ (λ f. refl) c.1 in
      let e = passed (is_reported m.classes (desk_of net)) _ _ (λ f. refl) d.1 in
      let f = passed (leb (sheet_length m) (length buffer)) _ _ (λ f. refl) e.1 in
      record { ok = a.0; storable = b.0; formed = c.0; same = d.0; reported = e.0; enough = f.0 }

  buffer_is : (sheet_on m net buffer).buffer ≡ over (sheet_of m (desk_of net).held) buffer
  unfolding sheet_on
  buffer_is = let p = all_passed in rw (p.ok, p.storable, p.formed, p.same, p.reported, p.enough)

  sheet_narrow : NarrowSheet m (desk_of net).held
  sheet_narrow = let p = all_passed in narrow_sheet m net p.ok p.storable p.formed p.same p.reported

fit_stations : (m : Map) → Fits m → FitStations m.counts m.classes m.k
fit_stations m fits = record { at = λ i l. record { at = λ j l'. fits.counts (place i j) } }

columns_of : (m : Map) → Fits m → (net : Net) (buffer : List ℕ) → LaidOut m net buffer → Columns m (desk_of net).held
columns_of m fits net buffer laid =
    let narrow = sheet_narrow m net buffer laid in
    record {
      lot = length-column 15 m.lot (narrow_lot m.lot narrow.lot);
      station = λ i l. length-column 2 i (narrow_station i (omega (arith, l, narrow.stations)));
      class = λ j l. length-column 1 (j + 1) (narrow_class j (omega (arith, l, narrow.classes)));
      count = λ i j l l'. length_count (count_at m i j) (fits.counts (place i j));
      total = λ j l. length-column 12 _ (narrow_total _ (narrow.cells j l).total);
      missing = λ j l. length-column 2 _ (narrow_missing _ (narrow.cells j l).missing);
    }

long_as_said : (m : Map) → Fits m → (net : Net) (buffer : List ℕ) → LaidOut m net buffer → length (sheet_of m (desk_of net).held) ≡ sheet_length m
long_as_said m fits net buffer laid =
    length_sheet m (desk_of net).held (sheet_narrow m net buffer laid) (fit_stations m fits)

-- where the desk reports the counts of a class added, the lines above add up to them
module _ (m : Map) (held : Aggregate) (narrow : NarrowSheet m held) (fits : Fits m) (rest : List ℕ)
    (j : ℕ) (low : j < m.classes) (total : Reported summing m.k (λ i. count_at m i j) (cell held j)) where
  abbrev bytes : List ℕ
  bytes = sheet_of m held ++ rest

  few : j < 8
  few = omega (arith, low, narrow.classes)

  count_is : (i : ℕ) → i < m.k → count_in m bytes j i ≡ count_column (count_at m i j)
  count_is i l =
      ap (columns_at 5 10) (count_at_lem m held narrow (fit_stations m fits) rest i j l low)
      ∙ count_columns i j (count_at m i j) (omega (arith, l, narrow.stations)) few (fits.counts (place i j))

  last_is : line_at bytes (1 + (m.classes * m.k + j)) ≡ total_line j (cell held j)
  last_is = total-at m held narrow (fit_stations m fits) rest j low

  sums_up : AddsUp m bytes j
  sums_up =
      let x : Cell = cell held j in
      let h = narrow.cells j low in
      record {
        counts =
            sum_ext addition m.k _ _ (λ i l. ap shown (count_is i l) ∙ shown_count (count_at m i j) (fits.counts (place i j)))
            ∙ sym (total.sums refl)
            ∙ sym (ap (λ (l : List ℕ). shown (columns_at 5 12 l)) last_is
            ∙ ap shown (total_columns j x few h)
            ∙ shown-column 12 x.sum (omega (arith, h.total)));
        missing =
            sum_ext addition m.k _ _ (λ i l. ap (λ (y : List ℕ). indicator (is_hyphens y)) (count_is i l) ∙ hyphens_count (count_at m i j))
            ∙ sym total.missing
            ∙ sym (ap (λ (l : List ℕ). shown (columns_at 18 2 l)) last_is
            ∙ ap shown (missing_columns j x few h)
            ∙ shown-column 2 x.missing (omega (arith, h.missing)));
      }

-- the desk of a net that agrees with the map is the map's
desk_held_lem : (m : Map) (net : Net) → agrees (config_of summing m) net.config ≡ true → (station net m.desk).held ≡ (desk_of net).held
desk_held_lem m net same =
    ap (λ (i : ℕ). (station net i).held) (agreed (config_of summing m) net.config same).2

-- so the sheet of a net whose desk reports the map's counts added adds up
sound : (m : Map) → Fits m → (count : ℕ) (net : Net)
    → (count ≡ 1 → (j : ℕ) → j < m.classes → Reported summing m.k (λ i. count_at m i j) (cell (station net m.desk).held j))
    → Sound m count net
sound m fits count net number reported buffer laid j low =
    let held = (desk_of net).held in
    let desk = desk_held_lem m net (all_passed m net buffer laid).same in
    let rest = drop (length (sheet_of m held)) buffer in
    subst (λ (b : List ℕ). AddsUp m b j) (sym (buffer_is m net buffer laid))
    (sums_up m held (sheet_narrow m net buffer laid) fits rest j low
    (subst (λ (v : Aggregate). Reported summing m.k (λ i. count_at m i j) (cell v j)) desk (number reported j low)))

pub sheets : Sheets
sheets =
    record {
      columns = columns_of;
      long = long_as_said;
      adds_up = λ m fits good calls.
          sound m fits (reports (meeting summing) m calls) (left (meeting summing) m calls) (demand.stations_that_meet summing refl m fits good calls).in_words;
      adds_up_carrying = λ m fits good calls.
          sound m fits (reports (carrying summing) m calls) (left (carrying summing) m calls) (demand.carrying-back summing refl m fits good calls).in_words;
    }
