-- The ways that laying out a sheet ends, as the tests of `put_sheet` go: one law for each refusal, and one for the sheet. Assumes nothing.
use mathlib.Core.Path.{◌≡◌, sym, ap, ap₂, ◌∙◌}
use mathlib.Core.Bool.{true, false, ◌&&◌}
use mathlib.Core.List.{List}
use Prim.Native.Nat.{ℕ, ◌^◌, ◌≤◌, ◌<◌}
use native.Mathlib.Omega.{arith}
use lib.ListN.{length}
use lib.Dec.{eqb, ltb}
use Rattle.std.specs.Prelude.{Ok, Err}
use borrow.Author.Tests.{lt-leb, le-leb, ltb-true, eqb-true}
use Rattle.finite.proofs.Cases.{and_both}
use Rattle.finite.proofs.Below.{all_below-at}
use Rattle.finite.specs.Internal.Putting.{Room}
use Rattle.finite.proofs.Stores.{put_front}
use Rattle.aggregate.specs.Ways.{summing}
use Rattle.aggregate.specs.Aggregate.{root_of, cell, bounded}
use Rattle.aggregate.specs.declared.Config.{Config}
use Rattle.aggregate.proofs.Laws.{class_count, root_below, cell_parts, bounded_at}
use Rattle.station.specs.Events.{finished}
use Rattle.topology.specs.declared.Fault.{Fault}
use Rattle.topology.specs.Answer.{is_accepted}
use Rattle.topology.specs.Acceptance.{fault_numbers}
use Rattle.topology.proofs.Answers.{fault_refuses}
use Rattle.linemap.specs.declared.Map.{Map}
use Rattle.linemap.specs.Maps.{config_of, acceptance}
use Rattle.linemap.specs.Writing.{is_storable}
use Rattle.linemap.proofs.Accepted.{map_classes, map_web}
use Rattle.rendezvous.specs.Net.{Net, well_formed}
use Rattle.rendezvous.proofs.Laws.{form_valid, held-bounded}
use Rattle.sheet.specs.declared.SheetFault.TheVariants.{Unfit, Lot, OutOfForm, Differs, Unreported, Buffer}
use Rattle.sheet.specs.Layout.{sheet_of}
use Rattle.sheet.specs.Sheet.{sheet_outcome_of, desk_of, agrees, are_narrow, is_reported, sheet_length, sheet_on}
use Rattle.sheet.specs.Internal.Laying.{Lays, NarrowSheet, FitStations}
use Rattle.sheet.proofs.Lines.{length_sheet}

-- what an agreement says
pub agreed : (s t : Config) → agrees s t ≡ true → (s.k ≡ t.k) × (s.classes ≡ t.classes) × (s.desk ≡ t.desk)
unfolding agrees
agreed s t h =
    let ways = and_both (eqb s.k t.k && eqb s.classes t.classes && eqb s.desk t.desk) (eqb s.way t.way) h in
    let last = and_both (eqb s.k t.k && eqb s.classes t.classes) (eqb s.desk t.desk) ways.0 in
    let first = and_both (eqb s.k t.k) (eqb s.classes t.classes) last.0 in
    (eqb-true _ _ first.0, eqb-true _ _ first.1, eqb-true _ _ last.1)

-- the numbers of a sheet fit their columns: those of a map to be written, and those that the desk reported
module _ (m : Map) (net : Net) (ok : is_accepted (acceptance m) ≡ true) (storable : is_storable m.lot ≡ true) (formed : well_formed net ≡ true)
    (same : agrees (config_of summing m) net.config ≡ true) (reported : is_reported m.classes (desk_of net) ≡ true) where
  few_classes : m.classes ≤ 8
  few_classes = (class_count m.classes (map_classes m ok)).1

  desk-bounded : bounded net.config (desk_of net).held ≡ true
  desk-bounded = held-bounded net formed (root_of net.config) (root_below net.config (form_valid net formed))

  class_missing : (j : ℕ) → j < m.classes → (cell (desk_of net).held j).missing ≤ 64
  class_missing j low =
      let classes = (agreed (config_of summing m) net.config same).1 in
      (cell_parts net.config.way (cell (desk_of net).held j)
      (bounded_at net.config (desk_of net).held desk-bounded j (omega (arith, low, classes, few_classes)))).1

  class_total : (j : ℕ) → j < m.classes → (cell (desk_of net).held j).sum < 10 ^ 12
  unfolding is_reported are_narrow
  class_total j low =
      let narrow = (and_both (eqb (desk_of net).state finished) (are_narrow m.classes (desk_of net)) reported).1 in
      ltb-true _ _ (all_below-at (λ i. ltb (cell (desk_of net).held i).sum (10 ^ 12)) m.classes j narrow low)

  pub narrow_sheet : NarrowSheet m (desk_of net).held
  narrow_sheet =
      record {
        lot = ltb-true m.lot (2 ^ 48) storable;
        stations = (map_web m ok).few_stations;
        classes = few_classes;
        cells = λ j low. record { total = class_total j low; missing = class_missing j low };
      }

module _ (m : Map) (net : Net) (l : List ℕ) where
  pub unfit : (fault : Fault) → fault_numbers fault ≡ acceptance m → sheet_outcome_of (Err (Unfit fault)) l ≡ sheet_on m net l
  unfolding sheet_on
  unfit fault told =
      let fails : is_accepted (acceptance m) ≡ false = ap is_accepted (sym told) ∙ fault_refuses fault in
      rw fails (ap (λ (x : List ℕ). record { numbers = x; buffer = l }) told)

  module _ (ok : is_accepted (acceptance m) ≡ true) where
    pub long_lot : is_storable m.lot ≡ false → sheet_outcome_of (Err Lot) l ≡ sheet_on m net l
    unfolding sheet_on
    long_lot fails = rw (ok, fails)

    module _ (storable : is_storable m.lot ≡ true) where
      pub out_of_form : well_formed net ≡ false → sheet_outcome_of (Err OutOfForm) l ≡ sheet_on m net l
      unfolding sheet_on
      out_of_form fails = rw (ok, storable, fails)

      module _ (formed : well_formed net ≡ true) where
        pub differs : agrees (config_of summing m) net.config ≡ false → sheet_outcome_of (Err Differs) l ≡ sheet_on m net l
        unfolding sheet_on
        differs fails = rw (ok, storable, formed, fails)

        module _ (same : agrees (config_of summing m) net.config ≡ true) where
          pub unreported : is_reported m.classes (desk_of net) ≡ false → sheet_outcome_of (Err Unreported) l ≡ sheet_on m net l
          unfolding sheet_on
          unreported fails = rw (ok, storable, formed, same, fails)

          module _ (reported : is_reported m.classes (desk_of net) ≡ true) where
            pub too_short : (need : ℕ) → need ≡ sheet_length m → length l < need → sheet_outcome_of (Err (Buffer need)) l ≡ sheet_on m net l
            unfolding sheet_on
            too_short need e less =
                rw (ok, storable, formed, same, reported, lt-leb (sheet_length m) (length l) (omega (arith, e, less)))
                (ap (λ (n : ℕ). sheet_outcome_of (Err (Buffer n)) l) e)

            pub lays_sheet : (need : ℕ) {l' : List ℕ} {r : ℕ} → FitStations m.counts m.classes m.k → need ≡ sheet_length m → need ≤ length l
                → Lays l 0 (sheet_of m (desk_of net).held) l' r → sheet_outcome_of (Ok need) l' ≡ sheet_on m net l
            unfolding sheet_on
            lays_sheet need fits e enough lays =
                let held = (desk_of net).held in
                let long = length_sheet m held (narrow_sheet m net ok storable formed same reported) fits in
                let room : Room l 0 (sheet_of m held) = record { fits = omega (arith, long, e, enough) } in
                rw (ok, storable, formed, same, reported, le-leb (sheet_length m) (length l) (omega (arith, e, enough)))
                (ap₂ (λ (n : ℕ) (b : List ℕ). sheet_outcome_of (Ok n) b) e (put_front room (lays.put room)).1)
