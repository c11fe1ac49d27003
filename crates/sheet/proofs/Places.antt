-- Where the lines of a sheet stand, and the columns in a line. Assumes nothing.
use mathlib.Core.Path.{◌≡◌, sym, ap, ◌∙◌}
use mathlib.Core.List.{List, ◌++◌, append_assoc}
use Prim.Native.Nat.{ℕ, ◌+◌, ◌*◌, ◌^◌, ◌<◌}
use native.Mathlib.Nat.{mul_assoc}
use native.Mathlib.Omega.{arith}
use lib.ListN.{length, take, drop}
use lib.Seq.{take_at, drop_at, drop-drop}
use Rattle.finite.specs.Below.{each}
use Rattle.aggregate.specs.declared.Cell.{Cell}
use Rattle.aggregate.specs.declared.Aggregate.{Aggregate}
use Rattle.aggregate.specs.Aggregate.{cell}
use Rattle.text.specs.Ascii.{ascii}
use Rattle.linemap.specs.declared.Map.{Map}
use Rattle.linemap.specs.Maps.{count_at}
use Rattle.linemap.proofs.Each.{length-each, each-split}
use Rattle.sheet.specs.Layout.{column, spaced, line, lot_line, count_column, count_line, total_line, station_lines, total_lines, sheet_of}
use Rattle.sheet.specs.Adding.{line_at, columns_at}
use Rattle.sheet.specs.Internal.Laying.{NarrowCell, NarrowSheet, FitStations}
use Rattle.sheet.proofs.Columns.{length-column, length_count, narrow_lot, narrow_total, narrow_missing}
use Rattle.sheet.proofs.Lines.{fill, count_head, total_head, total_front, length-count_head, length-total_head, length-total_front}
use Rattle.sheet.proofs.Lines.{length-lot_line, length-count_line, length-total_line, length-station}

-- what stands from piece i on, of n pieces of w bytes each
piece_from : (f : ℕ → List ℕ) (w n : ℕ) → ((i : ℕ) → i < n → length (f i) ≡ w) → (rest : List ℕ) (i : ℕ) → i < n
    → (after : List ℕ) × (drop (w * i) (each f n ++ rest) ≡ f i ++ after)
piece_from f w n h rest i low =
    let split = each-split f n i low in
    let after : List ℕ = split.0 ++ rest in
    let grouped : each f i ++ (f i ++ split.0) ++ rest ≡ each f i ++ (f i ++ after) = simp append_assoc in (
      after,
      ap (drop (w * i)) (ap (λ (l : List ℕ). l ++ rest) split.1 ∙ grouped)
          ∙ drop_at (each f i) (f i ++ after) (w * i) (length-each f w i (λ x l. h x (omega (arith, l, low)))),
    )

module _ (m : Map) (held : Aggregate) (narrow : NarrowSheet m held) (counts : FitStations m.counts m.classes m.k) (rest : List ℕ) where
  abbrev after : List ℕ
  after = total_lines m.classes held ++ rest

  block : (i : ℕ) → i < m.k → length (station_lines m i) ≡ 41 * m.classes
  block i low = length-station m i (omega (arith, low, narrow.stations)) narrow.classes (counts.at i low)

  -- past the lot
  first : drop 41 (sheet_of m held ++ rest) ≡ each (station_lines m) m.k ++ after
  unfolding sheet_of
  first =
      let lot : List ℕ = lot_line m.lot in
      let stations : List ℕ = each (station_lines m) m.k in
      ap (drop 41) (append_assoc (lot ++ stations) (total_lines m.classes held) rest ∙ append_assoc lot stations after)
      ∙ drop_at lot (stations ++ after) 41 (length-lot_line m.lot (narrow_lot m.lot narrow.lot))

  -- line 1 + (c × i + j), from what stands past the lines of i stations
  from_block : (i j : ℕ) → drop (41 * (1 + (m.classes * i + j))) (sheet_of m held ++ rest)
      ≡ drop (41 * j) (drop (41 * m.classes * i) (each (station_lines m) m.k ++ after))
  from_block i j =
      let split : 41 * (1 + (m.classes * i + j)) ≡ 41 + (41 * m.classes * i + 41 * j) = omega (arith, mul_assoc 41 m.classes i) in
      ap (λ (n : ℕ). drop n (sheet_of m held ++ rest)) split
      ∙ sym (drop-drop (41 * m.classes * i + 41 * j) 41 (sheet_of m held ++ rest))
      ∙ ap (drop (41 * m.classes * i + 41 * j)) first
      ∙ sym (drop-drop (41 * j) (41 * m.classes * i) (each (station_lines m) m.k ++ after))

  pub count_at_lem : (i j : ℕ) → i < m.k → j < m.classes → line_at (sheet_of m held ++ rest) (1 + (m.classes * i + j)) ≡ count_line i j (count_at m i j)
  unfolding station_lines
  count_at_lem i j low few =
      let long : (x : ℕ) → x < m.classes → length (count_line i x (count_at m i x)) ≡ 41 =
      λ x l. length-count_line i x (count_at m i x) (omega (arith, low, narrow.stations)) (omega (arith, l, narrow.classes)) ((counts.at i low).at x l) in
      let station = piece_from (station_lines m) (41 * m.classes) m.k block after i low in
      let class = piece_from (λ x. count_line i x (count_at m i x)) 41 m.classes long station.0 j few in
      ap (take 41) (from_block i j ∙ ap (drop (41 * j)) station.1 ∙ class.1)
      ∙ take_at (count_line i j (count_at m i j)) class.0 41 (long j few)

  pub total-at : (j : ℕ) → j < m.classes → line_at (sheet_of m held ++ rest) (1 + (m.classes * m.k + j)) ≡ total_line j (cell held j)
  unfolding total_lines
  total-at j few =
      let long : (x : ℕ) → x < m.classes → length (total_line x (cell held x)) ≡ 41 =
      λ x l. length-total_line x (cell held x) (omega (arith, l, narrow.classes)) (narrow.cells x l) in
      let class = piece_from (λ x. total_line x (cell held x)) 41 m.classes long rest j few in
      let stations : List ℕ = each (station_lines m) m.k in
      ap (take 41)
      (from_block m.k j
      ∙ ap (drop (41 * j)) (drop_at stations after (41 * m.classes * m.k) (length-each (station_lines m) (41 * m.classes) m.k block))
      ∙ class.1)
      ∙ take_at (total_line j (cell held j)) class.0 41 (long j few)

columns_at_lem : (a b c : List ℕ) (at w : ℕ) → length a ≡ at → length b ≡ w → columns_at at w (a ++ (b ++ c)) ≡ b
columns_at_lem a b c at w p q = ap (take w) (drop_at a (b ++ c) at p) ∙ take_at b c w q

pub count_columns : (i j count : ℕ) → i < 64 → j < 8 → count < 2 ^ 32 → columns_at 5 10 (count_line i j count) ≡ count_column count
unfolding count_line line
count_columns i j count low few fits =
    let rest : List ℕ = fill (length (count_head i j ++ count_column count)) in
    ap (columns_at 5 10) (append_assoc (count_head i j) (count_column count) rest)
    ∙ columns_at_lem (count_head i j) (count_column count) rest 5 10 (length-count_head i j count low few fits) (length_count count fits)

module _ (j : ℕ) (x : Cell) (few : j < 8) (h : NarrowCell x) where
  abbrev number : List ℕ
  number = column 2 x.missing

  abbrev end : List ℕ
  end = fill (length (total_front j x ++ number))

  pub total_columns : columns_at 5 12 (total_line j x) ≡ column 12 x.sum
  unfolding total_line line spaced
  total_columns =
      let total : List ℕ = column 12 x.sum in
      ap (columns_at 5 12)
      (append_assoc (total_front j x) number end
      ∙ append_assoc (total_head j) (total ++ ascii " ") (number ++ end)
      ∙ ap (λ (l : List ℕ). total_head j ++ l) (append_assoc total (ascii " ") (number ++ end)))
      ∙ columns_at_lem (total_head j) total (ascii " " ++ (number ++ end)) 5 12 (length-total_head j x few h)
      (length-column 12 x.sum (narrow_total x.sum h.total))

  pub missing_columns : columns_at 18 2 (total_line j x) ≡ number
  unfolding total_line line
  missing_columns =
      ap (columns_at 18 2) (append_assoc (total_front j x) number end)
      ∙ columns_at_lem (total_front j x) number end 18 2 (length-total_front j x few h)
      (length-column 2 x.missing (narrow_missing x.missing h.missing))
