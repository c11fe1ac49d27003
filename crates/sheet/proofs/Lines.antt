-- Lines: how long what stands in each is, so how many blanks fill it; every line has 41 bytes, so a sheet has 41 for each. Assumes nothing.
use mathlib.Core.Path.{◌≡◌, ap, ◌∙◌}
use mathlib.Core.List.{List, ◌++◌}
use Prim.Native.Nat.{ℕ, ◌+◌, ◌*◌, ◌-◌, ◌^◌, ◌≤◌, ◌<◌}
use Prim.Native.Char.{code}
use native.Mathlib.Nat.{mul_assoc, mul_comm}
use native.Mathlib.Omega.{arith}
use lib.ListN.{length, replicate, length-append, length-replicate}
use Rattle.finite.specs.Below.{each}
use Rattle.aggregate.specs.declared.Cell.{Cell}
use Rattle.aggregate.specs.declared.Aggregate.{Aggregate}
use Rattle.aggregate.specs.Aggregate.{cell}
use Rattle.text.specs.Ascii.{ascii}
use Rattle.linemap.specs.declared.Map.{Map}
use Rattle.linemap.specs.Maps.{count_at}
use Rattle.linemap.proofs.Each.{length-each}
use Rattle.sheet.specs.Layout.{column, spaced, line, lot_line, count_column, count_line, total_line, station_lines, total_lines, sheet_of}
use Rattle.sheet.specs.Sheet.{sheet_length}
use Rattle.sheet.specs.Internal.Laying.{Narrow, NarrowCell, NarrowSheet, FitStation, FitStations}
use Rattle.sheet.proofs.Columns.{length-column, length-spaced, length_count, narrow_lot, narrow_station, narrow_class, narrow_total, narrow_missing}

-- what fills a line after a text of so many bytes
abbrev pub fill : ℕ → List ℕ
fill n = replicate (40 - n) (code " ") ++ ascii "\n"

line-fill : (text : List ℕ) (n : ℕ) → length text ≡ n → line text ≡ text ++ fill n
unfolding line
line-fill text n e = ap (λ (x : ℕ). text ++ fill x) e

length-line : (text : List ℕ) → length text ≤ 40 → length (line text) ≡ 41
unfolding line
length-line text h =
    length-append text (fill (length text))
    ∙ ap (λ (n : ℕ). length text + n)
    (length-append (replicate (40 - length text) (code " ")) (ascii "\n") ∙ ap (λ (n : ℕ). n + 1) (length-replicate (40 - length text) (code " ")))
    ∙ omega arith

module _ (lot : ℕ) (h : Narrow 15 lot) where
  length_lot : length (column 15 lot) ≡ 15
  length_lot = length-column 15 lot h

  pub lot_line_lem : lot_line lot ≡ column 15 lot ++ ascii "                         \n"
  unfolding lot_line
  lot_line_lem = line-fill (column 15 lot) 15 length_lot

  pub length-lot_line : length (lot_line lot) ≡ 41
  unfolding lot_line
  length-lot_line = length-line (column 15 lot) (omega (arith, length_lot))

-- what stands before the count of station i and class j, 5 bytes
abbrev pub count_head : ℕ → ℕ → List ℕ
count_head i j = spaced 2 i ++ spaced 1 (j + 1)

module _ (i j count : ℕ) (low : i < 64) (few : j < 8) (fits : count < 2 ^ 32) where
  abbrev count_text : List ℕ
  count_text = count_head i j ++ count_column count

  pub length-count_head : length (count_head i j) ≡ 5
  length-count_head =
      length-append (spaced 2 i) (spaced 1 (j + 1))
      ∙ omega (arith, length-spaced 2 i (narrow_station i low), length-spaced 1 (j + 1) (narrow_class j few))

  length-count_text : length count_text ≡ 15
  length-count_text = length-append (count_head i j) (count_column count) ∙ omega (arith, length-count_head, length_count count fits)

  pub count_line_lem : count_line i j count ≡ count_text ++ ascii "                         \n"
  unfolding count_line
  count_line_lem = line-fill count_text 15 length-count_text

  pub length-count_line : length (count_line i j count) ≡ 41
  unfolding count_line
  length-count_line = length-line count_text (omega (arith, length-count_text))

-- what stands before the total of class j, 5 bytes
abbrev pub total_head : ℕ → List ℕ
total_head j = ascii "T  " ++ spaced 1 (j + 1)

-- and before the missing number, 18 bytes
abbrev pub total_front : ℕ → Cell → List ℕ
total_front j x = total_head j ++ spaced 12 x.sum

module _ (j : ℕ) (x : Cell) (few : j < 8) (h : NarrowCell x) where
  abbrev total_text : List ℕ
  total_text = total_front j x ++ column 2 x.missing

  pub length-total_head : length (total_head j) ≡ 5
  length-total_head = length-append (ascii "T  ") (spaced 1 (j + 1)) ∙ omega (arith, length-spaced 1 (j + 1) (narrow_class j few))

  pub length-total_front : length (total_front j x) ≡ 18
  length-total_front =
      length-append (total_head j) (spaced 12 x.sum)
      ∙ omega (arith, length-total_head, length-spaced 12 x.sum (narrow_total x.sum h.total))

  length-total_text : length total_text ≡ 20
  length-total_text =
      length-append (total_front j x) (column 2 x.missing)
      ∙ omega (arith, length-total_front, length-column 2 x.missing (narrow_missing x.missing h.missing))

  pub total_line_lem : total_line j x ≡ total_text ++ ascii "                    \n"
  unfolding total_line
  total_line_lem = line-fill total_text 20 length-total_text

  pub length-total_line : length (total_line j x) ≡ 41
  unfolding total_line
  length-total_line = length-line total_text (omega (arith, length-total_text))

pub length-station : (m : Map) (i : ℕ) → i < 64 → m.classes ≤ 8 → FitStation m.counts i m.classes → length (station_lines m i) ≡ 41 * m.classes
unfolding station_lines
length-station m i low few counts =
    length-each (λ j. count_line i j (count_at m i j)) 41 m.classes
    (λ j l. length-count_line i j (count_at m i j) low (omega (arith, l, few)) (counts.at j l))

length-totals : (m : Map) (held : Aggregate) → NarrowSheet m held → length (total_lines m.classes held) ≡ 41 * m.classes
unfolding total_lines
length-totals m held narrow =
    length-each (λ j. total_line j (cell held j)) 41 m.classes
    (λ j l. length-total_line j (cell held j) (omega (arith, l, narrow.classes)) (narrow.cells j l))

-- "exactly 40 bytes and a line feed" for every line
pub length_sheet : (m : Map) (held : Aggregate) → NarrowSheet m held → FitStations m.counts m.classes m.k
    → length (sheet_of m held) ≡ sheet_length m
unfolding sheet_of
length_sheet m held narrow counts =
    let stations : List ℕ = each (station_lines m) m.k in
    let block : length stations ≡ 41 * m.classes * m.k =
    length-each (station_lines m) (41 * m.classes) m.k
    (λ i l. length-station m i (omega (arith, l, narrow.stations)) narrow.classes (counts.at i l)) in
    let product : 41 * m.classes * m.k ≡ 41 * (m.k * m.classes) =
    mul_assoc 41 m.classes m.k ∙ ap (λ (x : ℕ). 41 * x) (mul_comm m.classes m.k) in
    length-append (lot_line m.lot ++ stations) (total_lines m.classes held)
    ∙ omega (
      arith,
      length-append (lot_line m.lot) stations,
      length-lot_line m.lot (narrow_lot m.lot narrow.lot),
      block,
      product,
      length-totals m held narrow,
    )
