-- The stored form is what the writer's parts lay over the front of the buffer, one after the other; the words summed on the way are
-- those of the body. Assumes nothing.
use Rattle.std.proofs.Common.{◌≡◌, ℕ, ◌+◌, ◌-◌, ◌*◌, ◌/◌, ◌%◌, ◌^◌, ◌≤◌, List, ◌++◌, length, slice_index, take, drop, ap, ◌∙◌, arith, length-append, get_or-take, get_or-drop}
use borrow.Rule.Slice.PartMut.{mid_of, mid_len}
use Rattle.finite.specs.Numbers.{bytes}
use Rattle.linemap.specs.Words.{sum_words}
use Rattle.linemap.specs.Internal.Stages.{put, bytes_of_counts}
use Rattle.finite.specs.Below.{each}
use Rattle.linemap.specs.Maps.{place}
use Rattle.linemap.specs.Stored.{row_length, trailer_length, length_of, word_count, check_word}
use Rattle.linemap.specs.Stored.{count_bytes, row_bytes, trailer_bytes, body_of, stored_of}
use Rattle.linemap.specs.declared.Map.{Map}
use Rattle.linemap.proofs.Each.{length-each, each_same}
use Rattle.linemap.proofs.Put.{lay, put_front}
use Rattle.finite.proofs.Digits.{length-bytes}
use Rattle.linemap.proofs.Words.{front_sum}

pub length-counts : (c : ℕ) (counts : List ℕ) (i : ℕ) → length (count_bytes c counts i) ≡ 4 * c
unfolding count_bytes
length-counts c counts i = length-each _ 4 c (λ j l. length-bytes 4 _)

pub length-bytes_of_counts : (counts : List ℕ) → length (bytes_of_counts counts) ≡ 4 * length counts
unfolding bytes_of_counts
length-bytes_of_counts counts = length-each _ 4 (length counts) (λ j l. length-bytes 4 _)

-- the c counts of station i, taken out of the counts of all
pub counts_taken : (c : ℕ) (counts : List ℕ) (i : ℕ) → place i c ≤ length counts
    → bytes_of_counts (mid_of (8 * i) (place i c - 8 * i) counts) ≡ count_bytes c counts i
unfolding bytes_of_counts count_bytes
counts_taken c counts i within =
    let n : ℕ = place i c - 8 * i in
    let rest : List ℕ = drop (8 * i) counts in
    let long : length (take n rest) ≡ c = mid_len (8 * i) (place i c) counts within ∙ omega arith in
    ap (each (λ j. bytes 4 (slice_index (take n rest) j))) long
    ∙ each_same _ _ c (λ j l. ap (bytes 4) (get_or-take n rest j 0 (omega (arith, l)) ∙ get_or-drop (8 * i) counts j 0))

length-row : (c : ℕ) (counts neighbours : List ℕ) (i : ℕ) → length (row_bytes c counts neighbours i) ≡ row_length c
unfolding row_bytes
length-row c counts neighbours i = simp (length-append, length-bytes, length-counts) (omega arith)

length_trailer : (w k desk lot : ℕ) → length (trailer_bytes w k desk lot) ≡ trailer_length - 4
unfolding trailer_bytes
length_trailer w k desk lot = simp (length-append, length-bytes)

pub trailer_laid : {stations desk-too row back high whole : List ℕ} (l : List ℕ) (w k desk lot : ℕ)
    → stations ≡ put l (w * k) (bytes 1 k)
    → desk-too ≡ put stations (w * k + 1) (bytes 1 desk)
    → row ≡ put desk-too (w * k + 2) (bytes 2 w)
    → back ≡ put row (w * k + 4) (bytes 2 (w * k))
    → high ≡ put back (w * k + 6) (bytes 2 (lot / 2 ^ 32))
    → whole ≡ put high (w * k + 8) (bytes 4 (lot % 2 ^ 32))
    → whole ≡ put l (w * k) (trailer_bytes w k desk lot)
unfolding trailer_bytes
trailer_laid l w k desk lot to-stations to-desk to_row to_back to_high to_low =
    let t = w * k in
    let one = lay l t (bytes 1 k) (bytes 1 desk) (t + 1) to-stations to-desk (simp length-bytes) in
    let two = lay l t _ (bytes 2 w) (t + 2) one to_row (simp (length-append, length-bytes)) in
    let three = lay l t _ (bytes 2 t) (t + 4) two to_back (simp (length-append, length-bytes)) in
    let four = lay l t _ (bytes 2 (lot / 2 ^ 32)) (t + 6) three to_high (simp (length-append, length-bytes)) in
    lay l t _ (bytes 4 (lot % 2 ^ 32)) (t + 8) four to_low (simp (length-append, length-bytes))

module _ (m : Map) where
  abbrev c : ℕ
  c = m.classes

  pub length-rows : (n : ℕ) → length (each (row_bytes c m.counts m.neighbours) n) ≡ row_length c * n
  length-rows n = length-each (row_bytes c m.counts m.neighbours) (row_length c) n (λ i l. length-row c m.counts m.neighbours i)

  pub length_body : length (body_of m) ≡ length_of m - 4
  unfolding body_of
  length_body = simp (length-append, length-rows, length_trailer) (omega arith)

  pub length-stored : length (stored_of m) ≡ length_of m
  unfolding stored_of
  length-stored = simp (length-append, length_body, length-bytes) (omega arith)

  pub stored-laid : {rows body whole : List ℕ} {sum check : ℕ} (l : List ℕ) → length_of m ≤ length l
      → rows ≡ put l 0 (each (row_bytes c m.counts m.neighbours) m.k)
      → body ≡ put rows (row_length c * m.k) (trailer_bytes (row_length c) m.k m.desk m.lot)
      → sum ≡ sum_words body 0 (word_count c m.k - 1)
      → check ≡ check_word sum
      → whole ≡ put body (length_of m - 4) (bytes 4 check)
      → whole ≡ put l 0 (stored_of m)
  unfolding stored_of body_of
  stored-laid {check = check} l fits rows_are body_is sum_is_lem check-is whole_is =
      let n = word_count c m.k - 1 in
      let laid : _ ≡ put l 0 (body_of m) = lay l 0 _ _ (row_length c * m.k) rows_are body_is (omega (arith, length-rows m.k)) in
      let sum-of-body = sum_is_lem ∙ ap (λ (b : List ℕ). sum_words b 0 n) (laid ∙ put_front l (body_of m) (omega (arith, length_body)))
      ∙ front_sum (body_of m) (drop (length (body_of m)) l) n 0 (omega (arith, length_body)) in
      lay l 0 (body_of m) (bytes 4 check) (length_of m - 4) laid whole_is (omega (arith, length_body))
      ∙ ap (λ (w : ℕ). put l 0 (body_of m ++ bytes 4 w)) (check-is ∙ ap check_word sum-of-body)
