-- Reading, then writing: each piece of the stored form of the map that was read is the segment of bytes it was read from, and the
-- check word is the only one that takes the sum to zero. Assumes nothing.
use Rattle.std.proofs.Common.{◌≡◌, ℕ, zero, suc, ◌+◌, ◌-◌, ◌*◌, ◌/◌, ◌%◌, ◌^◌, ◌<◌, ◌≤◌, List, ◌++◌, length, get_or, take, drop, sym, refl, ap, ◌∙◌, mul-zero, mul-suc, arith, length-drop, take-append-drop, length-take-le, take_all}
use Rattle.finite.specs.Numbers.{number, bytes}
use Rattle.linemap.specs.Words.{sum_words}
use Rattle.finite.specs.Below.{each}
use Rattle.linemap.specs.Stored.{row_length, length_of, word_count, count_bytes, row_bytes, trailer_bytes, body_of, stored_of, check_word}
use Rattle.linemap.specs.Reading.{read_as, trailer_in, stations_in, desk_in, classes_in, lot_in, start_in, count_in, map_at, reading}
use Rattle.linemap.specs.Maps.{count_at}
use Rattle.linemap.specs.declared.Map.{Map}
use Rattle.linemap.proofs.Each.{each_same, column-at, grid-at}
use Rattle.finite.proofs.Digits.{segment, segment-join, number_small, bytes_again}
use Rattle.linemap.proofs.Words.{front_sum, past-sum, sum_small, check-only}
use Rattle.linemap.proofs.Rules.{row_below, Read, read_facts}

-- segments of w bytes, one after the other
each-segment : (s : List ℕ) (start w n : ℕ) → each (λ i. segment s (start + w * i) w) n ≡ segment s start (w * n)
unfolding each
each-segment s start w zero = ap (segment s start) (sym (mul-zero w))
each-segment s start w (suc n) =
    ap (λ (x : List ℕ). x ++ segment s (start + w * n) w) (each-segment s start w n)
    ∙ segment-join s start (w * n) w
    ∙ ap (segment s start) (sym (mul-suc w n))

module _ (s : List ℕ) (byte : (i : ℕ) → get_or s i 0 < 2 ^ 8) {n : Map} (r : Read s n) where
  abbrev c : ℕ
  c = classes_in s

  abbrev w : ℕ
  w = row_length c

  abbrev k : ℕ
  k = stations_in s

  abbrev start : ℕ
  start = start_in s

  abbrev m : Map
  m = map_at s c k (desk_in s) (lot_in s) start

  -- a number of the trailer, written again
  field : (n v at to : ℕ) → number s at n ≡ v → at ≡ to → to + n ≤ length s → bytes n v ≡ segment s to n
  field n v at to e p h = ap (bytes n) (sym e ∙ ap (λ (i : ℕ). number s i n) p) ∙ bytes_again s byte n to h

  join : {xs ys : List ℕ} (at n l : ℕ) → xs ≡ segment s at n → ys ≡ segment s (at + n) l → xs ++ ys ≡ segment s at (n + l)
  join at n l p q = rw (p, q) (segment-join s at n l)

  -- the numbers of row i, written again
  module _ (i : ℕ) (h : i < k) where
    abbrev a : ℕ
    a = start + w * i

    within : a + w + 16 ≤ length s
    within = omega (arith, r.fits, row_below w i k h)

    count_is : (j : ℕ) → j < c → bytes 4 (count_at m i j) ≡ segment s (a + 4 * j) 4
    count_is j l =
        ap (bytes 4) (grid-at (λ i. count_in s (start + w * i)) c r.few k i j h l)
        ∙ bytes_again s byte 4 (a + 4 * j) (omega (arith, within))

    row_is : row_bytes c m.counts m.neighbours i ≡ segment s a w
    unfolding row_bytes count_bytes
    row_is =
        let set_is = column-at 64 (λ i. number s (start + w * i + 4 * c) 8) k i h in
        let same : 4 * c + 8 ≡ w = omega arith in
        join a (4 * c) 8 (each_same _ _ c count_is ∙ each-segment s a 4 c)
        (ap (bytes 8) set_is ∙ bytes_again s byte 8 (a + 4 * c) (omega (arith, within)))
        ∙ ap (segment s a) same

  rows_are : each (row_bytes c m.counts m.neighbours) k ≡ segment s start (w * k)
  rows_are = each_same _ _ k row_is ∙ each-segment s start w k

  trailer_is : trailer_bytes w k m.desk m.lot ≡ segment s (start + w * k) 12
  unfolding trailer_bytes
  trailer_is =
      let t = start + w * k in
      let fits = r.fits in
      let small : number s (trailer_in s + 8) 4 < 2 ^ 32 = number_small s byte 4 _ in
      join t 8 4
      (join t 6 2
      (join t 4 2
      (join t 2 2
      (join t 1 1 (field 1 k (trailer_in s) t refl (omega arith) (omega arith))
      (field 1 (desk_in s) (trailer_in s + 1) (t + 1) refl (omega arith) (omega arith)))
      (field 2 w (trailer_in s + 2) (t + 2) r.row (omega arith) (omega arith)))
      (field 2 (w * k) (trailer_in s + 4) (t + 4) r.back (omega arith) (omega arith)))
      (field 2 (lot_in s / 2 ^ 32) (trailer_in s + 6) (t + 6) (omega arith) (omega arith) (omega arith)))
      (field 4 (lot_in s % 2 ^ 32) (trailer_in s + 8) (t + 8) (omega arith) (omega arith) (omega arith))

  body_is : body_of m ≡ segment s start (w * k + 12)
  unfolding body_of
  body_is = join start (w * k) 12 rows_are trailer_is

  -- the words of the body add up as they do in s
  body_sum : sum_words (body_of m) 0 (word_count c k - 1) ≡ sum_words s start (word_count c k - 1)
  body_sum =
      let n = word_count c k - 1 in
      let all = w * k + 12 in
      let b = segment s start all in
      let rest = drop all (drop start s) in
      let front = take start s in
      let front_length : length front ≡ start = length-take-le start s (omega arith) in
      let b-length : length b ≡ all = length-take-le all (drop start s) (omega (arith, length-drop start s, r.fits)) in
      let whole : front ++ (b ++ rest) ≡ s = ap (λ (x : List ℕ). front ++ x) (take-append-drop all (drop start s)) ∙ take-append-drop start s in
      ap (λ (x : List ℕ). sum_words x 0 n) body_is
      ∙ sym (front_sum b rest n 0 (omega arith))
      ∙ sym (past-sum front (b ++ rest) n 0 start (omega arith))
      ∙ ap (λ (x : List ℕ). sum_words x start n) whole

  check-is : number s (start + (w * k + 12)) 4 ≡ check_word (sum_words (body_of m) 0 (word_count c k - 1))
  unfolding sum_words
  check-is =
      let n = word_count c k - 1 in
      let last : word_count c k ≡ suc n = omega arith in
      let at : start + 4 * n ≡ start + (w * k + 12) = omega arith in
      let zero-sum : (sum_words s start n + number s (start + 4 * n) 4) % 2 ^ 32 ≡ 0 = ap (sum_words s start) (sym last) ∙ r.sum in
      ap (λ (i : ℕ). number s i 4) (sym at)
      ∙ check-only (sum_words s start n) (number s (start + 4 * n) 4) (sum_small s start n) (number_small s byte 4 (start + 4 * n)) zero-sum
      ∙ ap check_word (sym body_sum)

  stored_is : stored_of m ≡ drop start s
  unfolding stored_of
  stored_is =
      let at = start + (w * k + 12) in
      join start (w * k + 12) 4 body_is (field 4 _ at at check-is refl (omega (arith, r.fits)))
      ∙ take_all (w * k + 12 + 4) (drop start s) (omega (arith, length-drop start s, r.fits))

pub read_writes : (s : List ℕ) (m : Map) → ((i : ℕ) → get_or s i 0 < 2 ^ 8) → reading s ≡ read_as m
    → stored_of m ≡ drop (length s - length_of m) s
read_writes s m byte e =
    let r = read_facts s m e in
    ap stored_of (sym r.is) ∙ stored_is s byte r ∙ ap (λ (n : Map). drop (length s - length_of n) s) r.is
