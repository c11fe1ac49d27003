-- Writing, then reading: each field of the stored form is found again where the reader looks for it, whatever stands before, and
-- the map of these fields is accepted since the class count and the sets below k are the same. Assumes nothing.
use Rattle.std.proofs.Common.{◌≡◌, ℕ, suc, ◌+◌, ◌-◌, ◌*◌, ◌/◌, ◌%◌, ◌^◌, ◌<◌, ◌≤◌, true, List, ◌++◌, length, get_or, sym, ap, ◌∙◌, ap₂, append_assoc, mul-le-mul_right, mod-eq_of_lt, arith, length-append, eq-eqb}
use Rattle.aggregate.specs.Aggregate.{is_class_count}
use Rattle.topology.specs.Answer.{accepted, is_accepted}
use Rattle.topology.specs.Web.{Web}
use Rattle.topology.proofs.Webs.{web_agree, web_count}
use Rattle.finite.specs.Numbers.{number, bytes}
use Rattle.linemap.specs.Words.{sum_words}
use Rattle.finite.specs.Below.{each}
use Rattle.linemap.specs.Maps.{acceptance, place, count_at}
use Rattle.linemap.specs.Stored.{row_length, length_of, word_count, count_bytes, row_bytes, trailer_bytes, body_of, stored_of, check_word}
use Rattle.linemap.specs.Reading.{read_as, trailer_in, stations_in, desk_in, row_length_in, distance_in, lot_in, map_at, judged, reading}
use Rattle.linemap.specs.RoundTrip.{Fits, cleared_of}
use Rattle.linemap.specs.declared.Map.{Map}
use Rattle.linemap.proofs.Accepted.{map_classes, map_web, map-desk, map-accepted}
use Rattle.linemap.proofs.Each.{each-split, column-same, column-at, grid-same}
use Rattle.finite.proofs.Digits.{length-bytes, front_number, past-number, number_of-bytes}
use Rattle.linemap.proofs.Words.{front_sum, past-sum, sum_small, check_small, check-zero}
use Rattle.linemap.proofs.StoredForm.{length-counts, length-rows, length_body, length-stored}
use Rattle.aggregate.proofs.Laws.{class_count}
use Rattle.linemap.proofs.Rules.{reading-left}

-- a number of n bytes that stands between two lists
number_between : (p q : List ℕ) (n x at : ℕ) → at ≡ length p → x < 2 ^ (8 * n) → number (p ++ (bytes n x ++ q)) at n ≡ x
number_between p q n x at e small =
    past-number p (bytes n x ++ q) n 0 at (omega arith)
    ∙ front_number (bytes n x) q n 0 (omega (arith, length-bytes n x))
    ∙ number_of-bytes n x
    ∙ mod-eq_of_lt small

module _ (m : Map) where
  abbrev c : ℕ
  c = m.classes

  abbrev w : ℕ
  w = row_length c

  abbrev row : ℕ → List ℕ
  row = row_bytes c m.counts m.neighbours

  abbrev rows : List ℕ
  rows = each row m.k

  abbrev check : ℕ
  check = check_word (sum_words (body_of m) 0 (word_count c m.k - 1))

  -- k and the desk
  abbrev stations : List ℕ
  stations = bytes 1 m.k ++ bytes 1 m.desk

  -- the two parts of the lot
  abbrev high : List ℕ
  high = bytes 2 (m.lot / 2 ^ 32)

  abbrev low : List ℕ
  low = bytes 4 (m.lot % 2 ^ 32)

  -- all the words add to zero
  sum-zero : sum_words (stored_of m) 0 (word_count c m.k) ≡ 0
  unfolding sum_words stored_of
  sum-zero =
      let n = word_count c m.k - 1 in
      let body = body_of m in
      let last : word_count c m.k ≡ suc n = omega arith in
      let check-read : number (body ++ bytes 4 check) (0 + 4 * n) 4 ≡ check =
      past-number body (bytes 4 check) 4 0 (0 + 4 * n) (omega (arith, length_body m))
      ∙ number_of-bytes 4 check
      ∙ mod-eq_of_lt (check_small (sum_words body 0 n)) in
      ap (sum_words (body ++ bytes 4 check) 0) last
      ∙ ap₂ (λ (x y : ℕ). (x + y) % 2 ^ 32) (front_sum body (bytes 4 check) n 0 (omega (arith, length_body m))) check-read
      ∙ check-zero (sum_words body 0 n) (sum_small body 0 n)

  module _ (fits : Fits m) (lot-small : m.lot < 2 ^ 48) (ok : acceptance m ≡ accepted) (before : List ℕ) where
    web : Web m.desk m.k m.neighbours
    web = map_web m (ap is_accepted ok)

    classes : is_class_count c ≡ true
    classes = map_classes m (ap is_accepted ok)

    -- the distance is a number of two bytes
    near : w * m.k ≤ 40 * m.k
    near = mul-le-mul_right m.k (let least = class_count c classes in let short : w ≤ 40 = omega arith in short)

    abbrev whole : List ℕ
    whole = before ++ stored_of m

    len : length whole ≡ length before + length_of m
    len = length-append before (stored_of m) ∙ omega (arith, length-stored m)

    -- a number of n bytes, with what is stored before and after it
    field : (p q : List ℕ) (n x at : ℕ) → stored_of m ≡ p ++ (bytes n x ++ q) → at ≡ length before + length p → x < 2 ^ (8 * n)
        → number whole at n ≡ x
    field p q n x at e place small =
        ap (λ (l : List ℕ). number l at n) (ap (λ (l : List ℕ). before ++ l) e ∙ sym (append_assoc before p (bytes n x ++ q)))
        ∙ number_between (before ++ p) q n x at (place ∙ sym (length-append before p)) small

    stations_are : stations_in whole ≡ m.k
    unfolding stored_of body_of trailer_bytes
    stations_are =
        field rows (bytes 1 m.desk ++ (bytes 2 w ++ (bytes 2 (w * m.k) ++ (high ++ (low ++ bytes 4 check))))) 1 m.k _
        (simp append_assoc) (omega (arith, len, length-rows m m.k)) (omega (arith, web.few_stations))

    desk-is : desk_in whole ≡ m.desk
    unfolding stored_of body_of trailer_bytes
    desk-is =
        field (rows ++ bytes 1 m.k) (bytes 2 w ++ (bytes 2 (w * m.k) ++ (high ++ (low ++ bytes 4 check)))) 1 m.desk _
        (simp append_assoc) (simp (length-append, length-bytes) (omega (arith, len, length-rows m m.k)))
        (omega (arith, web.few_stations, map-desk m (ap is_accepted ok)))

    row_is : row_length_in whole ≡ w
    unfolding stored_of body_of trailer_bytes
    row_is =
        field (rows ++ stations) (bytes 2 (w * m.k) ++ (high ++ (low ++ bytes 4 check))) 2 w _
        (simp append_assoc) (simp (length-append, length-bytes) (omega (arith, len, length-rows m m.k)))
        (omega (arith, class_count c classes))

    distance_is : distance_in whole ≡ w * m.k
    unfolding stored_of body_of trailer_bytes
    distance_is =
        field (rows ++ (stations ++ bytes 2 w)) (high ++ (low ++ bytes 4 check)) 2 (w * m.k) _
        (simp append_assoc) (simp (length-append, length-bytes) (omega (arith, len, length-rows m m.k)))
        (omega (arith, near, web.few_stations))

    high_is : number whole (trailer_in whole + 6) 2 ≡ m.lot / 2 ^ 32
    unfolding stored_of body_of trailer_bytes
    high_is =
        field (rows ++ (stations ++ (bytes 2 w ++ bytes 2 (w * m.k)))) (low ++ bytes 4 check) 2 (m.lot / 2 ^ 32) _
        (simp append_assoc) (simp (length-append, length-bytes) (omega (arith, len, length-rows m m.k))) (omega arith)

    low-is : number whole (trailer_in whole + 8) 4 ≡ m.lot % 2 ^ 32
    unfolding stored_of body_of trailer_bytes
    low-is =
        field (rows ++ (stations ++ (bytes 2 w ++ (bytes 2 (w * m.k) ++ high)))) (bytes 4 check) 4 (m.lot % 2 ^ 32) _
        (simp append_assoc) (simp (length-append, length-bytes) (omega (arith, len, length-rows m m.k))) (omega arith)

    lot_is : lot_in whole ≡ m.lot
    lot_is = omega (arith, high_is, low-is)

    sum_is : sum_words whole (length before) (word_count c m.k) ≡ 0
    sum_is = past-sum before (stored_of m) (word_count c m.k) 0 (length before) (omega arith) ∙ sum-zero

    -- the numbers of row i
    module _ (i : ℕ) (h : i < m.k) where
      abbrev counts : ℕ → List ℕ
      counts n = count_bytes n m.counts i

      abbrev set : List ℕ
      set = bytes 8 (get_or m.neighbours i 0)

      abbrev rest : List ℕ
      rest = (each-split row m.k i h).0 ++ (trailer_bytes w m.k m.desk m.lot ++ bytes 4 check)

      split : stored_of m ≡ each row i ++ (counts c ++ (set ++ rest))
      unfolding stored_of body_of row_bytes
      split = ap (λ (l : List ℕ). l ++ trailer_bytes w m.k m.desk m.lot ++ bytes 4 check) (each-split row m.k i h).1 ∙ simp append_assoc

      -- behind the first n counts
      behind : (n : ℕ) → length before + w * i + 4 * n ≡ length before + length (each row i ++ counts n)
      behind n = omega (arith, length-append (each row i) (counts n), length-rows m i, length-counts n m.counts i)

    count_at_lem : (i j : ℕ) → i < m.k → j < c → number whole (length before + w * i + 4 * j) 4 ≡ count_at m i j
    unfolding count_bytes
    count_at_lem i j h l =
        let after = each-split (λ n. bytes 4 (count_at m i n)) c j l in
        field (each row i ++ counts i h j) (after.0 ++ (set i h ++ rest i h)) 4 (count_at m i j) _
        (split i h ∙ ap (λ (x : List ℕ). each row i ++ (x ++ (set i h ++ rest i h))) after.1 ∙ simp append_assoc)
        (behind i h j) (fits.counts (place i j))

    set_at : (i : ℕ) → i < m.k → number whole (length before + w * i + 4 * c) 8 ≡ get_or m.neighbours i 0
    set_at i h =
        field (each row i ++ counts i h c) (rest i h) 8 (get_or m.neighbours i 0) _
        (split i h ∙ sym (append_assoc (each row i) (counts i h c) (set i h ++ rest i h)))
        (behind i h c) (fits.neighbours i)

    map_is : map_at whole c m.k m.desk m.lot (length before) ≡ cleared_of m
    map_is =
        ap₂ (λ (x y : List ℕ). record { k = m.k; classes = c; desk = m.desk; lot = m.lot; counts = x; neighbours = y })
        (grid-same _ _ c m.k count_at_lem) (column-same 64 _ _ m.k set_at)

    -- the sets below k are those of m
    cleared_accepted : acceptance (cleared_of m) ≡ accepted
    cleared_accepted =
        map-accepted (cleared_of m) classes
        (web_agree m.desk m.k m.neighbours (cleared_of m).neighbours
        (λ i h. sym (column-at 64 (λ j. get_or m.neighbours j 0) m.k i h)) web)

    pub written-reads : reading whole ≡ read_as (cleared_of m)
    written-reads =
        reading-left whole c m.k m.desk m.lot (length before) stations_are desk-is lot_is len row_is classes
        (web_count m.desk m.k m.neighbours web) (map-desk m (ap is_accepted ok)) distance_is
        ∙ rw (eq-eqb (sum_words whole (length before) (word_count c m.k)) 0 sum_is)
        (ap judged map_is ∙ rw (ap is_accepted cleared_accepted))
