-- What the crates above know of aggregates: the cells of a join are the cells joined, the cells of what is given are the cells, a bounded
-- aggregate is one of bounded cells, and what a valid configuration says. Each is the definition, place by place. Assumes nothing.
use mathlib.Core.Path.{◌≡◌, refl, sym, ap, ap₂, ◌∙◌, fun_ext}
use mathlib.Core.Bool.{Bool, true, false, cond, ◌&&◌}
use mathlib.Core.List.{List}
use mathlib.Core.Logic.{◌⊎◌, inl, inr}
use Prim.Native.Nat.{ℕ, ◌-◌, ◌^◌, ◌<◌, ◌≤◌}
use native.Mathlib.Omega.{arith}
use lib.Dec.{eqb, leb, ltb}
use lib.ListN.{get_or, get_or-replicate}
use borrow.Author.Tests.{leb-true, le-leb, ltb-true, lt-ltb, eqb-true}
use Rattle.finite.specs.Below.{all_below}
use Rattle.finite.proofs.Cases.{clash, by_bool, by-sum, and_both, or_cases, or_left, or_right}
use Rattle.finite.proofs.Below.{get_d_tabulate, tabulate_ext, all_below_lem, all_below-at, all_below_ext}
use Rattle.bitset.specs.Set.{is_station_count}
use Rattle.aggregate.specs.declared.Config.{Config}
use Rattle.aggregate.specs.declared.Reading.{Reading}
use Rattle.aggregate.specs.declared.Cell.{Cell}
use Rattle.aggregate.specs.declared.Aggregate.{Aggregate}
use Rattle.aggregate.specs.Ways.{is_way, none, has_none}
use Rattle.aggregate.specs.Aggregate.{root_of, is_class_count, valid, used, cell, places, zero_cell, nothing, sum_bounded, cell_bounded, bounded}
use Rattle.aggregate.specs.Aggregate.{cell_gathered, gathered, cell_joined, empty_cell, joined, clipped}
use Rattle.aggregate.specs.Internal.Joining.{cells}
use Rattle.aggregate.proofs.Joining.{pair, cell_empty, joining}

-- so many classes
pub class_count : (c : ℕ) → is_class_count c ≡ true → (1 ≤ c) × (c ≤ 8)
class_count c h = let both = and_both (ltb 0 c) (leb c 8) h in (ltb-true 0 c both.0, leb-true c 8 both.1)

module _ (t : Config) (h : valid t ≡ true) where
  pub valid_parts : (is_station_count t.k ≡ true) × (is_class_count t.classes ≡ true) × (root_of t < t.k) × (is_way t.way ≡ true)
  unfolding valid
  valid_parts =
      let way = and_both (is_station_count t.k && is_class_count t.classes && ltb (root_of t) t.k) (is_way t.way) h in
      let last = and_both (is_station_count t.k && is_class_count t.classes) (ltb (root_of t) t.k) way.0 in
      let first = and_both (is_station_count t.k) (is_class_count t.classes) last.0 in
      (first.0, first.1, ltb-true (root_of t) t.k last.1, way.1)

  -- k of a valid configuration
  pub valid-k : (1 ≤ t.k) × (t.k ≤ 64)
  valid-k = let k = and_both (ltb 0 t.k) (leb t.k 64) valid_parts.0 in (ltb-true 0 t.k k.0, leb-true t.k 64 k.1)

  -- the root is one of the stations
  pub root_below : root_of t < t.k
  root_below = valid_parts.2

-- so a configuration is valid
pub valid_of : (t : Config) → is_station_count t.k ≡ true → is_class_count t.classes ≡ true → root_of t < t.k → is_way t.way ≡ true → valid t ≡ true
unfolding valid
valid_of t k c r w = rw (k, c, lt-ltb (root_of t) t.k r, w)

-- the bounds at their edges, by computation: "sums and posted sums below 2^62" (document 01, Causes and numbers), "A missing number above
-- 64 is out of form" (document 02, request 1), "`none` under 0 or 3, is out of form" (request 10)
last_bounded : cell_bounded 0 (record { sum = 2 ^ 62 - 1; missing = 64 }) ≡ true
unfolding cell_bounded sum_bounded
last_bounded = refl

first_unbounded : (cell_bounded 1 (record { sum = 2 ^ 62; missing = 64 }) ≡ false) × (cell_bounded 1 (record { sum = 2 ^ 62 - 1; missing = 65 }) ≡ false)
unfolding cell_bounded sum_bounded
first_unbounded = (refl, refl)

none-bounded : (sum_bounded 0 none ≡ false) × (sum_bounded 1 none ≡ true) × (sum_bounded 2 none ≡ true) × (sum_bounded 3 none ≡ false)
unfolding sum_bounded
none-bounded = (refl, refl, refl, refl)

module _ (way : ℕ) where
  -- a bounded sum is below 2^62, or none where the way has it
  pub sum_cases : (x : ℕ) → sum_bounded way x ≡ true → (x < 2 ^ 62) ⊎ ((has_none way ≡ true) × (x ≡ none))
  unfolding sum_bounded
  sum_cases x h =
      by-sum (or_cases (ltb x (2 ^ 62)) (has_none way && eqb x none) h)
      (λ l. inl (ltb-true x (2 ^ 62) l))
      (λ b. let p = and_both (has_none way) (eqb x none) b in inr (p.0, eqb-true x none p.1))

  -- without none it is below 2^62
  pub plain_small : has_none way ≡ false → (x : ℕ) → sum_bounded way x ≡ true → x < 2 ^ 62
  plain_small n x h = by-sum (sum_cases x h) (λ l. l) (λ p. clash p.0 n)

  pub small_bounded : (x : ℕ) → x < 2 ^ 62 → sum_bounded way x ≡ true
  unfolding sum_bounded
  small_bounded x l = or_left (ltb x (2 ^ 62)) (has_none way && eqb x none) (lt-ltb x (2 ^ 62) l)

  pub none_allowed : has_none way ≡ true → sum_bounded way none ≡ true
  unfolding sum_bounded
  none_allowed e = or_right (ltb none (2 ^ 62)) (has_none way && eqb none none) (rw e)

  pub cell_parts : (x : Cell) → cell_bounded way x ≡ true → (sum_bounded way x.sum ≡ true) × (x.missing ≤ 64)
  unfolding cell_bounded
  cell_parts x h =
      let both = and_both (sum_bounded way x.sum) (leb x.missing 64) h in
      (both.0, leb-true x.missing 64 both.1)

  pub parts_bounded : (x : Cell) → sum_bounded way x.sum ≡ true → x.missing ≤ 64 → cell_bounded way x ≡ true
  unfolding cell_bounded
  parts_bounded x s m = rw (s, le-leb x.missing 64 m)

-- a place given by f
pub cell-places : (f : ℕ → Cell) (i : ℕ) → i < 8 → cell (places f) i ≡ f i
cell-places f i l = pair (get_d_tabulate (λ j. (f j).sum) 8 i 0 l) (get_d_tabulate (λ j. (f j).missing) 8 i 0 l)

-- places given alike are alike
pub places_ext : (f g : ℕ → Cell) → ((i : ℕ) → i < 8 → f i ≡ g i) → places f ≡ places g
places_ext f g h =
    ap₂ (λ (s m : List ℕ). record { sums = s; missing = m })
    (tabulate_ext 8 _ _ (λ i l. ap (λ (x : Cell). x.sum) (h i l)))
    (tabulate_ext 8 _ _ (λ i l. ap (λ (x : Cell). x.missing) (h i l)))

module _ (t : Config) where
  -- a class in use is one of the eight places
  pub low : (i : ℕ) → ltb i (used t) ≡ true → i < 8
  low i e = let l = ltb-true i (used t) e in omega arith

  -- the cells of places that f gives where the class is in use
  cells-places : (f old : ℕ → Cell) (i : ℕ) → cells t (places (λ j. cond (ltb j (used t)) (f j) (old j))) i ≡ cond (ltb i (used t)) (f i) (empty_cell t.way)
  unfolding cells
  cells-places f old i =
      by_bool (ltb i (used t))
      (λ e. ap (λ (b : Bool). cond b (cell (places (λ j. cond (ltb j (used t)) (f j) (old j))) i) (empty_cell t.way)) e
      ∙ cell-places (λ j. cond (ltb j (used t)) (f j) (old j)) i (low i e)
      ∙ ap (λ (b : Bool). cond b (f i) (old i)) e
      ∙ sym (ap (λ (b : Bool). cond b (f i) (empty_cell t.way)) e))
      (λ e. ap (λ (b : Bool). cond b (cell (places (λ j. cond (ltb j (used t)) (f j) (old j))) i) (empty_cell t.way)) e
      ∙ sym (ap (λ (b : Bool). cond b (f i) (empty_cell t.way)) e))

  -- the cells of a join are the cells, joined
  pub cells-joined : (a b : Aggregate) → cells t (joined t a b) ≡ (joining t.way).add (cells t a) (cells t b)
  unfolding joined cells
  cells-joined a b =
      fun_ext (λ i.
      cells-places (λ j. cell_joined t.way (cell a j) (cell b j)) (cell a) i
      ∙ by_bool (ltb i (used t)) (λ e. rw e) (λ e. rw e (sym (cell_empty t.way (empty_cell t.way)))))

  -- what is given has the cells of what is held
  pub cells-clipped : (a : Aggregate) → cells t (clipped t a) ≡ cells t a
  unfolding clipped cells
  cells-clipped a = fun_ext (λ i. cells-places (cell a) (λ j. zero_cell) i)

  -- a class in use of what is given
  cell-clipped : (a : Aggregate) (i : ℕ) → i < 8 → ltb i (used t) ≡ true → cell (clipped t a) i ≡ cell a i
  unfolding clipped
  cell-clipped a i l e = cell-places (λ j. cond (ltb j (used t)) (cell a j) zero_cell) i l ∙ rw e

  -- the cells of a reading
  pub cells-gathered : (r : Reading) (i : ℕ) → i < used t → cells t (gathered t r) i ≡ cell_gathered t.way (get_or r.counts i 0)
  unfolding gathered
  cells-gathered r i l = cells-places (λ j. cell_gathered t.way (get_or r.counts j 0)) (λ j. zero_cell) i ∙ rw (lt-ltb i (used t) l)

  -- a class in use
  pub cells-used : (a : Aggregate) (i : ℕ) → i < used t → cells t a i ≡ cell a i
  unfolding cells
  cells-used a i l = rw (lt-ltb i (used t) l)

  -- bounded is said of the cells
  pub bounded-cells : (a : Aggregate) → bounded t a ≡ all_below (used t) (λ i. cell_bounded t.way (cells t a i))
  unfolding bounded
  bounded-cells a = all_below_ext (used t) _ _ (λ i l. ap (cell_bounded t.way) (sym (cells-used a i l)))

  pub bounded_at : (a : Aggregate) → bounded t a ≡ true → (i : ℕ) → i < used t → cell_bounded t.way (cell a i) ≡ true
  unfolding bounded
  bounded_at a h i l = all_below-at (λ j. cell_bounded t.way (cell a j)) (used t) i h l

  pub bounded-same : (a b : Aggregate) → cells t a ≡ cells t b → bounded t a ≡ bounded t b
  bounded-same a b e =
      bounded-cells a ∙ ap (λ (f : ℕ → Cell). all_below (used t) (λ i. cell_bounded t.way (f i))) e ∙ sym (bounded-cells b)

  -- so what is given is bounded where what is held is
  pub clipped-bounded : (a : Aggregate) → bounded t (clipped t a) ≡ bounded t a
  clipped-bounded a = bounded-same (clipped t a) a (cells-clipped a)

  -- joining what is given is joining what is held
  pub joined-clipped : (a b : Aggregate) → joined t a (clipped t b) ≡ joined t a b
  unfolding joined
  joined-clipped a b =
      places_ext _ _ (λ i l. by_bool (ltb i (used t)) (λ e. rw (e, cell-clipped b i l e)) (λ e. rw e))

  pub nothing-bounded : bounded t nothing ≡ true
  unfolding bounded nothing
  nothing-bounded =
      all_below_lem (λ i. cell_bounded t.way (cell nothing i)) (used t)
      (λ i l. ap (cell_bounded t.way) (pair (get_or-replicate 8 i 0 0 (omega arith)) (get_or-replicate 8 i 0 0 (omega arith))) ∙ parts_bounded t.way zero_cell (small_bounded t.way 0 (omega arith)) (omega arith))

-- joining and being bounded ask of the configuration only the classes and the way
module _ (t u : Config) (c : t.classes ≡ u.classes) (w : t.way ≡ u.way) where
  pub joined_alike : (a b : Aggregate) → joined t a b ≡ joined u a b
  unfolding joined
  joined_alike a b = rw (c, w)

  pub bounded_alike : (a : Aggregate) → bounded t a ≡ bounded u a
  unfolding bounded
  bounded_alike a = rw (c, w)
