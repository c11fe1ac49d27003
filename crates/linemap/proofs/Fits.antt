-- A map that was read from bytes has numbers that fit their fields: those in its rows were stored in as many bytes, and the other
-- places are zero. Its lot stood in six bytes. Assumes nothing.
use Rattle.std.proofs.Common.{◌≡◌, ℕ, zero, suc, ◌+◌, ◌-◌, ◌*◌, ◌^◌, ◌<◌, ltb, List, [], ◌∷◌, ◌++◌, length, get_or, replicate, ap, ◌∙◌, subst, arith, lit<, get_or-append-add, ltb-false, ltb-true}
use lib.ListN.{get_or-append}
use Rattle.finite.proofs.Cases.{by_bool}
use Rattle.finite.specs.Below.{each, tabulate}
use Rattle.finite.specs.Numbers.{number}
use Rattle.linemap.specs.Stored.{row_length}
use Rattle.linemap.specs.Reading.{read_as, trailer_in, classes_in, stations_in, desk_in, lot_in, start_in, column, grid, map_at, reading}
use Rattle.linemap.specs.RoundTrip.{Fits}
use Rattle.linemap.specs.declared.Map.{Map}
use Rattle.finite.proofs.Digits.{number_small}
use Rattle.linemap.proofs.Rules.{read_facts}

-- lists of numbers below a bound, zeros among them
module _ (bound : ℕ) (some : 0 < bound) where
  abbrev Small : List ℕ → Type 0
  Small l = (i : ℕ) → get_or l i 0 < bound

  none_small : Small []
  none_small i = some

  more_small : (x : ℕ) (l : List ℕ) → x < bound → Small l → Small (x ∷ l)
  more_small x l h small zero = h
  more_small x l h small (suc i) = small i

  append_small : (l m : List ℕ) → Small l → Small m → Small (l ++ m)
  append_small l m first second i =
      by_bool (ltb i (length l))
      (λ e. rw (get_or-append l m 0 i (ltb-true i (length l) e)) (first i))
      (λ e.
      let at : i ≡ length l + (i - length l) = omega (arith, ltb-false i (length l) e) in
      let found : get_or (l ++ m) i 0 ≡ get_or m (i - length l) 0 =
      ap (λ (x : ℕ). get_or (l ++ m) x 0) at ∙ get_or-append-add l m (i - length l) 0 in
      rw found (second (i - length l)))

  zeros_small : (n : ℕ) → Small (replicate n 0)
  zeros_small zero = none_small
  zeros_small (suc n) = more_small 0 (replicate n 0) some (zeros_small n)

  each_small : (f : ℕ → List ℕ) → ((i : ℕ) → Small (f i)) → (n : ℕ) → Small (each f n)
  unfolding each
  each_small f small zero = none_small
  each_small f small (suc n) = append_small (each f n) (f n) (each_small f small n) (small n)

  column_small : (size : ℕ) (f : ℕ → ℕ) (n : ℕ) → ((i : ℕ) → f i < bound) → Small (column size f n)
  unfolding column tabulate
  column_small size f n small =
      append_small (each (λ i. f i ∷ []) n) (replicate (size - n) 0)
      (each_small (λ i. f i ∷ []) (λ i. more_small (f i) [] (small i) none_small) n) (zeros_small (size - n))

  grid_small : (f : ℕ → ℕ → ℕ) (c k : ℕ) → ((i j : ℕ) → f i j < bound) → Small (grid f c k)
  unfolding grid
  grid_small f c k small =
      append_small (each (λ i. column 8 (f i) c) k) (replicate (8 * (64 - k)) 0)
      (each_small (λ i. column 8 (f i) c) (λ i. column_small 8 (f i) c (small i)) k) (zeros_small (8 * (64 - k)))

pub read_fits : (s : List ℕ) (m : Map) → ((i : ℕ) → get_or s i 0 < 2 ^ 8) → reading s ≡ read_as m → Fits m
read_fits s m byte e =
    let c = classes_in s in
    let k = stations_in s in
    let start = start_in s in
    let fits : Fits (map_at s c k (desk_in s) (lot_in s) start) =
    record {
      counts = grid_small (2 ^ 32) (lit< tt) _ c k (λ i j. number_small s byte 4 (start + row_length c * i + 4 * j));
      neighbours = column_small (2 ^ 64) (lit< tt) 64 _ k (λ i. number_small s byte 8 (start + row_length c * i + 4 * c));
    } in
    subst Fits (read_facts s m e).is fits

pub read_lot : (s : List ℕ) (m : Map) → ((i : ℕ) → get_or s i 0 < 2 ^ 8) → reading s ≡ read_as m → m.lot < 2 ^ 48
read_lot s m byte e =
    let low : number s (trailer_in s + 8) 4 < 2 ^ 32 = number_small s byte 4 _ in
    let high : number s (trailer_in s + 6) 2 < 2 ^ 16 = number_small s byte 2 _ in
    let small : lot_in s < 2 ^ 48 = omega arith in
    subst (λ (n : Map). n.lot < 2 ^ 48) (read_facts s m e).is small
