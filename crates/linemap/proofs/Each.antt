-- The laws of `each`, pieces one after the other, of `column`, places with zeros past the last, and of `grid`, rows of 8 places.
-- Assumes nothing.
use Rattle.std.proofs.Common.{◌≡◌, ℕ, zero, suc, ◌+◌, ◌-◌, ◌*◌, ◌<◌, ◌≤◌, List, [], ◌∷◌, ◌++◌, length, get_or, set, drop, replicate, sym, refl, ap, ◌∙◌, ap₂, ⊎_elim, append_assoc, append-nil, eq-or-lt_of_le, add-one, arith, length-append, get_or-append-add}
use native.Mathlib.Nat.{mul-suc}
use lib.ListN.{length-replicate, replicate-append-replicate, get_or-append}
use lib.Seq.{set_at, take_at, drop_at, append_snoc}
use borrow.Rule.Slice.PartMut.{put_mid}
use Rattle.std.proofs.lemmas.List.{drop-replicate}
use Rattle.finite.specs.Below.{each, tabulate}
use Rattle.finite.proofs.Below.{length-tabulate, get_d_tabulate}
use Rattle.linemap.specs.Maps.{place}
use Rattle.linemap.specs.Reading.{column, grid}

-- n pieces of w elements
pub length-each : (f : ℕ → List ℕ) (w n : ℕ) → ((i : ℕ) → i < n → length (f i) ≡ w) → length (each f n) ≡ w * n
unfolding each
length-each f w zero h = omega arith
length-each f w (suc n) h =
    length-append (each f n) (f n) ∙ omega (arith, length-each f w n (λ i l. h i (omega (arith, l))), h n (omega arith), mul-suc w n)

pub each_more : (f : ℕ → List ℕ) (n : ℕ) → each f (n + 1) ≡ each f n ++ f n
unfolding each
each_more f n = rw add-one

-- piece i of n, with what stands before it and after it
pub each-split : (f : ℕ → List ℕ) (n i : ℕ) → i < n → (rest : List ℕ) × (each f n ≡ each f i ++ (f i ++ rest))
unfolding each
each-split f zero i h = absurd (omega arith)
each-split f (suc n) i h =
    let le : i ≤ n = omega arith in
    ⊎_elim
    (λ e. ([], ap (λ (j : ℕ). each f j ++ f j) (sym e) ∙ ap (λ (l : List ℕ). each f i ++ l) (sym (append-nil (f i)))))
    (λ l.
    let r = each-split f n i l in
    (r.0 ++ f n, ap (λ (x : List ℕ). x ++ f n) r.1 ∙ simp append_assoc))
    (eq-or-lt_of_le le)

-- equal pieces
pub each_same : (f g : ℕ → List ℕ) (n : ℕ) → ((i : ℕ) → i < n → f i ≡ g i) → each f n ≡ each g n
unfolding each
each_same f g zero h = refl
each_same f g (suc n) h =
    ap (λ (x : List ℕ). x ++ f n) (each_same f g n (λ i l. h i (omega arith))) ∙ ap (λ (x : List ℕ). each g n ++ x) (h n (omega arith))

pub column-same : (size : ℕ) (f g : ℕ → ℕ) (n : ℕ) → ((i : ℕ) → i < n → f i ≡ g i) → column size f n ≡ column size g n
unfolding column tabulate
column-same size f g n h =
    ap (λ (x : List ℕ). x ++ replicate (size - n) 0)
    (each_same (λ i. f i ∷ []) (λ i. g i ∷ []) n (λ i l. ap (λ (x : ℕ). x ∷ []) (h i l)))

-- place i of a column
pub column-at : (size : ℕ) (f : ℕ → ℕ) (n i : ℕ) → i < n → get_or (column size f n) i 0 ≡ f i
unfolding column
column-at size f n i h =
    get_or-append (tabulate n f) (replicate (size - n) 0) 0 i (omega (arith, length-tabulate f n, h)) ∙ get_d_tabulate f n i 0 h

length-column : (size : ℕ) (f : ℕ → ℕ) (n : ℕ) → n ≤ size → length (column size f n) ≡ size
unfolding column
length-column size f n h =
    length-append (tabulate n f) (replicate (size - n) 0) ∙ omega (arith, length-tabulate f n, length-replicate {A = ℕ} (size - n) 0)

-- no place
pub column-none : (f : ℕ → ℕ) → column 64 f 0 ≡ replicate 64 0
unfolding column tabulate each
column-none f = refl

-- one place more
pub column_more : (f : ℕ → ℕ) (i : ℕ) → i < 64 → set (column 64 f i) i (f i) ≡ column 64 f (i + 1)
unfolding column tabulate each
column_more f i h =
    let e : 64 - i ≡ suc (64 - (i + 1)) = omega arith in
    let p : List ℕ = tabulate i f in
    let r : List ℕ = replicate (64 - (i + 1)) 0 in
    ap (λ (n : ℕ). set (p ++ replicate n 0) i (f i)) e
    ∙ set_at p 0 r (f i) i (length-tabulate f i)
    ∙ sym (append_snoc p (f i) r)
    ∙ ap (λ (n : ℕ). tabulate n f ++ r) (sym (add-one i))

pub grid-same : (f g : ℕ → ℕ → ℕ) (c k : ℕ) → ((i j : ℕ) → i < k → j < c → f i j ≡ g i j) → grid f c k ≡ grid g c k
unfolding grid
grid-same f g c k h =
    ap (λ (x : List ℕ). x ++ replicate (8 * (64 - k)) 0)
    (each_same _ _ k (λ i l. column-same 8 (f i) (g i) c (λ j m. h i j l m)))

-- a part that starts right after p
put_mid_after : (p l vs : List ℕ) (at n : ℕ) → length p ≡ at → put_mid at n (p ++ l) vs ≡ p ++ (vs ++ drop n l)
put_mid_after p l vs at n e = ap₂ (λ (x y : List ℕ). x ++ (vs ++ drop n y)) (take_at p l at e) (drop_at p l at e)

-- zeros in two parts
zeros-split : (n a b : ℕ) → n ≡ a + b → ◌≡◌ {A = List ℕ} (replicate n 0) (replicate a 0 ++ replicate b 0)
zeros-split n a b e = ap (λ (x : ℕ). replicate x 0) e ∙ sym (replicate-append-replicate a b 0)

module _ (f : ℕ → ℕ → ℕ) (c : ℕ) (few : c ≤ 8) where
  abbrev rows : ℕ → List ℕ
  rows = each (λ i. column 8 (f i) c)

  length-grid-rows : (k : ℕ) → length (rows k) ≡ 8 * k
  length-grid-rows k = length-each (λ i. column 8 (f i) c) 8 k (λ i l. length-column 8 (f i) c few)

  pub length-grid : (k : ℕ) → k ≤ 64 → length (grid f c k) ≡ 512
  unfolding grid
  length-grid k h =
      length-append (rows k) (replicate (8 * (64 - k)) 0)
      ∙ omega (arith, length-grid-rows k, length-replicate {A = ℕ} (8 * (64 - k)) 0)

  -- place j of station i
  pub grid-at : (k i j : ℕ) → i < k → j < c → get_or (grid f c k) (place i j) 0 ≡ f i j
  unfolding grid
  grid-at k i j h l =
      let split = each-split (λ i. column 8 (f i) c) k i h in
      let row : List ℕ = column 8 (f i) c in
      let zeros : List ℕ = replicate (8 * (64 - k)) 0 in
      let grouped : rows i ++ (row ++ split.0) ++ zeros ≡ rows i ++ (row ++ (split.0 ++ zeros)) = simp append_assoc in
      let at : place i j ≡ length (rows i) + j = omega (arith, length-grid-rows i) in
      ap₂ (λ (x : List ℕ) (p : ℕ). get_or x p 0)
      (ap (λ (x : List ℕ). x ++ zeros) split.1 ∙ grouped) at
      ∙ get_or-append-add (rows i) (row ++ (split.0 ++ zeros)) j 0
      ∙ get_or-append row (split.0 ++ zeros) 0 j (omega (arith, length-column 8 (f i) c few, l, few))
      ∙ column-at 8 (f i) c j l

  -- no station
  pub grid-none : grid f c 0 ≡ replicate 512 0
  unfolding grid each
  grid-none = refl

  -- one station more
  pub grid_more : (i : ℕ) → i < 64 → put_mid (8 * i) (place i c - 8 * i) (grid f c i) (tabulate c (f i)) ≡ grid f c (i + 1)
  unfolding grid column
  grid_more i h =
      let row : List ℕ = tabulate c (f i) in
      let own : List ℕ = replicate (8 - c) 0 in
      let zeros : List ℕ = replicate (8 * (64 - (i + 1))) 0 in
      let rest : List ℕ = replicate (8 * (64 - i)) 0 in
      let taken : place i c - 8 * i ≡ c = omega arith in
      let left : 8 * (64 - i) - c ≡ 8 - c + 8 * (64 - (i + 1)) = omega arith in
      let behind : drop (place i c - 8 * i) rest ≡ own ++ zeros =
      rw (taken, drop-replicate {X = ℕ} c (8 * (64 - i)) 0) (zeros-split (8 * (64 - i) - c) (8 - c) (8 * (64 - (i + 1))) left) in
      let grouped : rows i ++ (row ++ (own ++ zeros)) ≡ rows i ++ (row ++ own) ++ zeros = simp append_assoc in
      put_mid_after (rows i) rest row (8 * i) (place i c - 8 * i) (length-grid-rows i)
      ∙ ap (λ (x : List ℕ). rows i ++ (row ++ x)) behind
      ∙ grouped
      ∙ ap (λ (x : List ℕ). x ++ zeros) (sym (each_more (λ i. column 8 (f i) c) i))
