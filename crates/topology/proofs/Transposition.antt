-- Six passes transpose the matrix of the sets' bits. A pass takes the bit of each place from one other place; where that leads over
-- six passes is computed, for each of the 64 × 64 places. Assumes nothing.
use mathlib.Core.Path.{◌≡◌, refl, sym, ap, ap₂, ◌∙◌}
use mathlib.Core.Bool.{Bool, true, false, not, ◌&&◌, ◌||◌, cond}
use mathlib.Core.List.{List, [], ◌∷◌}
use Prim.Native.Nat.{ℕ, suc, max, ◌+◌, ◌*◌, ◌-◌, ◌/◌, ◌%◌, ◌^◌, ◌<◌, ◌≤◌}
use native.Mathlib.Nat.{max-le, mul_assoc, mul-one, mul-zero, div-one}
use native.Mathlib.Omega.{arith}
use lib.ListN.{length, get_or, set, length-set}
use lib.Seq.{get_or-set_same, get_or-set_other}
use lib.Dec.{eqb, ltb, leb}
use lib.Pow.{pow-add, shl-shr}
use lib.Bits.{bit_and, bit_or, or_step, or_shr, shifted_even}
use borrow.Author.Tests.{eqb-true, ltb-true, leb-true, leb-false, not-true, not-false}
use Rattle.finite.proofs.Cases.{clash, by_bool, by_eq, and_both}
use Rattle.bitset.specs.Set.{member}
use Rattle.bitset.proofs.Laws.{member_shift}
use Rattle.bitset.proofs.Selected.{member-and, member-mod}
use Rattle.topology.specs.Acceptance.{any_below}
use Rattle.topology.specs.Internal.Matrix.{interleaved, exchanged_row, Exchanged, Transposed}
use Rattle.topology.proofs.Searches.{any_of}

-- the rows of a pass, as its loop stores them
module _ (w firsts : ℕ) (rows : List ℕ) where
  even_row : (i r : ℕ) → r ≡ 2 * i → exchanged_row w firsts rows r ≡ interleaved (get_or rows i 0) (get_or rows (i + 32) 0) w firsts
  even_row i r e =
      let half : r / 2 ≡ i = omega arith in
      let even : r % 2 ≡ 0 = omega arith in
      rw (half, even, mul-zero) (simp div-one)

  odd_row : (i r : ℕ) → r ≡ 2 * i + 1
      → exchanged_row w firsts rows r ≡ interleaved (get_or rows i 0 / 2 ^ w) (get_or rows (i + 32) 0 / 2 ^ w) w firsts
  odd_row i r e =
      let half : r / 2 ≡ i = omega arith in
      let odd : r % 2 ≡ 1 = omega arith in
      rw (half, odd, mul-one)

  -- a turn stores two rows more
  pub two_more : (to : List ℕ) (i : ℕ) {even odd : ℕ} → i < 32 → length to ≡ 64
      → ((r : ℕ) → r < 2 * i → get_or to r 0 ≡ exchanged_row w firsts rows r)
      → even ≡ interleaved (get_or rows i 0) (get_or rows (i + 32) 0) w firsts
      → odd ≡ interleaved (get_or rows i 0 / 2 ^ w) (get_or rows (i + 32) 0 / 2 ^ w) w firsts
      → (r : ℕ) → r < 2 * (i + 1) → get_or (set (set to (2 * i) even) (2 * i + 1) odd) r 0 ≡ exchanged_row w firsts rows r
  two_more to i {even} {odd} few long before is-even is_odd r h =
      let first = set to (2 * i) even in
      by_eq r (2 * i + 1)
      (λ (e : r ≡ 2 * i + 1).
      ap (λ (x : ℕ). get_or (set first (2 * i + 1) odd) x 0) e
      ∙ get_or-set_same first (2 * i + 1) odd 0 (omega (arith, length-set to (2 * i) even))
      ∙ is_odd ∙ sym (odd_row i r e))
      (λ ne.
      get_or-set_other first (2 * i + 1) r odd 0 ne
      ∙ by_eq r (2 * i)
      (λ (e : r ≡ 2 * i).
      ap (λ (x : ℕ). get_or first x 0) e ∙ get_or-set_same to (2 * i) even 0 (omega arith) ∙ is-even ∙ sym (even_row i r e))
      (λ ne'. get_or-set_other to (2 * i) r even 0 ne' ∙ before r (omega (arith, ne, ne'))))

either_one : (x y : ℕ) → x ≤ 1 → y ≤ 1 → eqb (max x y) 1 ≡ (eqb x 1 || eqb y 1)
either_one x y h g =
    by_eq x 1
    (λ (a : x ≡ 1). by_eq y 1 (λ (b : y ≡ 1). rw (a, b)) (λ b. let b' : y ≡ 0 = omega arith in rw (a, b')))
    (λ a. let a' : x ≡ 0 = omega arith in
    by_eq y 1 (λ (b : y ≡ 1). rw (a', b)) (λ b. let b' : y ≡ 0 = omega arith in rw (a', b')))

or_odd : (a b : ℕ) → bit_or a b % 2 ≡ max (a % 2) (b % 2)
or_odd a b = omega (arith, or_step a b, max-le {a = a % 2} {b = b % 2} {k = 1} (omega arith) (omega arith))

-- the members of two sets together
member_or : (j r s : ℕ) → member j (bit_or r s) ≡ (member j r || member j s)
unfolding member
member_or j r s =
    rw or_shr
    (ap (λ (x : ℕ). eqb x 1) (or_odd (r / 2 ^ j) (s / 2 ^ j))
    ∙ either_one (r / 2 ^ j % 2) (s / 2 ^ j % 2) (omega arith) (omega arith))

-- a set moved up by w has no station below w
none_moved : (w c s : ℕ) → c < w → member c (s * 2 ^ w) ≡ false
unfolding member
none_moved w c s l =
    let d = w - suc c in
    let e : suc d + c ≡ w = omega arith in
    let parts : s * 2 ^ w ≡ s * 2 ^ suc d * 2 ^ c =
    ap (λ (n : ℕ). s * 2 ^ n) (sym e) ∙ ap (λ (n : ℕ). s * n) (pow-add 2 (suc d) c) ∙ sym (mul_assoc s (2 ^ suc d) (2 ^ c)) in
    ap (λ (x : ℕ). eqb (x / 2 ^ c % 2) 1) parts
    ∙ ap (λ (x : ℕ). eqb (x % 2) 1) (shl-shr (s * 2 ^ suc d) c)
    ∙ ap (λ (x : ℕ). eqb x 1) (shifted_even s d)

-- and the others, each w further on
member_moved : (w c s : ℕ) → c < 64 → member c (s * 2 ^ w % 2 ^ 64) ≡ (leb w c && member (c - w) s)
member_moved w c s l =
    member-mod 64 c (s * 2 ^ w) l
    ∙ by_bool (leb w c)
    (λ t.
    let up : w + (c - w) ≡ c = omega (arith, leb-true w c t) in
    rw t (ap (λ (j : ℕ). member j (s * 2 ^ w)) (sym up) ∙ sym (member_shift w (c - w) (s * 2 ^ w)) ∙ ap (member (c - w)) (shl-shr s w)))
    (λ f. rw f (none_moved w c s (leb-false w c f)))

-- of two bits, the one that shows
either : (x y up first moved : Bool) → (up && moved) ≡ not first → ((x && first) || (up && (y && moved))) ≡ cond first x y
either x y true true true e = clash refl e
either x y true false false e = clash e refl
either x y false false moved e = clash e refl
either true y true true false e = refl
either false true true true false e = refl
either false false true true false e = refl
either true y false true moved e = refl
either false y false true moved e = refl
either true true true false true e = refl
either true false true false true e = refl
either false true true false true e = refl
either false false true false true e = refl

-- column c is one of the first columns, or else the one w before it is
abbrev spaced : ℕ → ℕ → ℕ → Bool
spaced w firsts c = cond (member c firsts) (not (leb w c && member (c - w) firsts)) (leb w c && member (c - w) firsts)

spaced-is : (w firsts c : ℕ) → spaced w firsts c ≡ true → (leb w c && member (c - w) firsts) ≡ not (member c firsts)
spaced-is w firsts c e =
    by_bool (member c firsts)
    (λ t. rw t (not-true _ (rw t at e)))
    (λ f. rw f (rw f at e))

member-interleaved : (w firsts c a b : ℕ) → c < 64 → spaced w firsts c ≡ true
    → member c (interleaved a b w firsts) ≡ cond (member c firsts) (member c a) (member (c - w) b)
member-interleaved w firsts c a b l e =
    member_or c (bit_and a firsts) (bit_and b firsts * 2 ^ w % 2 ^ 64)
    ∙ ap₂ (λ (x y : Bool). x || y) (member-and c a firsts)
    (member_moved w c (bit_and b firsts) l ∙ ap (λ (x : Bool). leb w c && x) (member-and (c - w) b firsts))
    ∙ either (member c a) (member (c - w) b) (leb w c) (member c firsts) (member (c - w) firsts) (spaced-is w firsts c e)

-- a place in the matrix
pub record Place : Type 0 where
  pub row : ℕ
  pub column : ℕ

abbrev bit_at : List ℕ → Place → Bool
bit_at rows p = member p.column (get_or rows p.row 0)

-- where a pass takes the bit of a place from
abbrev source : ℕ → ℕ → Place → Place
source w firsts p =
    cond (member p.column firsts)
    (record { row = p.row / 2; column = w * (p.row % 2) + p.column })
    (record { row = p.row / 2 + 32; column = w * (p.row % 2) + (p.column - w) })

-- the place is in the matrix, and the pass has its column
abbrev sound : ℕ → ℕ → Place → Bool
sound w firsts p = ltb p.row 64 && (ltb p.column 64 && spaced w firsts p.column)

pass_moves : (w firsts : ℕ) (rows out : List ℕ) (p : Place) → Exchanged w firsts rows out → sound w firsts p ≡ true
    → bit_at out p ≡ bit_at rows (source w firsts p)
pass_moves w firsts rows out p pass e =
    let r = p.row in
    let c = p.column in
    let h = w * (r % 2) in
    let inside = and_both (ltb r 64) (ltb c 64 && spaced w firsts c) e in
    let rest = and_both (ltb c 64) (spaced w firsts c) inside.1 in
    let a = get_or rows (r / 2) 0 in
    let b = get_or rows (r / 2 + 32) 0 in
    ap (member c) (pass.row r (ltb-true r 64 inside.0))
    ∙ member-interleaved w firsts c (a / 2 ^ h) (b / 2 ^ h) (ltb-true c 64 rest.0) rest.1
    ∙ by_bool (member c firsts)
    (λ t. rw t (member_shift h c a))
    (λ f. rw f (member_shift h (c - w) b))

-- passes, the last one first: its width and first columns
pub record Pass : Type 0 where
  pub width : ℕ
  pub firsts : ℕ

-- through these passes the bit of p comes from q
abbrev leads : List Pass → Place → Place → Bool
leads [] p q = eqb p.row q.row && eqb p.column q.column
leads (pass ∷ rest) p q = sound pass.width pass.firsts p && leads rest (source pass.width pass.firsts p) q

abbrev passes : List Pass
passes =
    record { width = 1; firsts = 6148914691236517205 }
    ∷ record { width = 2; firsts = 3689348814741910323 }
    ∷ record { width = 4; firsts = 1085102592571150095 }
    ∷ record { width = 8; firsts = 71777214294589695 }
    ∷ record { width = 16; firsts = 281470681808895 }
    ∷ record { width = 32; firsts = 4294967295 } ∷ []

all_lead : any_below 64 (λ i. any_below 64 (λ j. not (leads passes (record { row = i; column = j }) (record { row = j; column = i })))) ≡ false
unfolding any_below member
all_lead = refl

-- what the passes make of the rows
abbrev pub Passed : List Pass → List ℕ → List ℕ → Type 0
Passed [] rows out = out ≡ rows
Passed (pass ∷ rest) rows out = (between : List ℕ) × Passed rest rows between × Exchanged pass.width pass.firsts between out

passes-move : (ps : List Pass) (rows out : List ℕ) (p q : Place) → Passed ps rows out → leads ps p q ≡ true → bit_at out p ≡ bit_at rows q
passes-move [] rows out p q same e =
    let at = and_both (eqb p.row q.row) (eqb p.column q.column) e in
    ap₂ (λ (r c : ℕ). member c (get_or out r 0)) (eqb-true _ _ at.0) (eqb-true _ _ at.1)
    ∙ ap (λ (l : List ℕ). bit_at l q) same
passes-move (pass ∷ rest) rows out p q made e =
    let w = pass.width in
    let firsts = pass.firsts in
    let both = and_both (sound w firsts p) (leads rest (source w firsts p) q) e in
    pass_moves w firsts made.0 out p made.2 both.0
    ∙ passes-move rest rows made.0 (source w firsts p) q made.1 both.1

-- the six passes transpose the matrix
pub passes_transpose : (rows out : List ℕ) → Passed passes rows out → Transposed rows out
passes_transpose rows out made i j l m =
    passes-move passes rows out (record { row = i; column = j }) (record { row = j; column = i }) made
    (not-false _ (none_of 64 _ j m (none_of 64 _ i l all_lead)))
  where
    none_of : (k : ℕ) (p : ℕ → Bool) (x : ℕ) → x < k → any_below k p ≡ false → p x ≡ false
    none_of k p x h none = by_bool (p x) (λ t. clash (any_of k p x h t) none) (λ f. f)
