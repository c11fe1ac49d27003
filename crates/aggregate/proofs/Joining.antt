-- What the theorem on the order of the links joins: the cells of an aggregate, as a function of the class, neutral past c. Joining keeps the
-- receiver's places past c, so aggregates themselves have no order; their cells have, by the laws of one cell, and those by "what joining needs alone
-- (grouping, order, a neutral value), for all ways" (document 02, request 10).
use Rattle.std.specs.Prelude.{◌≡◌, refl, ◌⊎◌, ℕ, ◌+◌, ◌≤◌, min, max, eqb, leb}
use Rattle.std.proofs.Common.{ap, ap₂, ◌∙◌, inl, inr, add_assoc, add_comm, zero-add, arith, eq-eqb, ne_eqb, leb-true, leb-false}
use Rattle.finite.specs.Internal.Monoid.{CommMonoid, pointwise}
use Rattle.finite.proofs.Cases.{by_bool, by_eq, by-sum}
use Rattle.aggregate.specs.declared.Cell.{Cell}
use Rattle.aggregate.specs.Ways.{greatest, least, none, chosen_of, sum_joined, empty_sum}
use Rattle.aggregate.specs.Aggregate.{empty_cell, cell_joined}

-- what holds of the joining of each way holds of every
pub by_way : (P : (ℕ → ℕ → ℕ) → ℕ → Type 0) → P (chosen_of max) none → P (chosen_of min) none → P (λ x y. x + y) 0
    → (way : ℕ) → P (sum_joined way) (empty_sum way)
unfolding sum_joined empty_sum
by_way P high low added way =
    by_bool (eqb way greatest) (λ e. rw e high) (λ e. by_bool (eqb way least) (λ f. rw (e, f) low) (λ f. rw (e, f) added))

-- one of two numbers, in any grouping and order
pub record Choice (op : ℕ → ℕ → ℕ) : Type 0 where
  pub picks : (x y : ℕ) → (op x y ≡ x) ⊎ (op x y ≡ y)
  pub assoc : (x y z : ℕ) → op (op x y) z ≡ op x (op y z)
  pub comm : (x y : ℕ) → op x y ≡ op y x

by_order : {P : Type 0} (x y : ℕ) → (x ≤ y → P) → (y ≤ x → P) → P
by_order x y f g = by_bool (leb x y) (λ e. f (leb-true x y e)) (λ e. g (let l = leb-false x y e in omega arith))

pub choice-max : Choice max
choice-max =
    record {
      picks = λ x y. by_order x y (λ l. inr (omega arith)) (λ l. inl (omega arith));
      assoc = λ x y z. omega arith;
      comm = λ x y. omega arith;
    }

pub choice-min : Choice min
choice-min =
    record {
      picks = λ x y. by_order x y (λ l. inl (omega arith)) (λ l. inr (omega arith));
      assoc = λ x y z. omega arith;
      comm = λ x y. omega arith;
    }

-- a choice beside none
module _ (op : ℕ → ℕ → ℕ) where
  pub chosen_both : (x y : ℕ) → (x ≡ none → ⊥) → (y ≡ none → ⊥) → chosen_of op x y ≡ op x y
  chosen_both x y nx ny = rw (ne_eqb x none nx, ne_eqb y none ny)

  pub chosen-second : (x y : ℕ) → x ≡ none → chosen_of op x y ≡ y
  chosen-second x y e = rw (eq-eqb x none e)

  pub chosen-first : (x y : ℕ) → y ≡ none → chosen_of op x y ≡ x
  chosen-first x y e = by_eq x none (λ q. rw (eq-eqb x none q) (cc)) (λ q. rw (ne_eqb x none q, eq-eqb y none e))

  module _ (C : Choice op) where
    picked : (x y : ℕ) → (x ≡ none → ⊥) → (y ≡ none → ⊥) → op x y ≡ none → ⊥
    picked x y nx ny e = by-sum (C.picks x y) (λ q. nx (cc)) (λ q. ny (cc))

    pub chosen_assoc : (x y z : ℕ) → chosen_of op (chosen_of op x y) z ≡ chosen_of op x (chosen_of op y z)
    chosen_assoc x y z =
        by_eq x none
        (λ q. ap (λ (w : ℕ). chosen_of op w z) (chosen-second x y q) ∙ cc (chosen-second x (chosen_of op y z) q))
        (λ nx. by_eq y none
        (λ q. ap (λ (w : ℕ). chosen_of op w z) (chosen-first x y q) ∙ ap (chosen_of op x) (cc (chosen-second y z q)))
        (λ ny. by_eq z none
        (λ q. chosen-first (chosen_of op x y) z q ∙ ap (chosen_of op x) (cc (chosen-first y z q)))
        (λ nz. ap (λ (w : ℕ). chosen_of op w z) (chosen_both x y nx ny)
        ∙ chosen_both (op x y) z (picked x y nx ny) nz
        ∙ C.assoc x y z
        ∙ cc (chosen_both x (op y z) nx (picked y z ny nz), ap (chosen_of op x) (chosen_both y z ny nz)))))

    pub chosen_comm : (x y : ℕ) → chosen_of op x y ≡ chosen_of op y x
    chosen_comm x y =
        by_eq x none
        (λ q. cc (chosen-second x y q, chosen-first y x q))
        (λ nx. by_eq y none
        (λ q. cc (chosen-first x y q, chosen-second y x q))
        (λ ny. chosen_both x y nx ny ∙ cc (C.comm x y, chosen_both y x ny nx)))

-- sums of a way
abbrev pub joining_sums : ℕ → CommMonoid ℕ
joining_sums way =
    record {
      add = sum_joined way;
      unit = empty_sum way;
      assoc = by_way (λ op e. (x y z : ℕ) → op (op x y) z ≡ op x (op y z)) (chosen_assoc max choice-max) (chosen_assoc min choice-min) add_assoc way;
      comm = by_way (λ op e. (x y : ℕ) → op x y ≡ op y x) (chosen_comm max choice-max) (chosen_comm min choice-min) add_comm way;
      unit_add = by_way (λ op e. (x : ℕ) → op e x ≡ x) (λ x. chosen-second max none x refl) (λ x. chosen-second min none x refl) zero-add way;
    }

-- cells of equal numbers are equal
pub pair : {s u m n : ℕ} → s ≡ u → m ≡ n → ◌≡◌ {A = Cell} (record { sum = s; missing = m }) (record { sum = u; missing = n })
pair e f = ap₂ (λ (s m : ℕ). record { sum = s; missing = m }) e f

module _ (way : ℕ) where
  pub cell_assoc : (x y z : Cell) → cell_joined way (cell_joined way x y) z ≡ cell_joined way x (cell_joined way y z)
  unfolding cell_joined
  cell_assoc x y z = pair ((joining_sums way).assoc x.sum y.sum z.sum) (add_assoc x.missing y.missing z.missing)

  pub cell_comm : (x y : Cell) → cell_joined way x y ≡ cell_joined way y x
  unfolding cell_joined
  cell_comm x y = pair ((joining_sums way).comm x.sum y.sum) (add_comm x.missing y.missing)

  pub cell_empty : (x : Cell) → cell_joined way (empty_cell way) x ≡ x
  unfolding cell_joined
  cell_empty x = pair ((joining_sums way).unit_add x.sum) (zero-add x.missing)

  -- cells under joining
  abbrev pub joining_cells : CommMonoid Cell
  joining_cells = record { add = cell_joined way; unit = empty_cell way; assoc = cell_assoc; comm = cell_comm; unit_add = cell_empty }

  -- and class by class
  abbrev pub joining : CommMonoid (ℕ → Cell)
  joining = pointwise joining_cells
