-- Sums in any commutative monoid: the theorem on the order of the links uses of a sum only what a commutative monoid has.
use Rattle.std.specs.Prelude.{◌≡◌, ℕ, ◌+◌}
use Rattle.std.proofs.Math.Path.{fun_ext}
use Rattle.std.proofs.Common.{add_assoc, add_comm, zero-add}
use Rattle.finite.specs.Sum.{fold_to}

-- what joining values needs: grouping, order, a neutral value
pub record CommMonoid (A : Type 0) : Type 0 where
  pub add : A → A → A
  pub unit : A
  pub assoc : (a b c : A) → add (add a b) c ≡ add a (add b c)
  pub comm : (a b : A) → add a b ≡ add b a
  pub unit_add : (a : A) → add unit a ≡ a

-- numbers under addition
abbrev pub addition : CommMonoid ℕ
addition = record { add = ◌+◌; unit = 0; assoc = add_assoc; comm = add_comm; unit_add = zero-add }

-- f 0, f 1, .., f (k − 1) together
abbrev pub sum_to : {A : Type 0} → CommMonoid A → ℕ → (ℕ → A) → A
sum_to M k f = fold_to M.add M.unit k f

-- functions, joined at each argument
abbrev pub pointwise : {I A : Type 0} → CommMonoid A → CommMonoid (I → A)
pointwise M =
    record {
      add = λ f g i. M.add (f i) (g i);
      unit = λ i. M.unit;
      assoc = λ f g h. fun_ext (λ i. M.assoc (f i) (g i) (h i));
      comm = λ f g. fun_ext (λ i. M.comm (f i) (g i));
      unit_add = λ f. fun_ext (λ i. M.unit_add (f i));
    }
