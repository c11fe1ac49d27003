-- A number stands for one refusal: each is read back from its number. Assumes nothing.
use mathlib.Core.Path.{◌≡◌, refl, sym, ◌∙◌, ap}
use mathlib.Core.Bool.{cond}
use Prim.Native.Nat.{ℕ}
use native.Mathlib.Omega.{arith}
use lib.Dec.{eqb}
use Rattle.refusal.specs.declared.Refusal.{Refusal}
use Rattle.refusal.specs.declared.Refusal.TheVariants.{OutOfForm, OutOfRange, NotAllowed, NothingAllowed}
use Rattle.refusal.specs.Refusal.{number_of}

refusal_of : ℕ → Refusal
refusal_of n =
    cond (eqb n (number_of OutOfForm)) OutOfForm
    (cond (eqb n (number_of OutOfRange)) OutOfRange
    (cond (eqb n (number_of NotAllowed)) NotAllowed NothingAllowed))

read_back : (r : Refusal) → refusal_of (number_of r) ≡ r
unfolding refusal_of
read_back OutOfForm = refl
read_back OutOfRange = refl
read_back NotAllowed = refl
read_back NothingAllowed = refl

pub number_pins : (a b : Refusal) → number_of a ≡ number_of b → a ≡ b
number_pins a b e = sym (read_back a) ∙ ap refusal_of e ∙ read_back b

-- no refusal has the number of an accepted call
pub number-not-zero : (r : Refusal) → number_of r ≡ 0 → ⊥
number-not-zero OutOfForm e = absurd (omega arith)
number-not-zero OutOfRange e = absurd (omega arith)
number-not-zero NotAllowed e = absurd (omega arith)
number-not-zero NothingAllowed e = absurd (omega arith)
