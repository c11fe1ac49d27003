-- The digits of a number, as the tests of `put_number` go: the last one stands after the others, and there are no more than allowed. Assumes
-- nothing.
use mathlib.Core.Path.{◌≡◌}
use mathlib.Core.List.{◌++◌}
use Prim.Native.Nat.{ℕ, zero, suc, ◌-◌, ◌/◌, ◌%◌, ◌^◌, ◌≤◌, ◌<◌}
use native.Mathlib.Nat.{pow-suc}
use native.Mathlib.Omega.{arith}
use lib.Dec.{ltb}
use lib.ListN.{length, length-append}
use borrow.Author.Tests.{lt-ltb, le-ltb}
use Rattle.finite.proofs.Cases.{by_bool}
use Rattle.text.specs.Text.{digit, digits}

-- the digits of a number, as the tests of the code go
pub one-digit : (f n : ℕ) → 0 < f → n < 10 → digits f n ≡ digit n
unfolding digits
one-digit zero n some low = absurd (omega arith)
one-digit (suc f) n some low = rw (lt-ltb n 10 low)

pub more_digits : (f n : ℕ) → 0 < f → 10 ≤ n → digits f n ≡ digits (f - 1) (n / 10) ++ digit (n % 10)
unfolding digits
more_digits zero n some high = absurd (omega arith)
more_digits (suc f) n some high = let e : suc f - 1 ≡ f = omega arith in rw (le-ltb n 10 high, e)

-- a number has at most the digits that it may have
pub digits_le : (f n : ℕ) → length (digits f n) ≤ f
unfolding digits
digits_le zero n = omega arith
digits_le (suc f) n =
    by_bool (ltb n 10)
    (λ one. rw one (omega arith))
    (λ more. rw (more, length-append) (omega (arith, digits_le f (n / 10))))

-- a number below 10 ^ w has at most w digits, and 0 has one
pub digits_few : (f w n : ℕ) → 1 ≤ w → n < 10 ^ w → length (digits f n) ≤ w
unfolding digits
digits_few zero w n some low = omega arith
digits_few (suc f) zero n some low = absurd (omega arith)
digits_few (suc f) (suc zero) n some low = let one : n < 10 = omega (arith, low) in rw (lt-ltb n 10 one) (omega arith)
digits_few (suc f) (suc (suc w)) n some low =
    let less : n / 10 < 10 ^ suc w = omega (arith, low, pow-suc 10 (suc w)) in
    by_bool (ltb n 10)
    (λ one. rw one (omega arith))
    (λ more. rw (more, length-append) (omega (arith, digits_few f (suc w) (n / 10) (omega arith) less)))
