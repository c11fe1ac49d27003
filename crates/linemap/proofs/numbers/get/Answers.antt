-- `linemap::numbers::get` meets its contract: the n bytes, and zeros after them, are the eight bytes of their number. Assumes nothing.
use Rattle.std.proofs.Common.{◌≡◌, ℕ, zero, suc, ◌+◌, ◌-◌, ◌*◌, ◌/◌, ◌%◌, ◌^◌, ◌<◌, ◌≤◌, List, ◌∷◌, ◌++◌, length, get_or, take, drop, replicate, refl, sym, ap, ◌∙◌, arith, rules, pow_mono}
use borrow.Rule.Slice.PartMut.{put_mid}
use lib.Seq.{sets-eq}
use Rattle.std.specs.Int.{w64, from_le_bytes}
use Rattle.std.proofs.lemmas.List.{drop-replicate}
use Rattle.std.proofs.lemmas.Nat.{from_le_bytes-to_le_bytes_8}
use Rattle.finite.specs.Numbers.{number, bytes}
use Rattle.finite.proofs.Digits.{length-bytes, power_more, number_small, bytes_again}
use Rattle.finite.proofs.Stores.{put_copy}
use Rattle.aggregate.proofs.WordBytes.{bytes_of-word}
use Rattle.linemap.proofs.numbers.get.Goals as goal

-- the bytes above a number are zeros
bytes_zero : (m : ℕ) → bytes m 0 ≡ replicate m 0
unfolding bytes
bytes_zero zero = refl
bytes_zero (suc m) = ap (λ (l : List ℕ). 0 ∷ l) (bytes_zero m)

bytes_above : (n m x : ℕ) → x < 2 ^ (8 * n) → bytes (n + m) x ≡ bytes n x ++ replicate m 0
unfolding bytes
bytes_above zero m x h =
    let none : x ≡ 0 = omega (arith, h) in
    let all : 0 + m ≡ m = omega arith in
    rw (none, all) (bytes_zero m)
bytes_above (suc n) m x h =
    let one_more : suc n + m ≡ suc (n + m) = omega arith in
    rw one_more (ap (λ (l : List ℕ). x % 2 ^ 8 ∷ l) (bytes_above n m (x / 2 ^ 8) (omega (arith, h, power_more n))))

-- the bytes of a number over the front of eight zeros
filled : (n x : ℕ) {copied : List ℕ} → n ≤ 8 → x < 2 ^ (8 * n) → copied ≡ bytes n x → put_mid 0 (n - 0) (replicate 8 0) copied ≡ bytes 8 x
filled n x {copied} few small e =
    let long = length-bytes n x in
    let zeros : List ℕ = replicate 8 0 in
    let room : 0 + length (bytes n x) ≤ length zeros = omega (arith, long) in
    let end : 0 + length (bytes n x) ≡ n = omega (arith, long) in
    let all : n + (8 - n) ≡ 8 = omega arith in
    ap (λ (k : ℕ). put_mid 0 (k - 0) zeros copied) (sym end)
    ∙ (put_copy (record { fits = room }) e).bytes
    ∙ sets-eq (bytes n x) zeros 0 room
    ∙ ap (λ (k : ℕ). bytes n x ++ drop k zeros) end
    ∙ ap (λ (l : List ℕ). bytes n x ++ l) (drop-replicate n 8 0)
    ∙ sym (bytes_above n (8 - n) x small)
    ∙ ap (λ (k : ℕ). bytes k x) all

-- so they are read as it
read : (n x : ℕ) {r : ℕ} {copied : List ℕ} → n ≤ 8 → x < 2 ^ (8 * n)
    → r ≡ from_le_bytes w64 (put_mid 0 (n - 0) (replicate 8 0) copied) → copied ≡ bytes n x → r ≡ x
read n x few small told e =
    let most = pow_mono {i = 8 * n} {j = 64} (omega (arith, few)) in
    told
    ∙ ap (from_le_bytes w64) (filled n x few small e ∙ bytes_of-word x)
    ∙ from_le_bytes-to_le_bytes_8 x (omega (arith, small, most))

pub returns : goal.returns
returns c =
    let a = c.args in
    let s = a.s.now in
    let byte : (i : ℕ) → get_or s i 0 < 2 ^ 8 = λ i. (c.type_inv.s i).fits in
    let small = number_small s byte a.n a.at in
    let part : a.at + a.n - a.at ≡ a.n = omega arith in
    let copied = c.copy_from_slice.ensures.after ∙ ap (λ (n : ℕ). take n (drop a.at s)) part ∙ sym (bytes_again s byte a.n a.at c.requires.1) in
    let told : c.from_le_bytes.result ≡ from_le_bytes w64 (put_mid 0 (a.n - 0) (replicate 8 0) c.copy_from_slice.new.self) = search rules in
    let is = read a.n (number s a.at a.n) c.requires.0 small told copied in
    (is, rw is small)
