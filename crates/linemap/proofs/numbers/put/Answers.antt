-- `linemap::numbers::put` meets its contract: the lowest n of the eight bytes are copied to their place. Assumes nothing.
use Rattle.std.proofs.Common.{◌≡◌, ℕ, zero, suc, ◌+◌, ◌-◌, ◌/◌, ◌%◌, ◌^◌, ◌≤◌, List, ◌∷◌, take, refl, sym, ap, ◌∙◌, arith}
use borrow.Rule.Slice.PartMut.{put_mid}
use Rattle.finite.specs.Numbers.{bytes}
use Rattle.finite.proofs.Digits.{length-bytes}
use Rattle.finite.proofs.Stores.{put_copy}
use Rattle.aggregate.proofs.WordBytes.{bytes_of-word}
use Rattle.linemap.specs.Internal.Stages.{put}
use Rattle.linemap.proofs.numbers.put.Goals as goal

-- the first of the bytes are the lowest
bytes_first : (n m x : ℕ) → n ≤ m → take n (bytes m x) ≡ bytes n x
unfolding bytes
bytes_first zero m x h = refl
bytes_first (suc n) zero x h = absurd (omega (arith, h))
bytes_first (suc n) (suc m) x h = ap (λ (l : List ℕ). x % 2 ^ 8 ∷ l) (bytes_first n m (x / 2 ^ 8) (omega (arith, h)))

pub returns : goal.returns
unfolding put
returns c =
    let a = c.args in
    let long = length-bytes a.n a.x in
    let copied = c.copy_from_slice.ensures.after
    ∙ ap (take a.n) (c.to_le_bytes.ensures ∙ sym (bytes_of-word a.x)) ∙ bytes_first a.n 8 a.x c.requires.0 in
    ap (λ (n : ℕ). put_mid a.at (a.at + n - a.at) a.buf.now c.copy_from_slice.new.self) (sym long)
    ∙ (put_copy {at = a.at} (record { fits = omega (arith, long, c.requires.1) }) copied).bytes
