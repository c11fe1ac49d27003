-- Reading into a buffer part by part, writing part by part, and that the front that is read decides the output. Assumes nothing.
use Rattle.std.proofs.Common.{◌≡◌, ℕ, ◌+◌, ◌-◌, ◌≤◌, List, ◌++◌, IfSome, length, take, drop, sym, ap, ◌∙◌, subst, drop_at, length-take-le}
use borrow.Rule.Slice.PartMut.{put_mid, post_of, take_put}
use Rattle.std.proofs.lemmas.List.{take_rest}
use Rattle.std.proofs.Math.Seq.{take-add, take-append-le}
use Rattle.std.specs.declared.option.Option.{Option}
use Rattle.std.specs.declared.option.Option.TheVariants.{None, Some}
use Rattle.std.specs.Io.KnownBytes.{Appends, Consumes}
use Rattle.std.proofs.KnownBytes.{Appends-trans, Consumes-trans}
use Rattle.program.specs.Output.{output_of}
use Rattle.program.specs.Running.{input_room, FrontEnough}

-- m bytes more, read into the buffer's last k places, stand after its first n
module _ (n k m : ℕ) (buf part : List ℕ) (within : n ≤ length buf) (fits : m ≤ length part) where
  front_more : take (n + m) (put_mid n k buf part) ≡ take n buf ++ take m part
  front_more =
      take-add n m (put_mid n k buf part)
      ∙ ap (λ (l : List ℕ). l ++ take m (drop n (put_mid n k buf part))) (take_put n k buf part within)
      ∙ ap (λ (l : List ℕ). take n buf ++ take m l) (drop_at (take n buf) (part ++ post_of n k buf) n (length-take-le n buf within))
      ∙ ap (λ (l : List ℕ). take n buf ++ l) (take-append-le m part (post_of n k buf) fits)

  pub read_more : (a b c : Option (List ℕ)) → Consumes a b (take n buf) → Consumes b c (take m part) → Consumes a c (take (n + m) (put_mid n k buf part))
  read_more a b c p q = subst (Consumes a c) (sym front_more) (Consumes-trans a b c (take n buf) (take m part) p q)

-- m bytes more are written, of those after the first n
pub write_more : (n m : ℕ) (bytes : List ℕ) (a b c : Option (List ℕ)) → Appends a b (take n bytes)
    → Appends b c (take m (take (length bytes - n) (drop n bytes))) → Appends a c (take (n + m) bytes)
write_more n m bytes a b c p q =
    let next : take n bytes ++ take m (take (length bytes - n) (drop n bytes)) ≡ take (n + m) bytes =
    ap (λ (l : List ℕ). take n bytes ++ take m l) (take_rest bytes n) ∙ sym (take-add n m bytes) in
    subst (Appends a c) next (Appends-trans a b c (take n bytes) (take m (take (length bytes - n) (drop n bytes))) p q)

-- what holds of the output for the front that was read holds of the output for all of the input
pub front_serves : FrontEnough → (P : List ℕ → Type 0) (input : Option (List ℕ)) (n : ℕ) (buf : List ℕ) → length buf ≡ input_room
    → IfSome input (λ s. take n buf ≡ take (length buf) s) → P (output_of (take n buf)) → IfSome input (λ s. P (output_of s))
front_serves enough P None n buf long read h = tt
front_serves enough P (Some s) n buf long read h =
    subst P (ap output_of (read ∙ ap (λ (k : ℕ). take k s) long) ∙ enough s) h
