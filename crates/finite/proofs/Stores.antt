-- The laws of `Put`, a run of bytes stored: one after another, one piece more, from the front; and of the room for it. Assumes nothing.
use mathlib.Core.Path.{◌≡◌, refl, ap, sym, ◌∙◌}
use mathlib.Core.List.{List, [], ◌∷◌, ◌++◌, append_assoc}
use Prim.Native.Nat.{ℕ, zero, suc, ◌+◌, ◌-◌, ◌≤◌, ◌<◌}
use native.Mathlib.Nat.{zero-add, add-zero, add-suc, suc-add}
use native.Mathlib.Numerals.{add-one}
use native.Mathlib.Omega.{arith}
use lib.ListN.{length, take, drop, set, length-append}
use lib.Seq.{sets, sets-eq, length-sets}
use borrow.Author.Tests.{le-leb, lt-leb}
use borrow.Rule.Slice.PartMut.{put_mid, Post-is}
use Rattle.finite.specs.Below.{each}
use Rattle.finite.specs.Stores.{over, laid, laid_end}
use Rattle.finite.specs.Internal.Putting.{Room, Put}
use Rattle.finite.proofs.Cases.{by_eq}

-- a run right after another is one run
pub sets-sets : (vs ws l : List ℕ) (at : ℕ) → sets (sets l at vs) (at + length vs) ws ≡ sets l at (vs ++ ws)
sets-sets [] ws l at = rw add-zero
sets-sets (v ∷ vs) ws l at =
    ap (λ (n : ℕ). sets (sets (set l at v) (suc at) vs) n ws) (add-suc at (length vs) ∙ sym (suc-add at (length vs)))
    ∙ sets-sets vs ws (set l at v) (suc at)

pub put_then : {l l₁ l₂ : List ℕ} {vs ws : List ℕ} {at r₁ r₂ : ℕ} → Put l at vs l₁ r₁ → Put l₁ r₁ ws l₂ r₂ → Put l at (vs ++ ws) l₂ r₂
put_then {l} {l₁} {l₂} {vs} {ws} {at} {r₁} {r₂} a b =
    record {
      bytes =
          b.bytes
          ∙ ap (λ (x : List ℕ). sets x r₁ ws) a.bytes
          ∙ ap (λ (n : ℕ). sets (sets l at vs) n ws) a.end
          ∙ sets-sets vs ws l at;
      end = omega (arith, a.end, b.end, length-append vs ws);
    }

-- a run that is copied to its place
pub put_copy : {l word copied : List ℕ} {at : ℕ} → Room l at word → copied ≡ word
    → Put l at word (put_mid at (at + length word - at) l copied) (at + length word)
put_copy {l} {word} {copied} {at} room e =
    let end : ℕ = at + length word in
    record {
      bytes =
          ap (put_mid at (end - at) l) e
          ∙ ap (λ (x : List ℕ). take at l ++ (word ++ x)) (Post-is at end l (omega arith))
          ∙ sym (append_assoc (take at l) word (drop end l))
          ∙ sym (sets-eq word l at room.fits);
      end = refl;
    }

-- room for two runs is room for the first, and then for the second
pub room_first : {l vs : List ℕ} {at : ℕ} (ws : List ℕ) → Room l at (vs ++ ws) → Room l at vs
room_first {l} {vs} {at} ws room = record { fits = omega (arith, length-append vs ws) }

pub room_next : {l l₁ vs ws : List ℕ} {at r : ℕ} → Room l at (vs ++ ws) → Put l at vs l₁ r → Room l₁ r ws
room_next {l} {l₁} {vs} {ws} {at} {r} room p =
    record { fits = omega (arith, length-append vs ws, p.end, ap length p.bytes, length-sets l at vs) }

-- a run from the front, where there is room for it
pub put_front : {l l' vs : List ℕ} {r : ℕ} → Room l 0 vs → Put l 0 vs l' r → (r ≡ length vs) × (l' ≡ over vs l)
put_front {l} {l'} {vs} room p = (omega (arith, p.end), p.bytes ∙ sets-eq vs l 0 room.fits ∙ rw zero-add)

-- room for the first n pieces is room for fewer of them, and one piece more is put after those before it
module _ {l : List ℕ} {at : ℕ} (f : ℕ → List ℕ) where
  room_fewer : (n i : ℕ) → i ≤ n → Room l at (each f n) → Room l at (each f i)
  unfolding each
  room_fewer zero i h room = let e : i ≡ zero = omega arith in rw e room
  room_fewer (suc n) i h room = by_eq i (suc n) (λ e. rw e room) (λ e. room_fewer n i (omega arith) (room_first (f n) room))

  pub room_piece : {l' : List ℕ} {n i r : ℕ} → i < n → Room l at (each f n) → Put l at (each f i) l' r → Room l' r (f i)
  unfolding each
  room_piece {l'} {n} {i} h room p = room_next (room_fewer n (suc i) h room) p

  pub put_piece : {l₁ l₂ : List ℕ} {i r₁ r₂ : ℕ} → Put l at (each f i) l₁ r₁ → Put l₁ r₁ (f i) l₂ r₂ → Put l at (each f (i + 1)) l₂ r₂
  unfolding each
  put_piece {l₁} {l₂} {i} p q = rw (add-one i) (put_then p q)

-- bytes that are laid where there is room for them are put, and where there is none nothing is
module _ (l : List ℕ) (at : ℕ) (vs : List ℕ) where
  pub laid-put : {l' : List ℕ} {r : ℕ} → Room l at vs → r ≡ laid_end l at vs → l' ≡ laid l at vs → Put l at vs l' r
  unfolding laid laid_end
  laid-put room end bytes =
      let fits = le-leb (at + length vs) (length l) room.fits in
      record { bytes = bytes ∙ rw fits (sym (sets-eq vs l at room.fits)); end = end ∙ rw fits }

  pub put-laid : {l' : List ℕ} {r : ℕ} → Room l at vs → Put l at vs l' r → (r ≡ laid_end l at vs) × (l' ≡ laid l at vs)
  unfolding laid laid_end
  put-laid room p =
      let fits = le-leb (at + length vs) (length l) room.fits in
      (p.end ∙ rw fits, p.bytes ∙ sets-eq vs l at room.fits ∙ rw fits)

  pub none-laid : length l < at + length vs → (at ≡ laid_end l at vs) × (l ≡ laid l at vs)
  unfolding laid laid_end
  none-laid less = let over = lt-leb (at + length vs) (length l) less in (rw over, rw over)
