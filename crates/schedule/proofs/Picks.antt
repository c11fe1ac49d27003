-- The step that a draw picks, and the entry of the list that it is: d mod c is below c. Assumes nothing.
use Rattle.std.proofs.Common.{◌≡◌, ℕ, ◌%◌, ◌<◌, Bool, true, false, not, eqb, List, [], ◌∷◌, length, get_or, refl, sym, ap, ◌∙◌, ne_eqb, mod-lt, arith, Some, None}
use Rattle.std.specs.Option.{is_some}
use Rattle.schedule.specs.declared.Step.{Step}
use Rattle.schedule.specs.Rows.{entry, step_found}
use Rattle.schedule.specs.Draws.{picked}
use Rattle.schedule.proofs.Parts.{entry_at}

pub picked_none : (l : List Step) (d : ℕ) → length l ≡ 0 → None ≡ picked l d
unfolding picked
picked_none [] d z = refl
picked_none (s ∷ l) d z = absurd (let f : ⊥ = omega arith in f)

pub none-picked : (l : List Step) (d : ℕ) → picked l d ≡ None → length l ≡ 0
unfolding picked
none-picked [] d e = refl
none-picked (s ∷ l) d e = absurd (let z : ◌≡◌ {A = ℕ} 0 1 = cc in omega arith)

pub some-picked : {s : Step} (l : List Step) (d : ℕ) → picked l d ≡ Some s → length l ≡ 0 → ⊥
unfolding picked
some-picked [] d e z = absurd (let f : ◌≡◌ {A = ℕ} 0 1 = cc in omega arith)
some-picked (t ∷ l) d e z = omega arith

-- nothing is picked just where nothing is listed
pub none_rests : (l : List Step) (d : ℕ) (none : Bool) → is_some (picked l d) ≡ not none → none ≡ eqb (length l) 0
unfolding picked
none_rests [] d true e = refl
none_rests [] d false e = e
none_rests (s ∷ l) d true e = e ∙ sym (ne_eqb (length (s ∷ l)) 0 (λ z. omega arith))
none_rests (s ∷ l) d false e = sym (ne_eqb (length (s ∷ l)) 0 (λ z. omega arith))

pub picked-entry : (l : List Step) (d : ℕ) → (length l ≡ 0 → ⊥) → step_found (entry l (d % length l)) ≡ picked l d
unfolding picked
picked-entry [] d z = absurd (z refl)
picked-entry (t ∷ l) d z = ap step_found (entry_at (t ∷ l) (d % length (t ∷ l)) t (mod-lt d (omega arith)))

-- what is picked passes what all entries pass
pub picked-passes : (p : Step → Bool) (d : ℕ) (s : Step) (l : List Step) → ((n : ℕ) (e : Step) → n < length l → p (get_or l n e) ≡ true)
    → picked l d ≡ Some s → p s ≡ true
unfolding picked
picked-passes p d s [] all e = absurd (let z : ◌≡◌ {A = ℕ} 0 1 = cc in omega arith)
picked-passes p d s (t ∷ l) all e =
    let f : s ≡ get_or (t ∷ l) (d % length (t ∷ l)) t = cc in
    ap p f ∙ all (d % length (t ∷ l)) t (mod-lt d (omega arith))
