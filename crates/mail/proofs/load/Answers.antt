-- `mail::load` meets its contract: class by class, the sum is copied out. Assumes nothing.
use mathlib.Core.Path.{◌≡◌, refl, ap, ◌∙◌}
use mathlib.Core.List.{List}
use Prim.Native.Nat.{ℕ, min}
use lib.ListN.{get_or, replicate}
use borrow.Author.Tests.{lt-ltb}
use Rattle.finite.proofs.Below.{stored, stored_more, stored-table, get_d_tabulate}
use Rattle.aggregate.specs.Aggregate.{from_words}
use Rattle.aggregate.proofs.Words.{words_ext}
use Rattle.mail.specs.Mail.{sum_place, brought_at}
use native.Mathlib.Omega.{arith}
use Rattle.mail.proofs.load.Goals as goal

pub loop-j-init : goal.loop-j-init
unfolding stored
loop-j-init c = refl

pub loop-j-preserved : goal.loop-j-preserved
loop-j-preserved c =
    let a = c.args in
    let l = c.loop-j in
    let f : ℕ → ℕ = λ i. get_or a.boxes.now (sum_place i a.p.from a.p.to) 0 in
    stored_more f (replicate 8 0) l.j l.sums _ l.invariant (ap (λ (p : ℕ). get_or a.boxes.now p 0) c.sum.ensures)

pub returns : goal.returns
unfolding brought_at
returns c =
    let a = c.args in
    let l = c.loop-j in
    let f : ℕ → ℕ = λ i. get_or a.boxes.now (sum_place i a.p.from a.p.to) 0 in
    let n = min a.t.classes 8 in
    let all : l.j ≡ n = omega arith in
    let sums = (rw all at l.invariant) ∙ stored-table f (replicate 8 0) 8 n 0 refl in
    c.from_words.ensures
    ∙ words_ext a.t _ f _ (λ i h. ap (λ (m : List ℕ). get_or m i 0) sums ∙ get_d_tabulate _ 8 i 0 (omega arith) ∙ rw (lt-ltb i n h))
    ∙ ap (λ (p : ℕ). from_words a.t f (get_or a.boxes.now p 0)) c.missing.ensures
