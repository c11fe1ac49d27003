-- The tree behind a total, for everything that carries out the wave: any root, any commutative monoid of values, any guard between the
-- strong and the weak one. A kind of net that refines the wave shows its parents, what its stations hold, and what they send up.
-- Assumes nothing.
use mathlib.Core.Path.{◌≡◌, sym, ap, ◌∙◌, subst}
use mathlib.Core.Bool.{true}
use mathlib.Core.List.{List, ◌∷◌, ◌++◌, map}
use Prim.Native.Nat.{ℕ, ◌<◌}
use native.Mathlib.Omega.{arith}
use Rattle.finite.specs.Sum.{indicator}
use Rattle.finite.specs.Internal.Monoid.{CommMonoid}
use Rattle.finite.proofs.Sums.{indicator-one}
use Rattle.wave.specs.Internal.Graph.{Graph}
use Rattle.wave.specs.Internal.Wave.{message, report, State, answers, fresh, next, Heard, CanSend, Weak}
use Rattle.wave.specs.Internal.Claim.{times, Runs, reached}
use Rattle.wave.specs.Internal.Tree.{total_through, TreeBehind, Records, SentUp, ParentsStay}
use Rattle.wave.proofs.Invariant.{Inv, answers_both, answers-is}
use Rattle.wave.proofs.Gathering.{fresh_inv}
use Rattle.wave.proofs.Trace.{inv_after, times-report}
use Rattle.wave.proofs.Refinement.{Refinement, stands, refinement_demand}
use Rattle.wave.proofs.Lasting.{parent_lasts, value_lasts, reached_then, runs_then, found}
use Rattle.wave.proofs.Tree.{tree_behind, parents_in, tree_alike}

module _ {A : Type 0} (g : Graph) (M : CommMonoid A) (counts : ℕ → A) where
  -- what a kind of net shows is what the state of the wave that it stands for has: who is awake, parents, what is held, and of the moves
  -- which are answers, with what they bring
  pub record Shows (K : Refinement g M counts) (D : Records K.Net K.Move A) : Type 0 where
    pub awake_is : (n : K.Net) (S : State A) → K.Stands n S → (x : ℕ) → x < g.size → D.awake n x ≡ true → S.awake x ≡ true
    pub parent_is : (n : K.Net) (S : State A) → K.Stands n S → (x : ℕ) → x < g.size → D.parent n x ≡ S.parent x
    pub held-is : (n : K.Net) (S : State A) → K.Stands n S → (x : ℕ) → x < g.size → D.held n x ≡ S.value x
    pub answer-is : (n : K.Net) (S : State A) (m : K.Move) (i j : ℕ) → K.Stands n S → Inv g M counts S → K.Allowed n m
        → K.label m ≡ message i j → D.is_answer n m ≡ answers g S i j
    pub brought_is : (n : K.Net) (S : State A) (m : K.Move) (i j : ℕ) → K.Stands n S → Inv g M counts S → K.Allowed n m
        → K.label m ≡ message i j → answers g S i j ≡ true → D.brought n m ≡ S.value i

  module _ (K : Refinement g M counts) (D : Records K.Net K.Move A) (Z : Shows K D) (ms : List K.Move)
      (runs : Runs K.Allowed K.make K.opened ms) where
    -- the net that the moves lead to
    abbrev left : K.Net
    left = reached K.make K.opened ms

    -- what is known where the list is taken apart
    pub record Moment (front ahead : List K.Move) : Type 0 where
      pub before : State A
      pub after : State A
      pub stood : K.Stands (reached K.make K.opened front) before
      pub ends : K.Stands left after
      pub inv : Inv g M counts before
      pub goes : Runs K.Allowed K.make (reached K.make K.opened front) ahead
      pub weak : Runs (Weak g) (next g M) before (map K.label ahead)
      pub parents : (x : ℕ) → before.awake x ≡ true → after.parent x ≡ before.parent x
      pub values : (x : ℕ) → Heard g before x → after.value x ≡ before.value x

    pub moment : (front ahead : List K.Move) → ms ≡ front ++ ahead → Moment front ahead
    moment front ahead e =
        let F = reached (next g M) (fresh g counts) (map K.label front) in
        let n = reached K.make K.opened front in
        let r = runs_then K.Allowed K.make K.opened front ahead (subst (Runs K.Allowed K.make K.opened) e runs) in
        let p = stands g M counts K K.opened (fresh g counts) front K.opened_stands (fresh_inv g M counts) r.0 in
        let I = inv_after g M counts (fresh g counts) (map K.label front) (fresh_inv g M counts) p.0 in
        let q = stands g M counts K n F ahead p.1 I r.1 in
        let same : left ≡ reached K.make n ahead = ap (reached K.make K.opened) e ∙ reached_then K.make K.opened front ahead in
        record {
          before = F;
          after = reached (next g M) F (map K.label ahead);
          stood = p.1;
          ends = subst (λ (k : K.Net). K.Stands k (reached (next g M) F (map K.label ahead))) (sym same) q.1;
          inv = I;
          goes = r.1;
          weak = q.0;
          parents = λ x up. parent_lasts g M counts F (map K.label ahead) x I q.0 up;
          values = λ x h. value_lasts g M counts F (map K.label ahead) x I q.0 h;
        }

    pub refinement_parents : ParentsStay D K.label K.make K.opened ms g.size
    refinement_parents front back e i l up =
        let t = moment front back e in
        Z.parent_is left t.after t.ends i l
        ∙ t.parents i (Z.awake_is _ t.before t.stood i l up)
        ∙ sym (Z.parent_is _ t.before t.stood i l)

    module _ (one : times report (map K.label ms) ≡ 1) where
      pub refinement_tree : TreeBehind g.size g.root g.adj M counts (D.parent left) (D.held left)
      unfolding indicator
      refinement_tree =
          let made = map K.label ms in
          let S = reached (next g M) (fresh g counts) made in
          let p = stands g M counts K K.opened (fresh g counts) ms K.opened_stands (fresh_inv g M counts) runs in
          let I = inv_after g M counts (fresh g counts) made (fresh_inv g M counts) p.0 in
          let reported : indicator S.reported ≡ 1 = omega (arith, times-report g M counts (fresh g counts) made p.0, one) in
          let all = I.ended (indicator-one S.reported reported) in
          tree_alike g.size g.root g.adj M counts (D.parent left) S.parent (D.held left) S.value g.root_in
          (Z.parent_is left S p.1) (parents_in g M counts S I all) (Z.held-is left S p.1) (tree_behind g M counts S I all)

      -- who may answer has heard all, so what it holds is what it holds in the end
      pub answer_up : (front ahead : List K.Move) (t : Moment front ahead) (i j : ℕ) → CanSend g t.before i j → answers g t.before i j ≡ true
          → (D.parent left i ≡ j) × (t.before.value i ≡ total_through M g.size (D.parent left) counts i)
      answer_up front ahead t i j w a =
          let l = (g.within i j w.adjacent).0 in (
            Z.parent_is left t.after t.ends i l ∙ t.parents i w.up ∙ (answers_both g t.before i j a).1,
            sym (t.values i (w.heard a)) ∙ sym (Z.held-is left t.after t.ends i l) ∙ refinement_tree.sums i l,
          )

      pub refinement_up : SentUp D K.label K.make K.opened ms g.size g.root M counts
      refinement_up =
          record {
            total_up = λ front back m i j e q up.
                let t = moment front (m ∷ back) e in
                let a = sym (Z.answer-is _ t.before m i j t.stood t.inv t.goes.0 q) ∙ up in
                let u = answer_up front (m ∷ back) t i j (subst (Weak g t.before) q t.weak.0) a in
                (u.0, Z.brought_is _ t.before m i j t.stood t.inv t.goes.0 q a ∙ u.1);
            each_up = λ i l n.
                let j = D.parent left i in
                let f = found K.label (message i j) ms ((refinement_demand g M counts K ms runs).each_way one i j (refinement_tree.neighbour i l n)) in
                let t = moment f.0 (f.1 ∷ f.2) f.3 in
                let w : CanSend g t.before i j = subst (Weak g t.before) f.4 t.weak.0 in
                let p : t.before.parent i ≡ j = sym (t.parents i w.up) ∙ sym (Z.parent_is left t.after t.ends i l) in (
                  f.0,
                  f.1,
                  f.2,
                  f.3,
                  f.4,
                  Z.answer-is _ t.before f.1 i j t.stood t.inv t.goes.0 f.4 ∙ answers-is g t.before i j n p,
                );
          }
