-- Once all is carried, the parents are a tree over all stations, and each station holds the total of those below it. Assumes nothing.
use mathlib.Core.Path.{◌≡◌, sym, ap, ◌∙◌}
use mathlib.Core.Bool.{Bool, true, ◌||◌, cond, or-false}
use Prim.Native.Nat.{ℕ, zero, suc, ◌+◌, ◌-◌, ◌<◌, ◌≤◌}
use native.Mathlib.Omega.{arith}
use lib.Dec.{eqb, leb}
use borrow.Author.Tests.{ne_eqb, leb-true, leb-false}
use Rattle.finite.specs.Hops.{hop, leads}
use Rattle.finite.specs.Internal.Monoid.{CommMonoid}
use Rattle.finite.proofs.Cases.{by_bool, by_eq, eqb_self}
use Rattle.finite.proofs.Sums.{sum_ext}
use Rattle.wave.specs.Internal.Graph.{Graph}
use Rattle.wave.specs.Internal.Wave.{State}
use Rattle.wave.specs.Internal.Tree.{TreeBehind}
use Rattle.wave.proofs.Invariant.{Inv, rank_below, all_awake}
use Rattle.finite.proofs.Hops.{hop-add, leads-hop, hop-leads, hop_stays, leads_stays, hop_alike, leads_alike}

module _ {A : Type 0} (g : Graph) (M : CommMonoid A) (counts : ℕ → A) (S : State A) (I : Inv g M counts S)
    (all : (i j : ℕ) → g.adj i j ≡ true → S.carried i j ≡ true) where
  up : (x : ℕ) → x < g.size → S.awake x ≡ true
  up x l = all_awake g M counts S I all x (g.joined x l)

  near : (x : ℕ) → x < g.size → (x ≡ g.root → ⊥) → g.adj x (S.parent x) ≡ true
  near x l n = g.mutual_adj (S.parent x) x (I.sent (S.parent x) x (I.tree x (up x l) n).0).0

  -- parents are stations
  pub parents_in : (x : ℕ) → x < g.size → S.parent x < g.size
  parents_in x l =
      by_eq x g.root
      (λ q. rw (q, I.top) g.root_in)
      (λ n. (g.within x (S.parent x) (near x l n)).1)

  -- ranks fall from station to parent and are below k, so hops lead to the root
  rank_high : (x : ℕ) → x < g.size → I.rank x ≤ g.size - 1
  rank_high x l = omega (arith, rank_below g M counts S I x (up x l))

  to_root : (n x : ℕ) → x < g.size → I.rank x ≤ n → (h : ℕ) × (h ≤ n) × (hop S.parent h x ≡ g.root)
  unfolding hop
  to_root zero x l r =
      by_eq x g.root
      (λ q. (0, omega arith, q))
      (λ o. absurd (omega (arith, (I.tree x (up x l) o).1)))
  to_root (suc n) x l r =
      by_eq x g.root
      (λ q. (0, omega arith, q))
      (λ o.
      let w = to_root n (S.parent x) (parents_in x l) (omega (arith, (I.tree x (up x l) o).1)) in
      (suc w.0, omega (arith, w.1), w.2))

  -- all but the root have answered, so a count is in what i holds where parents lead to i
  under_root : (i : ℕ) → I.gathers.under g.root i ≡ eqb g.root i
  under_root i = I.gathers.passed_on g.root i ∙ (rw (eqb_self g.root, or-false))

  under_below : (x i : ℕ) → x < g.size → (x ≡ g.root → ⊥) → I.gathers.under x i ≡ (eqb x i || I.gathers.under (S.parent x) i)
  under_below x i l n = I.gathers.passed_on x i ∙ (rw (ne_eqb x g.root n, all x (S.parent x) (near x l n)))

  leads_under : (n x i : ℕ) → x < g.size → I.rank x ≤ n → leads S.parent n x i ≡ I.gathers.under x i
  unfolding leads
  leads_under zero x i l r =
      by_eq x g.root
      (λ q. rw q (sym (under_root i)))
      (λ o. absurd (omega (arith, (I.tree x (up x l) o).1)))
  leads_under (suc n) x i l r =
      by_eq x g.root
      (λ q. rw q (leads_stays S.parent (suc n) g.root i I.top ∙ sym (under_root i)))
      (λ o.
      ap (λ (b : Bool). eqb x i || b) (leads_under n (S.parent x) i (parents_in x l) (omega (arith, (I.tree x (up x l) o).1)))
      ∙ sym (under_below x i l o))

  any_hops : (j i h : ℕ) → j < g.size → hop S.parent h j ≡ i → leads S.parent (g.size - 1) j i ≡ true
  any_hops j i h l e =
      let w = to_root (g.size - 1) j l (rank_high j l) in
      let d = w.0 in
      by_bool (leb h d)
      (λ b. hop-leads S.parent (g.size - 1) h j i (omega (arith, leb-true h d b, w.1)) e)
      (λ b.
      let more : h ≡ d + (h - d) = omega (arith, leb-false h d b) in
      let at : hop S.parent h j ≡ g.root =
      ap (λ (n : ℕ). hop S.parent n j) more
      ∙ hop-add S.parent d (h - d) j
      ∙ ap (hop S.parent (h - d)) w.2
      ∙ hop_stays S.parent (h - d) g.root I.top in
      hop-leads S.parent (g.size - 1) d j i w.1 (w.2 ∙ sym at ∙ e))

  pub tree_behind : TreeBehind g.size g.root g.adj M counts S.parent S.value
  tree_behind =
      record {
        neighbour = near;
        reaches = λ i l. to_root (g.size - 1) i l (rank_high i l);
        stays = I.top;
        through = λ j i l. (
          λ e. let w = leads-hop S.parent (g.size - 1) j i e in (w.0, w.2),
          λ w. any_hops j i w.0 l w.1,
        );
        sums = λ i l.
            I.gathers.gathered i l
            ∙ sum_ext M g.size _ _ (λ x m. ap (λ (b : Bool). cond b (counts x) M.unit) (sym (leads_under (g.size - 1) x i m (rank_high x m))));
      }

-- parents and values that agree below k have the same tree behind them
module _ {A : Type 0} (k root : ℕ) (adj : ℕ → ℕ → Bool) (M : CommMonoid A) (counts : ℕ → A) (p q : ℕ → ℕ) (held value : ℕ → A)
    (inside : root < k) (agree : (i : ℕ) → i < k → p i ≡ q i) (stay : (i : ℕ) → i < k → q i < k) (holds : (i : ℕ) → i < k → held i ≡ value i) where
  same-leads : (j i : ℕ) → j < k → leads p (k - 1) j i ≡ leads q (k - 1) j i
  same-leads j i l = leads_alike k p q agree stay (k - 1) j i l

  same-hop : (h j : ℕ) → j < k → hop p h j ≡ hop q h j
  same-hop h j l = hop_alike k p q agree stay h j l

  pub tree_alike : TreeBehind k root adj M counts q value → TreeBehind k root adj M counts p held
  tree_alike t =
      record {
        neighbour = λ i m n. ap (adj i) (agree i m) ∙ t.neighbour i m n;
        reaches = λ i m. let w = t.reaches i m in (w.0, w.1, same-hop w.0 i m ∙ w.2);
        stays = agree root inside ∙ t.stays;
        through = λ j i m. (
          λ e. let w = (t.through j i m).0 (sym (same-leads j i m) ∙ e) in (w.0, same-hop w.0 j m ∙ w.1),
          λ w. same-leads j i m ∙ (t.through j i m).1 (w.0, sym (same-hop w.0 j m) ∙ w.1),
        );
        sums = λ i m.
            holds i m ∙ t.sums i m ∙ sum_ext M k _ _ (λ j l. ap (λ (b : Bool). cond b (counts j) M.unit) (sym (same-leads j i l)));
      }
