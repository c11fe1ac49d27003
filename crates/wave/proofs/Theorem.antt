-- The order of the links is nobody's business: any root, any commutative monoid of values, any guard between the strong and the weak one.
-- The wave's own states are a kind of net of the wave. Assumes nothing.
use mathlib.Core.Path.{◌≡◌, refl, sym, ap, subst}
use mathlib.Core.List.{List, map-id}
use Prim.Native.Nat.{ℕ}
use Rattle.finite.specs.Internal.Monoid.{CommMonoid}
use Rattle.wave.specs.Internal.Graph.{Graph}
use Rattle.wave.specs.Internal.Wave.{Step, State, fresh, next, Guard}
use Rattle.wave.specs.Internal.Claim.{Runs, reached, AtRest, WaveClaim}
use Rattle.wave.proofs.Refinement.{Refinement, refinement_demand}

module _ {A : Type 0} (g : Graph) (M : CommMonoid A) (counts : ℕ → A) (G : Guard A g) where
  states : Refinement g M counts
  states =
      record {
        Net = State A;
        Move = Step;
        opened = fresh g counts;
        Allowed = G.Allows;
        make = next g M;
        label = λ s. s;
        result = λ S. S.value g.root;
        Stands = λ n S. n ≡ S;
        opened_stands = refl;
        result_is = λ n S e. ap (λ (T : State A). T.value g.root) e;
        sound = λ n S m e I a. G.no_weaker S m (subst (λ (T : State A). G.Allows T m) e a);
        keeps = λ n S m e I a. ap (λ (T : State A). next g M T m) e;
        live = λ n S s e I a. (s, subst (λ (T : State A). G.Allows T s) (sym e) (G.no_stronger S s a));
      }

  pub order_of_links : (made : List Step) → Runs G.Allows (next g M) (fresh g counts) made
      → WaveClaim g.size g.adj M counts made (AtRest G.Allows (reached (next g M) (fresh g counts) made)) ((reached (next g M) (fresh g counts) made).value g.root)
  unfolding states
  order_of_links made r = rw map-id at (refinement_demand g M counts states made r)
