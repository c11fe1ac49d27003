-- The tree behind a total, in all kinds of net. Assumes nothing.
use mathlib.Core.Path.{◌≡◌, refl}
use Rattle.topology.specs.Answer.{accepted}
use Rattle.linemap.specs.declared.Map.{Map}
use Rattle.linemap.specs.Maps.{acceptance}
use Rattle.linemap.specs.RoundTrip.{Fits}
use Rattle.demand.specs.Kinds.{Kind, meeting, carrying, mailing}
use Rattle.demand.proofs.Demand.{Whole}
use Rattle.tree.specs.Tree.{Answers, meeting_answers, carrying_answers, mailing_answers, OfKind, Tree}
use Rattle.tree.proofs.Kind.{Shown, Above, itself, made_again, after-all, behind, parents_stay}
use Rattle.tree.proofs.Rendezvous.{meeting-shown}
use Rattle.tree.proofs.Carrying.{carrying_above}
use Rattle.tree.proofs.Mailbox.{mailing-shown, posted}
use Rattle.tree.proofs.Example.{any_tree}

of_kind : (K₀ : Kind) (A₀ : Answers K₀) (K : Kind) (A : Answers K) → ((m : Map) → Fits m → (e : acceptance m ≡ accepted) → Shown K₀ A₀ m e)
    → ((m : Map) → Fits m → acceptance m ≡ accepted → Above K₀ A₀ K A m) → OfKind K A
of_kind K₀ A₀ K A shown above =
    record {
      made_again = λ m fits e calls. made_again K m calls;
      after-all = λ m fits e calls. after-all K m calls;
      behind = λ m fits e calls one. behind K₀ A₀ K A m e (shown m fits e) (above m fits e) calls one;
      parents_stay = λ m fits e calls. parents_stay K₀ A₀ K A m e (shown m fits e) (above m fits e) calls;
    }

-- where all steps are counted
of_whole : (K : Kind) (A : Answers K) → Whole K → ((m : Map) → Fits m → (e : acceptance m ≡ accepted) → Shown K A m e) → OfKind K A
of_whole K A whole shown = of_kind K A K A shown (λ m fits e. itself K A m whole)

pub tree : Tree
tree =
    record {
      stations_that_meet = λ way w. of_whole (meeting way) (meeting_answers way) (λ s. refl) (meeting-shown way w);
      carrying-back = λ way w.
          of_kind (meeting way) (meeting_answers way) (carrying way) (carrying_answers way) (meeting-shown way w) (carrying_above way w);
      stations_with_mail = λ way w. of_whole (mailing way) (mailing_answers way) (λ s. refl) (mailing-shown way w);
      posted = posted;
      any_tree = any_tree;
    }
