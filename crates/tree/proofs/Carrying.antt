-- Totals carried back: a net stands above one without (`plain`, which takes told stations as finished), since tells leave that as it is, and come last.
-- Assumes nothing.
use mathlib.Core.Path.{◌≡◌, refl, sym, ap, ◌∙◌, subst}
use mathlib.Core.Bool.{true, false, not}
use mathlib.Core.List.{List}
use Prim.Native.Nat.{ℕ}
use native.Mathlib.Omega.{arith}
use lib.Dec.{eqb}
use borrow.Author.Tests.{eqb-true}
use Rattle.aggregate.specs.declared.Config.{Config}
use Rattle.aggregate.specs.declared.Cell.{Cell}
use Rattle.aggregate.specs.Ways.{is_way}
use Rattle.aggregate.specs.Aggregate.{root_of}
use Rattle.aggregate.specs.Internal.Joining.{cells}
use Rattle.aggregate.proofs.Joining.{joining}
use Rattle.station.specs.declared.Station.{Station}
use Rattle.station.specs.Events.{asleep}
use Rattle.wave.specs.Internal.Graph.{Graph}
use Rattle.wave.specs.Internal.Wave.{fresh}
use Rattle.wave.specs.Internal.Claim.{Runs, reached}
use Rattle.topology.specs.Answer.{accepted}
use Rattle.linemap.specs.declared.Map.{Map}
use Rattle.linemap.specs.Maps.{config_of, acceptance}
use Rattle.linemap.specs.RoundTrip.{Fits}
use Rattle.schedule.specs.declared.Step.{Step}
use Rattle.schedule.proofs.Listing.{Allowed}
use Rattle.rendezvous.specs.Net.{Net, station}
use Rattle.rendezvous.specs.Figure.{answer}
use Rattle.rendezvous.specs.Telling.{tell}
use Rattle.rendezvous.specs.Rules.{apply, rules}
use Rattle.rendezvous.specs.Opening.{fresh_on}
use Rattle.rendezvous.proofs.Settled.{plain, at_plain, settled_early}
use Rattle.order.specs.Internal.Maps.{readings}
use Rattle.order.specs.Internal.Back.{wave_steps, tells_of}
use Rattle.order.proofs.Maps.{classes_of_lem, web_of}
use Rattle.order.proofs.Rendezvous.{ties}
use Rattle.order.proofs.Back.{walk, started}
use Rattle.order.proofs.RendezvousBack.{carries-back, rendezvous_carried}
use Rattle.demand.specs.Kinds.{meeting, carrying, made}
use Rattle.tree.specs.Tree.{meeting_answers, carrying_answers}
use Rattle.tree.proofs.Kind.{graph, Above}

module _ (way : ℕ) (ok : is_way way ≡ true) (m : Map) (fits : Fits m) (e : acceptance m ≡ accepted) where
  abbrev t : Config
  t = config_of way m

  abbrev g : Graph
  g = graph way m e

  -- what steps with tells among them lead to
  walked : (made : List Step) → Runs (Allowed rules) apply (fresh_on true way m) made
      → Runs (Allowed rules) apply (fresh_on false way m) (wave_steps tell made)
      × (plain (reached apply (fresh_on true way m) made) ≡ reached apply (fresh_on false way m) (wave_steps tell made))
  walked made runs =
      let T = ties t m.counts m.neighbours (web_of m e) (classes_of_lem m e, ok) fits.counts in
      let K = carries-back t m.counts m.neighbours (web_of m e) (classes_of_lem m e, ok) fits.counts in
      let held : Net → ℕ → Cell = λ n. cells t (station n (root_of t)).held in
      let parent : Net → ℕ → ℕ = λ n i. (station n i).parent in
      let w =
      walk rules rules tell g (joining way) (readings way m) (fresh_on false way m) held T parent (fresh_on true way m) _ K (fresh_on true way m) (fresh g (readings way m)) made
      (started rules rules tell g (joining way) (readings way m) (fresh_on false way m) held T parent (fresh_on true way m) _ K) runs in (
        subst (λ (n : Net). Runs (Allowed rules) apply n (wave_steps tell made)) K.start_plain w.runs,
        w.ends ∙ ap (λ (n : Net). reached apply n (wave_steps tell made)) K.start_plain,
      )

  pub carrying_above : Above (meeting way) (meeting_answers way) (carrying way) (carrying_answers way) m
  carrying_above =
      record {
        plain = plain;
        walked = walked;
        first = λ calls. (tells_of tell (made (carrying way) m calls), ((rendezvous_carried way ok m fits e).back calls).tells_last);
        same-reports = refl;
        same_way = refl;
        awake_is = λ net i. ap (λ (s : Station). eqb s.state asleep) (at_plain net i) ∙ settled_early (station net i).state asleep (omega arith);
        parent_is = λ net i. sym (ap (λ (s : Station). s.parent) (at_plain net i));
        held-is = λ net i. sym (ap (λ (s : Station). s.held) (at_plain net i));
        answers-counted = λ net s a. ap (λ (x : ℕ). not (eqb x tell)) (eqb-true s.kind answer a);
        answer-is = λ net s. refl;
        brought_is = λ net s. sym (ap (λ (x : Station). x.held) (at_plain net s.sender));
      }
