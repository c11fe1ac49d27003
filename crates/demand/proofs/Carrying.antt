-- Totals carried back, in plain words: the steps made, who knows and what they know are those of `rendezvous_carried`, and the net that is left has
-- the map's configuration. Assumes nothing.
use mathlib.Core.Path.{◌≡◌, sym, ap, ◌∙◌}
use mathlib.Core.Bool.{true, cond}
use mathlib.Core.List.{List, [], ◌∷◌}
use Prim.Native.Nat.{ℕ}
use lib.Dec.{eqb}
use borrow.Author.Tests.{ne_eqb}
use Rattle.finite.proofs.Cases.{by_eq, eqb_self}
use Rattle.aggregate.specs.declared.Config.{Config}
use Rattle.aggregate.specs.declared.Cell.{Cell}
use Rattle.aggregate.specs.Aggregate.{root_of}
use Rattle.aggregate.specs.Internal.Joining.{cells}
use Rattle.linemap.specs.declared.Map.{Map}
use Rattle.linemap.specs.Maps.{config_of}
use Rattle.schedule.specs.Calls.{Call, run}
use Rattle.schedule.proofs.Resting.{rest_refuses}
use Rattle.rendezvous.specs.Net.{Net, station, told, fresh_net}
use Rattle.rendezvous.specs.Telling.{knows, known}
use Rattle.rendezvous.specs.Rules.{rules}
use Rattle.rendezvous.specs.Opening.{fresh_on}
use Rattle.rendezvous.proofs.Places.{config_left}
use Rattle.order.specs.Internal.Rendezvous.{knows_on, known_on}
use Rattle.order.proofs.Maps.{class_held, chosen-joined}
use Rattle.order.proofs.RendezvousBack.{rendezvous_carried}
use Rattle.demand.specs.Kinds.{carrying, left, steps}
use Rattle.demand.specs.Demand.{OnEveryMap, OnEveryWay}
use Rattle.demand.specs.Carrying.{full, CarriedOn, Carried}
use Rattle.demand.proofs.Counted.{reports-counted}
use Rattle.demand.proofs.Further.{rest_final, fresh_run}

-- the net that is left has the map's configuration
config_is : (way : ℕ) (m : Map) (calls : List Call) → (left (carrying way) m calls).config ≡ config_of way m
unfolding fresh_net
config_is way m calls = config_left (fresh_on true way m) calls

-- so who knows, and what, is said by the map's desk
module _ (way : ℕ) (m : Map) (net : Net) (e : net.config ≡ config_of way m) (i : ℕ) where
  knows-is : knows_on m net i ≡ knows net i
  knows-is = ap (λ (t : Config). cond (eqb i (root_of t)) (eqb (station net (root_of t)).state 2) (eqb (station net i).state told)) (sym e)

  known_is : known_on way m net i ≡ cells (config_of way m) (known net i)
  known_is =
      by_eq i m.desk
      (λ (q : i ≡ m.desk). rw (e, q, eqb_self m.desk))
      (λ n. rw (e, ne_eqb i m.desk n))

carried_on : OnEveryWay (λ way. OnEveryMap (CarriedOn way))
carried_on way w m fits good calls =
    let all = rendezvous_carried way w m fits good in
    let back = all.back calls in
    let net = left (carrying way) m calls in
    let config = config_is way m calls in
    let formed = all.formed calls in
    let rest = rest_refuses rules net formed in
    record {
      tells_follow = back.tells_last;
      no_tell_before = λ none. back.tells-after (reports-counted (carrying way) (steps (carrying way) m calls) ∙ none);
      at_most = back.at_most;
      rest-full = (λ none. back.rest-full.0 (rest.1 none), λ full. rest.0 (back.rest-full.1 full));
      full-known = (
        λ full i l. sym (knows-is way m net config i) ∙ back.full-known.0 full i l,
        λ all. back.full-known.1 (λ i l. knows-is way m net config i ∙ all i l),
      );
      total-known = λ i l k j h.
          sym (class_held way m good (known net i) j h)
          ∙ ap (λ (f : ℕ → Cell). f j) (sym (known_is way m net config i) ∙ back.total-known i l (knows-is way m net config i ∙ k))
          ∙ chosen-joined way m good (λ x. true) j h;
      final = λ full. rest_final rules net formed (back.rest-full.1 full);
    }

pub carried : Carried
carried =
    record {
      back = carried_on;
      run_formula = λ way w m fits good draws.
          let all = rendezvous_carried way w m fits good in
          let calls = run draws ∷ [] in
          fresh_run (carrying way) (full m) m draws (all.run_formula draws) (all.formed calls) (all.back calls).rest-full;
    }
