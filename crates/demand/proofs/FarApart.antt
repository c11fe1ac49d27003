-- Steps far apart on accepted maps: every net that calls lead to is in form, so what is asked of the form is given. Assumes nothing.
use mathlib.Core.Path.{◌≡◌, sym, ap, ◌∙◌}
use mathlib.Core.Bool.{Bool, true, false}
use mathlib.Core.List.{List, ◌++◌, map}
use Rattle.schedule.specs.Calls.{Call, single, calls_net}
use Rattle.schedule.proofs.Made.{calls_append}
use Rattle.rendezvous.specs.Net.{well_formed}
use Rattle.rendezvous.specs.Rules.{rules}
use Rattle.rendezvous.specs.Opening.{fresh_on}
use Rattle.rendezvous.proofs.FarApart.{steps_far_apart, always_far, always_reordered}
use Rattle.demand.specs.Demand.{OnEveryMap, OnEveryWay}
use Rattle.demand.specs.FarApart.{FarApartOnMaps}
use Rattle.demand.proofs.Further.{further}

formed : (back : Bool) → OnEveryWay (λ way. OnEveryMap (λ m calls. well_formed (calls_net rules (fresh_on back way m) calls) ≡ true))
formed true way w = (further.carrying-back way w).formed
formed false way w = (further.stations_that_meet way w).0.formed

pub far_apart_on_maps : FarApartOnMaps
far_apart_on_maps back way w m fits good calls =
    let fresh = fresh_on back way m in
    let net = calls_net rules fresh calls in
    let always : (more : List Call) → well_formed (calls_net rules net more) ≡ true =
    λ more. ap well_formed (sym (calls_append rules fresh calls more)) ∙ formed back way w m fits good (calls ++ more) in
    record {
      exchange = λ s t h. steps_far_apart.exchange net s t (always_far net always s t h);
      listings = λ l n r. steps_far_apart.listings net l n (always_reordered always r);
      ends = λ a b ma mb.
          steps_far_apart.ends net a b
          (record { made = ma; formed = always (map single a) }) (record { made = mb; formed = always (map single b) });
    }
