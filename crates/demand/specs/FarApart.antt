-- Steps far apart (document 02, request 9) on accepted maps, where no call leads out of form: two allowed steps that name no station in common may
-- change places, and nothing is asked of the form. The theorem is `far_apart_on_maps` (proofs/FarApart).
use Rattle.std.specs.Prelude.{◌≡◌, Bool}
use mathlib.Core.List.{List, map, Memᴰ}
use Rattle.schedule.specs.declared.Step.{Step}
use Rattle.schedule.specs.Calls.{Call, single, calls_made, calls_net}
use Rattle.rendezvous.specs.Net.{Net}
use Rattle.rendezvous.specs.Rules.{rules}
use Rattle.rendezvous.specs.Opening.{fresh_on}
use Rattle.rendezvous.specs.FarApart.{Apart, BothAllowed, Exchange, Reordered, Alike, Ends}
use Rattle.demand.specs.Demand.{OnEveryMap, OnEveryWay}

-- "two steps are allowed .., name no station in common"
abbrev pub AllowedApart : Net → Step → Step → Type 0
AllowedApart net s t = BothAllowed net s t × Apart s t

-- what holds of a net
pub record FarApartIn (net : Net) : Type 0 where
  pub exchange : (s t : Step) → AllowedApart net s t → Exchange net s t
  pub listings : (l m : List Call) → Reordered AllowedApart net l m → Alike net l m
  -- listings of which each alone is made whole
  pub ends : (a b : List Step) → calls_made rules net (map single a) ≡ a → calls_made rules net (map single b) ≡ b
      → ((s t : Step) → Memᴰ s a → Memᴰ t b → Apart s t) → Ends net a b

-- on every accepted map, opened for carrying back or not and with any way, in the net that any list of calls leaves
abbrev pub FarApartOnMaps : Type 0
FarApartOnMaps = (back : Bool) → OnEveryWay (λ way. OnEveryMap (λ m calls. FarApartIn (calls_net rules (fresh_on back way m) calls)))
