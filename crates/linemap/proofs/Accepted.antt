-- An accepted map has a class count and a desk, and its sets are a web; a map that was read is accepted: what the wave runs on.
-- Assumes nothing.
use Rattle.std.proofs.Common.{◌≡◌, ℕ, ◌<◌, Bool, true, cond, List, sym, ap, ◌∙◌}
use Rattle.finite.specs.Tests.{unless}
use Rattle.finite.proofs.Cases.{by_bool}
use Rattle.aggregate.specs.Ways.{is_way}
use Rattle.aggregate.specs.Aggregate.{is_class_count}
use Rattle.topology.specs.Answer.{accepted, is_accepted}
use Rattle.topology.specs.Web.{Web}
use Rattle.topology.specs.declared.Fault.TheVariants.{Classes}
use Rattle.topology.proofs.Webs.{passed, accepted_web, web_root, web_accepted}
use Rattle.linemap.specs.Maps.{acceptance}
use Rattle.linemap.specs.Reading.{read_as, reading}
use Rattle.linemap.specs.Openings.{fresh_fault_numbers, openable}
use Rattle.linemap.specs.declared.Map.{Map}
use Rattle.linemap.specs.declared.FreshFault.TheVariants.{Way}
use Rattle.linemap.proofs.Rules.{read_facts}

module _ (m : Map) (ok : is_accepted (acceptance m) ≡ true) where
  pub map_classes : is_class_count m.classes ≡ true
  map_classes = (passed (is_class_count m.classes) Classes _ ok).0

  pub map_web : Web m.desk m.k m.neighbours
  map_web = accepted_web m.desk m.k m.neighbours (passed (is_class_count m.classes) Classes _ ok).1

  pub map-desk : m.desk < m.k
  map-desk = web_root m.desk m.k m.neighbours map_web

-- such a map is accepted
pub map-accepted : (m : Map) → is_class_count m.classes ≡ true → Web m.desk m.k m.neighbours → acceptance m ≡ accepted
map-accepted m count web = rw count (web_accepted m.desk m.k m.neighbours web)

-- so is one on which a net is opened
pub open_accepted : (way : ℕ) (m : Map) → openable way m ≡ accepted → is_accepted (acceptance m) ≡ true
unfolding openable
open_accepted way m e =
    by_bool (is_accepted (acceptance m)) (λ ok. ok) (λ f.
    ap is_accepted (sym (ap (λ (b : Bool). cond b (unless (is_way way) (fresh_fault_numbers Way) accepted) (acceptance m)) f) ∙ e))

pub read-accepted : (s : List ℕ) (m : Map) → reading s ≡ read_as m → acceptance m ≡ accepted
read-accepted s m e = let ok = (read_facts s m e).good in map-accepted m (map_classes m ok) (map_web m ok)
