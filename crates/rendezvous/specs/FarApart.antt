-- Steps far apart (document 02, request 9): "Two technicians testing opposite ends of a line" may make their steps in either order. The theorem is
-- `steps_far_apart` (proofs/FarApart).
use Rattle.std.specs.Prelude.{◌≡◌, Bool, true, false, ◌⊎◌, ℕ, replicate}
use mathlib.Core.List.{List, [], ◌∷◌, map, flat_map, Memᴰ}
use Rattle.aggregate.specs.Ways.{summing}
use Rattle.refusal.specs.declared.Refusal.TheVariants.{NotAllowed}
use Rattle.schedule.specs.declared.Step.{Step}
use Rattle.schedule.specs.Rules.{allowed}
use Rattle.schedule.specs.Listing.{how_many, step, listed}
use Rattle.schedule.specs.Outcome.{step_made, step_refused}
use Rattle.schedule.specs.Draws.{step_on, draw_on, run_on}
use Rattle.schedule.specs.Calls.{Call, single, call_net, calls_made, calls_net}
use Rattle.rendezvous.specs.Net.{Net, station, well_formed, fresh_net}
use Rattle.rendezvous.specs.Figure.{wake}
use Rattle.rendezvous.specs.Rules.{rules}

-- the stations that a step names: a report names the desk alone
abbrev pub Names : Step → ℕ → Type 0
Names s x = (x ≡ s.sender) ⊎ (x ≡ s.receiver)

-- "name no station in common"
abbrev pub Apart : Step → Step → Type 0
Apart s t = (x : ℕ) → Names s x → Names t x → ⊥

-- the net that a single step leaves
abbrev pub after : Net → Step → Net
after net s = (step_on rules net s).net

-- "two steps are allowed"
abbrev pub BothAllowed : Net → Step → Step → Type 0
BothAllowed net s t = (allowed rules net s ≡ true) × (allowed rules net t ≡ true)

-- "in a net in form", and "each alone leaves the net in form"
pub record FormKept (net : Net) (s t : Step) : Type 0 where
  pub formed : well_formed net ≡ true
  pub formed_s : well_formed (after net s) ≡ true
  pub formed_t : well_formed (after net t) ≡ true

-- "two steps are allowed in a net in form, name no station in common, and each alone leaves the net in form"
pub record FarApart (net : Net) (s t : Step) : Type 0 where
  pub both_allowed : BothAllowed net s t
  pub apart : Apart s t
  pub form_kept : FormKept net s t

-- "doing one and then the other gives the same net in either order, and neither takes away the other's leave": after either the other is made,
-- by no number refused, and the net that both give is in form too
pub record Exchange (net : Net) (s t : Step) : Type 0 where
  pub both : Net
  pub s_then_t : step_on rules (after net s) t ≡ step_made t both
  pub t_then_s : step_on rules (after net t) s ≡ step_made s both
  pub formed : well_formed both ≡ true

-- two lists of calls on a net that differ only in the order of neighbouring steps, which `May` lets change places in the net where they stand
pub data Reordered (May : Net → Step → Step → Type 0) : Net → List Call → List Call → Type 0 where
  as_it_is : {net : Net} {l : List Call} → Reordered May net l l
  exchanged : {net : Net} {s t : Step} {l : List Call} → May net s t → Reordered May net (single s ∷ single t ∷ l) (single t ∷ single s ∷ l)
  later : {net : Net} {c : Call} {l m : List Call} → Reordered May (call_net rules net c) l m → Reordered May net (c ∷ l) (c ∷ m)
  and_then : {net : Net} {l m n : List Call} → Reordered May net l m → Reordered May net m n → Reordered May net l n

-- what a comparison of two such lists shows
pub record Alike (net : Net) (l m : List Call) : Type 0 where
  -- they leave the same net,
  pub same_net : calls_net rules net l ≡ calls_net rules net m
  -- and have made the same steps, up to their order: as many pass any test
  pub same-made : (test : Step → Bool) → how_many test (calls_made rules net l) ≡ how_many test (calls_made rules net m)
  -- so after either the same steps are listed, and draws and runs answer alike
  pub same-listed : listed rules (calls_net rules net l) ≡ listed rules (calls_net rules net m)
  pub same_draw : (d : ℕ) → draw_on rules (calls_net rules net l) d ≡ draw_on rules (calls_net rules net m) d
  pub same_run : (draws : List ℕ) → run_on rules (calls_net rules net l) draws ≡ run_on rules (calls_net rules net m) draws

-- a listing that is made whole and leaves the net in form
pub record Goes (net : Net) (steps : List Step) : Type 0 where
  pub made : calls_made rules net (map single steps) ≡ steps
  pub formed : well_formed (calls_net rules net (map single steps)) ≡ true

-- two listings mixed into one, each in its order
pub data Mixed : List Step → List Step → List Step → Type 0 where
  none : Mixed [] [] []
  first : {s : Step} {a b w : List Step} → Mixed a b w → Mixed (s ∷ a) b (s ∷ w)
  second : {t : Step} {a b w : List Step} → Mixed a b w → Mixed a (t ∷ b) (t ∷ w)

-- the same for whole listings, of "opposite ends of a line": where each alone goes, and no step of one names a station of the other's, they go mixed
-- in every way, and leave the same net
pub record Ends (net : Net) (a b : List Step) : Type 0 where
  pub together : Net
  pub goes : (w : List Step) → Mixed a b w → Goes net w
  pub leaves : (w : List Step) → Mixed a b w → calls_net rules net (map single w) ≡ together

-- document 01's triangle ("counts 5, 7, 11; sets 6, 5, 3"), once its desk has woken station 1
abbrev pub woken : Net
woken =
    let counts = flat_map (λ (n : ℕ). n ∷ replicate 7 0) (5 ∷ 7 ∷ 11 ∷ []) in
    after (fresh_net false (record { k = 3; classes = 1; desk = 0; way = summing }) counts (6 ∷ 5 ∷ 3 ∷ [])) (step wake 0 1)

-- steps with a common station need not change places: there the desk and station 1 may both wake station 2, and each alone leaves the net in form,
-- but the second is refused (13), and station 2 hangs on the first
pub record CommonStation (s t : Step) : Type 0 where
  pub both_allowed : BothAllowed woken s t
  pub form_kept : FormKept woken s t
  pub s-first : step_on rules (after woken s) t ≡ step_refused NotAllowed (after woken s)
  pub t-first : step_on rules (after woken t) s ≡ step_refused NotAllowed (after woken t)
  pub parents_differ : ((station (after woken s) 2).parent ≡ 0) × ((station (after woken t) 2).parent ≡ 1)

-- "The law covers all kinds of steps of stations that meet": in every net, whether calls led to it or not, opened for carrying back or not
pub record StepsFarApart : Type 0 where
  pub exchange : (net : Net) (s t : Step) → FarApart net s t → Exchange net s t
  -- "want to compare their listings"
  pub listings : (net : Net) (l m : List Call) → Reordered FarApart net l m → Alike net l m
  pub ends : (net : Net) (a b : List Step) → Goes net a → Goes net b → ((s t : Step) → Memᴰ s a → Memᴰ t b → Apart s t) → Ends net a b
  pub common_station : CommonStation (step wake 0 2) (step wake 1 2)
