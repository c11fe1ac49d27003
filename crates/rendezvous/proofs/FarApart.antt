-- Lists of calls in which steps far apart change places, and listings of two ends, mixed: from the law of two steps (Exchange), by recursion on
-- the list. Assumes nothing.
use mathlib.Core.Path.{◌≡◌, refl, sym, ◌∙◌, ap, ap₂, subst}
use mathlib.Core.Bool.{Bool, true}
use mathlib.Core.List.{List, [], ◌∷◌, ◌++◌, map, Memᴰ}
use Prim.Native.Nat.{ℕ, ◌+◌}
use lib.ListN.{length, length-append}
use Rattle.finite.proofs.Cases.{by_bool}
use Rattle.wave.specs.Internal.Claim.{Runs, reached}
use Rattle.schedule.specs.declared.Step.{Step}
use Rattle.schedule.specs.Rules.{allowed}
use Rattle.schedule.specs.Listing.{select, how_many, listed}
use Rattle.schedule.specs.Outcome.{StepOutcome}
use Rattle.schedule.specs.Draws.{step_on, draw_on, run_on}
use Rattle.schedule.specs.Calls.{Call, single, call_made, call_net, calls_made, calls_net}
use Rattle.schedule.proofs.Listing.{listed_complete, listed-allowed}
use Rattle.schedule.proofs.Made.{Listed, calls_make, singles_make}
use Rattle.schedule.proofs.Outcomes.{step-allowed}
use Rattle.schedule.proofs.Parts.{select-append}
use Rattle.rendezvous.specs.Net.{Net, well_formed}
use Rattle.rendezvous.specs.Rules.{apply, rules}
use Rattle.rendezvous.specs.FarApart.{Apart, BothAllowed, FarApart, Reordered, as_it_is, exchanged, later, and_then, Alike, Goes, Mixed, none, first, second, Ends, StepsFarApart}
use Rattle.rendezvous.proofs.Exchange.{allowed_kept, turned_apart, same_net, both_formed, exchange}
use Rattle.rendezvous.proofs.FarApartExamples.{common_station}

-- ---- lists of calls
-- how many pass a test, of two lists joined, and of two entries in either order
how_many-append : (test : Step → Bool) (l m : List Step) → how_many test (l ++ m) ≡ how_many test l + how_many test m
how_many-append test l m = ap length (select-append test l m) ∙ length-append (select test l) (select test m)

how_many_turned : (test : Step → Bool) (s t : Step) (l : List Step) → how_many test (s ∷ t ∷ l) ≡ how_many test (t ∷ s ∷ l)
unfolding select
how_many_turned test s t l =
    by_bool (test s)
    (λ a. by_bool (test t) (λ b. rw (a, b)) (λ b. rw (a, b)))
    (λ a. by_bool (test t) (λ b. rw (a, b)) (λ b. rw (a, b)))

-- the same net, and as many steps made
abbrev Same : Net → List Call → List Call → Type 0
Same net l m =
    (calls_net rules net l ≡ calls_net rules net m)
    × ((test : Step → Bool) → how_many test (calls_made rules net l) ≡ how_many test (calls_made rules net m))

same_exchanged : (net : Net) (s t : Step) (l : List Call) → FarApart net s t → Same net (single s ∷ single t ∷ l) (single t ∷ single s ∷ l)
unfolding calls_net calls_made call_net call_made
same_exchanged net s t l h =
    let e = exchange net s t h in
    let first : (u : Step) → allowed rules net u ≡ true → (step_on rules net u).made ≡ u ∷ [] =
    λ u a. ap (λ (o : StepOutcome Net). o.made) (step-allowed rules net u h.form_kept.formed a) in
    let ending : StepOutcome Net → Net = λ o. calls_net rules o.net l in
    let making : List Step → StepOutcome Net → List Step = λ before o. before ++ (o.made ++ calls_made rules o.net l) in (
      ap ending e.s_then_t ∙ sym (ap ending e.t_then_s),
      λ test.
          ap (how_many test) (ap₂ making (first s h.both_allowed.0) e.s_then_t)
          ∙ how_many_turned test s t (calls_made rules e.both l)
          ∙ sym (ap (how_many test) (ap₂ making (first t h.both_allowed.1) e.t_then_s)),
    )

same : {net : Net} {l m : List Call} → Reordered FarApart net l m → Same net l m
unfolding calls_net calls_made
same as_it_is = (refl, λ test. refl)
same (exchanged {net = net} {s = s} {t = t} {l = l} h) = same_exchanged net s t l h
same (later {net = net} {c = c} {l = l} {m = m} r) =
    let rest = same r in (
      rest.0,
      λ test.
          how_many-append test (call_made rules net c) (calls_made rules (call_net rules net c) l)
          ∙ ap (λ (n : ℕ). how_many test (call_made rules net c) + n) (rest.1 test)
          ∙ sym (how_many-append test (call_made rules net c) (calls_made rules (call_net rules net c) m)),
    )
same (and_then p q) =
    let a = same p in
    let b = same q in
    (a.0 ∙ b.0, λ test. a.1 test ∙ b.1 test)

alike : (net : Net) (l m : List Call) → Reordered FarApart net l m → Alike net l m
alike net l m r =
    let both = same r in
    record {
      same_net = both.0;
      same-made = both.1;
      same-listed = ap (listed rules) both.0;
      same_draw = λ d. ap (λ (n : Net). draw_on rules n d) both.0;
      same_run = λ draws. ap (λ (n : Net). run_on rules n draws) both.0;
    }

-- ---- listings of two ends
-- a listing, step by step: each step is listed where it comes, in a net in form, and so is the net left
record Steps (net : Net) (l : List Step) : Type 0 where
  runs : Runs (Listed rules) apply net l
  formed : well_formed (reached apply net l) ≡ true

steps_of : {net : Net} {l : List Step} → Goes net l → Steps net l
steps_of {net} {l} g =
    let made = calls_make rules net (map single l) in
    let ends = made.ends ∙ ap (reached apply net) g.made in
    record { runs = subst (Runs (Listed rules) apply net) g.made made.runs; formed = ap well_formed (sym ends) ∙ g.formed }

goes_of : {net : Net} {l : List Step} → Steps net l → Goes net l
goes_of {net} {l} h =
    let made = singles_make rules net l h.runs in
    record { made = made.0; formed = ap well_formed made.1 ∙ h.formed }

formed_first : {net : Net} (l : List Step) → Steps net l → well_formed net ≡ true
formed_first [] h = h.formed
formed_first (s ∷ l) h = h.runs.0.0

steps-later : {net : Net} {s : Step} {l : List Step} → Steps net (s ∷ l) → Steps (apply net s) l
steps-later h = record { runs = h.runs.1; formed = h.formed }

-- a step goes before a listing that is far from it, or after
record Past (net : Net) (t : Step) (l : List Step) : Type 0 where
  goes_on : Steps (apply net t) l
  same_end : reached apply (apply net t) l ≡ apply (reached apply net l) t

past : (net : Net) (t : Step) (l : List Step) → allowed rules net t ≡ true → well_formed (apply net t) ≡ true → Steps net l
    → ((s : Step) → Memᴰ s l → Apart s t) → Past net t l
past net t [] may-t formed_t h far = record { goes_on = record { runs = tt; formed = formed_t }; same_end = refl }
past net t (s ∷ l) may-t formed_t h far =
    let next = apply net s in
    let apart = far s (Memᴰ.head refl) in
    let turned = turned_apart s t apart in
    let may-s = listed-allowed rules net s h.runs.0.1 in
    let rest = steps-later h in
    let same = same_net net s t apart turned in
    let on = past next t l (allowed_kept net s t apart may-s may-t) (both_formed net s t apart turned (formed_first l rest) formed_t) rest
    (λ u m. far u (Memᴰ.tail m)) in
    let moved = subst (λ (n : Net). Steps n l) same on.goes_on in
    record {
      goes_on = record {
        runs = ((formed_t, listed_complete rules (apply net t) s (allowed_kept net t s turned may-t may-s)), moved.runs);
        formed = moved.formed;
      };
      same_end = ap (λ (n : Net). reached apply n l) (sym same) ∙ on.same_end;
    }

-- mixed in any way, both go, and end where the second ends after the first
mixed : (net : Net) {a b w : List Step} → Mixed a b w → Steps net a → Steps net b → ((s t : Step) → Memᴰ s a → Memᴰ t b → Apart s t)
    → Steps net w × (reached apply net w ≡ reached apply (reached apply net a) b)
mixed net none ha hb far = (ha, refl)
mixed net (first {s = s} {a = a} {b = b} m) ha hb far =
    let p = past net s b (listed-allowed rules net s ha.runs.0.1) (formed_first a (steps-later ha)) hb
    (λ t n. turned_apart s t (far s t (Memᴰ.head refl) n)) in
    let on = mixed (apply net s) m (steps-later ha) p.goes_on (λ u t n. far u t (Memᴰ.tail n)) in
    (record { runs = (ha.runs.0, on.0.runs); formed = on.0.formed }, on.1)
mixed net (second {t = t} {a = a} {b = b} m) ha hb far =
    let p = past net t a (listed-allowed rules net t hb.runs.0.1) (formed_first b (steps-later hb)) ha (λ s n. far s t n (Memᴰ.head refl)) in
    let on = mixed (apply net t) m p.goes_on (steps-later hb) (λ s u n o. far s u n (Memᴰ.tail o)) in
    (record { runs = (hb.runs.0, on.0.runs); formed = on.0.formed }, on.1 ∙ ap (λ (n : Net). reached apply n b) p.same_end)

ends : (net : Net) (a b : List Step) → Goes net a → Goes net b → ((s t : Step) → Memᴰ s a → Memᴰ t b → Apart s t) → Ends net a b
ends net a b ga gb far =
    let mix : (w : List Step) → Mixed a b w → Steps net w × (reached apply net w ≡ reached apply (reached apply net a) b) =
    λ w m. mixed net m (steps_of ga) (steps_of gb) far in
    record {
      together = reached apply (reached apply net a) b;
      goes = λ w m. goes_of (mix w m).0;
      leaves = λ w m. (singles_make rules net w (mix w m).0.runs).1 ∙ (mix w m).1;
    }

pub steps_far_apart : StepsFarApart
steps_far_apart = record { exchange = exchange; listings = alike; ends = ends; common_station = common_station }

-- ---- from a net that no call leads out of form
pub always_far : (net : Net) → ((calls : List Call) → well_formed (calls_net rules net calls) ≡ true) → (s t : Step)
    → BothAllowed net s t × Apart s t → FarApart net s t
unfolding calls_net call_net
always_far net formed s t h =
    record {
      both_allowed = h.0;
      apart = h.1;
      form_kept = record { formed = formed []; formed_s = formed (single s ∷ []); formed_t = formed (single t ∷ []) };
    }

pub always_reordered : {net : Net} {l m : List Call} → ((calls : List Call) → well_formed (calls_net rules net calls) ≡ true)
    → Reordered (λ n s t. BothAllowed n s t × Apart s t) net l m → Reordered FarApart net l m
unfolding calls_net
always_reordered formed as_it_is = as_it_is
always_reordered {net = net} formed (exchanged {s = s} {t = t} h) = exchanged (always_far net formed s t h)
always_reordered formed (later {c = c} r) = later (always_reordered (λ calls. formed (c ∷ calls)) r)
always_reordered formed (and_then p q) = and_then (always_reordered formed p) (always_reordered formed q)
