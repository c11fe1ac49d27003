-- `rendezvous::listing::survey` meets its contract. Invariant: the stations below j are in form, both sets are of them, and what they may send is
-- kept; one that is not in form ends it. Assumes nothing.
use mathlib.Core.Path.{◌≡◌, refl, sym, ◌∙◌, ap, ap₂}
use mathlib.Core.Bool.{true}
use Prim.Native.Nat.{ℕ, ◌+◌, ◌≤◌, ◌<◌, ◌^◌}
use native.Mathlib.Omega.{arith}
use lib.Dec.{eqb}
use borrow.Author.Tests.{eq-eqb, ne_eqb}
use Rattle.finite.specs.Below.{all_below}
use Rattle.finite.proofs.Below.{all_below_more}
use Rattle.bitset.specs.Set.{bit_if}
use Rattle.bitset.specs.Internal.Selected.{set_of}
use Rattle.bitset.proofs.Selected.{set_next}
use Rattle.aggregate.specs.declared.Config.{Config}
use Rattle.aggregate.specs.Aggregate.{valid}
use Rattle.aggregate.proofs.Laws.{valid-k}
use Rattle.station.specs.declared.Station.{Station}
use Rattle.station.specs.Events as events
use Rattle.stations.specs.Kept.{kept_read}
use Rattle.rendezvous.specs.Net.{Net, net_in}
use Rattle.rendezvous.specs.Internal.Receivers.{in_state, place_formed, sends_of}
use Rattle.rendezvous.proofs.Kept.{kept_none, kept_next}
use Rattle.rendezvous.proofs.FormAfter.{barred_config, barred_place, all_placed, place_read, placed, unformed_flag}
use Rattle.rendezvous.proofs.listing.survey.Invariants.{below}
use Rattle.rendezvous.proofs.listing.survey.Goals as goal
use Rattle.rendezvous.proofs.listing.survey.Goals.{Joined-carrying-eq-CARRYING, then-carrying-eq-CARRYING, else-carrying-eq-CARRYING}
use Rattle.rendezvous.proofs.listing.survey.Goals.{Else-carrying-gt-CARRYING, Else-not-is_valid, In-loop-j, After-bit_if-asleep, After-bit_if-active}

-- past the test of what the net was opened with
abbrev net_of : Else-not-is_valid → Net
net_of c = let a = c.args in net_in a.net.now a.totals.now

told : (c : Else-not-is_valid) → c.config_in-t.result ≡ (net_of c).config
told c = c.config_in-t.ensures

same-k : (c : Else-not-is_valid) → c.config_in-t.result.k ≡ (net_of c).config.k
same-k c = ap (λ (t : Config). t.k) (told c)

opened : (c : Else-not-is_valid) → valid (net_of c).config ≡ true
opened c = ap valid (sym (told c)) ∙ sym c.is_valid.ensures ∙ c.if-not-is_valid.false

-- the station that a turn reads
low : (c : In-loop-j) → c.loop-j.j < 64
low c =
    omega (arith, (valid-k _ (sym c.is_valid.ensures ∙ c.if-not-is_valid.false)).1, c.loop-j-test.true)

-- the flag is one of the two
flag_told : (c : Else-carrying-gt-CARRYING) → (net_in c.args.net.now c.args.totals.now).carrying ≤ 1
flag_told c = omega (arith, c.if-carrying-gt-CARRYING.false, c.carrying_in-carrying.ensures)

-- whether the place that a turn reads is in form, as either branch of the test tells it
placed_told : (c : Joined-carrying-eq-CARRYING) → c.loop-j.j < 64
    → c.if-carrying-eq-CARRYING.placed ≡ placed (net_in c.args.net.now c.args.totals.now) c.loop-j.j
placed_told c few =
    let i = c.loop-j.j in
    let t = c.config_in-t.result in
    let told : c.if-carrying-eq-CARRYING.placed ≡ place_formed c.carrying_in-carrying.result t i c.read-s.result (kept_read c.args.totals.now i)
    = elim c.if-carrying-eq-CARRYING.branch [
      | then-carrying-eq-CARRYING w ↦ rw (eq-eqb _ 1 w.if-carrying-eq-CARRYING.true) (w.placed-is ∙ w.is_carrying_place-placed.ensures)
      | else-carrying-eq-CARRYING w ↦ rw (ne_eqb _ 1 w.if-carrying-eq-CARRYING.false) (w.placed-is ∙ w.is_well_formed-placed.ensures)
    ] in
    told ∙ place_read c.args.net.now c.args.totals.now i few c.carrying_in-carrying.ensures c.config_in-t.ensures c.read-s.ensures

-- a turn adds station j to the set of its state
asleep-next : (c : After-bit_if-asleep) → (c.loop-j.asleep + c.bit_if-asleep.result ≡ below (net_in c.args.net.now c.args.totals.now) events.asleep (c.loop-j.j + 1)) × (c.loop-j.asleep + c.bit_if-asleep.result < 2 ^ 64)
asleep-next c =
    let l = c.loop-j in
    set_next _ l.j (omega (arith, (valid-k _ (sym c.is_valid.ensures ∙ c.if-not-is_valid.false)).1, c.loop-j-test.true)) l.invariant.1 (c.bit_if-asleep.ensures ∙ ap (λ (s : Station). bit_if (eqb s.state events.asleep) l.j) c.read-s.ensures)

active-next : (c : After-bit_if-active) → (c.loop-j.active + c.bit_if-active.result ≡ below (net_in c.args.net.now c.args.totals.now) events.active (c.loop-j.j + 1)) × (c.loop-j.active + c.bit_if-active.result < 2 ^ 64)
active-next c =
    let l = c.loop-j in
    set_next _ l.j (omega (arith, (valid-k _ (sym c.is_valid.ensures ∙ c.if-not-is_valid.false)).1, c.loop-j-test.true)) l.invariant.2 (c.bit_if-active.ensures ∙ ap (λ (s : Station). bit_if (eqb s.state events.active) l.j) c.read-s.ensures)

pub returns-then-carrying-gt-CARRYING : goal.returns-then-carrying-gt-CARRYING
returns-then-carrying-gt-CARRYING c =
    let net = net_in c.args.net.now c.args.totals.now in
    unformed_flag net (omega (arith, c.if-carrying-gt-CARRYING.true, c.carrying_in-carrying.ensures))

pub returns-then-not-is_valid : goal.returns-then-not-is_valid
returns-then-not-is_valid c =
    let net = net_in c.args.net.now c.args.totals.now in
    let barred = ap valid (sym c.config_in-t.ensures) ∙ sym c.is_valid.ensures ∙ c.if-not-is_valid.true in
    barred_config net (flag_told (goal.at.returns-then-not-is_valid c).Else-carrying-gt-CARRYING) barred

pub loop-j-init : goal.loop-j-init
unfolding all_below set_of
loop-j-init c = (refl, refl, refl, kept_none _ (omega arith))

pub read-s-requires : goal.read-s-requires
read-s-requires c = low c

pub returns-then-not-placed : goal.returns-then-not-placed
returns-then-not-placed c =
    let net = net_in c.args.net.now c.args.totals.now in
    let at = goal.at.returns-then-not-placed c in
    let l = c.loop-j in
    let broken = sym (placed_told at.Joined-carrying-eq-CARRYING (low at.In-loop-j)) ∙ c.if-not-placed.true in
    let inside : l.j < net.config.k = omega (arith, c.loop-j-test.true, same-k at.Else-not-is_valid) in
    barred_place net (flag_told at.Else-carrying-gt-CARRYING) l.j inside broken

pub overflow_add-asleep : goal.overflow_add-asleep
overflow_add-asleep c = omega (arith, (asleep-next c).1)

pub overflow_add-active : goal.overflow_add-active
overflow_add-active c = omega (arith, (active-next c).1)

pub bounds-kept-j : goal.bounds-kept-j
bounds-kept-j c = low (goal.at.bounds-kept-j c).In-loop-j

pub loop-j-preserved : goal.loop-j-preserved
loop-j-preserved c =
    let net = net_in c.args.net.now c.args.totals.now in
    let at = goal.at.loop-j-preserved c in
    let l = c.loop-j in
    let sends = c.find_sends-sends.ensures ∙ ap₂ (λ (t : Config) (s : Station). sends_of t l.j s) c.config_in-t.ensures c.read-s.ensures in (
      rw (all_below_more _ l.j, l.invariant.0, sym (placed_told at.Joined-carrying-eq-CARRYING (low at.In-loop-j)) ∙ c.if-not-placed.false),
      (asleep-next at.After-bit_if-asleep).0,
      (active-next at.After-bit_if-active).0,
      kept_next net l.invariant.3 (low at.In-loop-j) sends,
    )

pub returns : goal.returns
unfolding in_state
returns c =
    let at = goal.at.returns c in
    let past = at.Else-not-is_valid in
    let all : c.loop-j.j ≡ (net_of past).config.k = omega (arith, same-k past) in
    let inv = rw all at c.loop-j.invariant in
    record {
      form = all_placed (net_of past) (flag_told at.Else-carrying-gt-CARRYING) (opened past) inv.0;
      states_are = ap₂ (λ (asleep active : ℕ). record { asleep = asleep; active = active }) inv.1 inv.2;
      sends_are = inv.3;
    }
