-- `rendezvous::form::is_well_formed` meets its contract. Invariant: the places below i are in form; one that is not ends it. Assumes nothing.
use mathlib.Core.Path.{◌≡◌, refl, sym, ap, ◌∙◌}
use mathlib.Core.Bool.{true}
use Prim.Native.Nat.{◌≤◌, ◌<◌}
use native.Mathlib.Omega.{arith}
use borrow.Author.Tests.{eq-eqb, ne_eqb}
use Rattle.finite.specs.Below.{all_below}
use Rattle.finite.proofs.Below.{all_below_more}
use Rattle.aggregate.specs.declared.Config.{Config}
use Rattle.aggregate.specs.Aggregate.{valid}
use Rattle.aggregate.proofs.Laws.{valid-k}
use Rattle.stations.specs.Kept.{kept_read}
use Rattle.rendezvous.specs.Net.{net_in}
use Rattle.rendezvous.specs.Internal.Receivers.{place_formed}
use Rattle.rendezvous.proofs.FormAfter.{barred_config, barred_place, all_placed, place_read, placed, unformed_flag}
use Rattle.rendezvous.proofs.form.is_well_formed.Goals as goal
use Rattle.rendezvous.proofs.form.is_well_formed.Goals.{Joined-carrying-eq-CARRYING, then-carrying-eq-CARRYING, else-carrying-eq-CARRYING}
use Rattle.rendezvous.proofs.form.is_well_formed.Goals.{Else-carrying-gt-CARRYING, Else-not-is_valid, In-loop-i}

-- the flag is one of the two
flag_told : (c : Else-carrying-gt-CARRYING) → (net_in c.args.net.now c.args.totals.now).carrying ≤ 1
flag_told c = omega (arith, c.if-carrying-gt-CARRYING.false, c.carrying_in-carrying.ensures)

-- past the test of what the net was opened with
same-k : (c : Else-not-is_valid) → c.config_in-t.result.k ≡ (net_in c.args.net.now c.args.totals.now).config.k
same-k c = ap (λ (t : Config). t.k) c.config_in-t.ensures

opened : (c : Else-not-is_valid) → valid (net_in c.args.net.now c.args.totals.now).config ≡ true
opened c = ap valid (sym c.config_in-t.ensures) ∙ sym c.is_valid.ensures ∙ c.if-not-is_valid.false

low : (c : In-loop-i) → c.loop-i.i < 64
low c = omega (arith, (valid-k _ (sym c.is_valid.ensures ∙ c.if-not-is_valid.false)).1, c.loop-i-test.true)

-- whether the place that a turn reads is in form, as either branch of the test tells it
placed_told : (c : Joined-carrying-eq-CARRYING) → c.loop-i.i < 64
    → c.if-carrying-eq-CARRYING.placed ≡ placed (net_in c.args.net.now c.args.totals.now) c.loop-i.i
placed_told c few =
    let i = c.loop-i.i in
    let t = c.config_in-t.result in
    let told : c.if-carrying-eq-CARRYING.placed ≡ place_formed c.carrying_in-carrying.result t i c.read-s.result (kept_read c.args.totals.now i)
    = elim c.if-carrying-eq-CARRYING.branch [
      | then-carrying-eq-CARRYING w ↦ rw (eq-eqb _ 1 w.if-carrying-eq-CARRYING.true) (w.placed-is ∙ w.is_carrying_place-placed.ensures)
      | else-carrying-eq-CARRYING w ↦ rw (ne_eqb _ 1 w.if-carrying-eq-CARRYING.false) (w.placed-is ∙ w.is_well_formed-placed.ensures)
    ] in
    told ∙ place_read c.args.net.now c.args.totals.now i few c.carrying_in-carrying.ensures c.config_in-t.ensures c.read-s.ensures

pub returns-then-carrying-gt-CARRYING : goal.returns-then-carrying-gt-CARRYING
returns-then-carrying-gt-CARRYING c =
    let net = net_in c.args.net.now c.args.totals.now in
    sym (unformed_flag net (omega (arith, c.if-carrying-gt-CARRYING.true, c.carrying_in-carrying.ensures)))

pub returns-then-not-is_valid : goal.returns-then-not-is_valid
returns-then-not-is_valid c =
    let net = net_in c.args.net.now c.args.totals.now in
    let barred = ap valid (sym c.config_in-t.ensures) ∙ sym c.is_valid.ensures ∙ c.if-not-is_valid.true in
    sym (barred_config net (flag_told (goal.at.returns-then-not-is_valid c).Else-carrying-gt-CARRYING) barred)

pub loop-i-init : goal.loop-i-init
unfolding all_below
loop-i-init c = refl

pub read-s-requires : goal.read-s-requires
read-s-requires c = low c

pub returns-then-not-placed : goal.returns-then-not-placed
returns-then-not-placed c =
    let net = net_in c.args.net.now c.args.totals.now in
    let at = goal.at.returns-then-not-placed c in
    let i = c.loop-i.i in
    let broken = sym (placed_told at.Joined-carrying-eq-CARRYING (low at.In-loop-i)) ∙ c.if-not-placed.true in
    sym (barred_place net (flag_told at.Else-carrying-gt-CARRYING) i (omega (arith, c.loop-i-test.true, same-k at.Else-not-is_valid)) broken)

pub loop-i-preserved : goal.loop-i-preserved
loop-i-preserved c =
    let at = goal.at.loop-i-preserved c in
    let l = c.loop-i in
    let formed = sym (placed_told at.Joined-carrying-eq-CARRYING (low at.In-loop-i)) ∙ c.if-not-placed.false in
    rw (all_below_more _ l.i, l.invariant, formed)

pub returns : goal.returns
returns c =
    let net = net_in c.args.net.now c.args.totals.now in
    let at = goal.at.returns c in
    let l = c.loop-i in
    let all : l.i ≡ net.config.k = omega (arith, same-k at.Else-not-is_valid) in
    sym (all_placed net (flag_told at.Else-carrying-gt-CARRYING) (opened at.Else-not-is_valid) (rw all at l.invariant))
