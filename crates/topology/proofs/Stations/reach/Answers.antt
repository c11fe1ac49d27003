-- `topology::Stations::reach` meets its contract. Invariant: the set of the stations that fewer than t links join to the root; a round that
-- leaves it as it is leaves it to the end. Assumes nothing.
use mathlib.Core.Path.{◌≡◌, sym, ap, ◌∙◌}
use Prim.Native.Nat.{ℕ, ◌+◌, ◌-◌}
use native.Mathlib.Omega.{arith}
use Rattle.topology.specs.Acceptance.{linked, near}
use Rattle.bitset.specs.Internal.Selected.{set_of}
use Rattle.topology.specs.Internal.Parts.{round_of}
use Rattle.topology.proofs.Sets.{round_near, round_zero, rounds_settle}
use Rattle.topology.proofs.Stations.reach.Goals as goal

pub loop-init : goal.loop-init
loop-init c = round_zero c.args.self.now.root c.args.self.now.k (linked c.args.self.now.k c.args.self.now.sets.now)

pub returns-then-next-reached : goal.returns-then-next-reached
returns-then-next-reached c =
    let root = c.args.self.now.root in
    let k = c.args.self.now.k in
    let sets = c.args.self.now.sets.now in
    let t = c.loop.counter in
    let whole : t + (k - t) ≡ k = omega arith in
    let still = ap (round_of root k sets) (sym c.loop.invariant)
    ∙ sym c.round-next.ensures
    ∙ c.if-next-reached.true
    ∙ c.loop.invariant in
    c.loop.invariant
    ∙ sym (rounds_settle root k sets t (k - t) still)
    ∙ ap (λ (n : ℕ). set_of k (near (linked k sets) root k n)) whole

pub loop-preserved : goal.loop-preserved
loop-preserved c =
    let root = c.args.self.now.root in
    let k = c.args.self.now.k in
    let sets = c.args.self.now.sets.now in
    c.round-next.ensures ∙ ap (round_of root k sets) c.loop.invariant ∙ round_near root k sets c.loop.counter
