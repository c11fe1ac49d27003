-- `rendezvous::telling::Opened::fill_tells` meets its contract. Invariant: the tells to receivers below i stand in the rows. Assumes nothing.
use mathlib.Core.Path.{◌≡◌, sym, ap, ◌∙◌, subst}
use mathlib.Core.Bool.{false}
use mathlib.Core.List.{List, []}
use Prim.Native.Nat.{ℕ, ◌≤◌, ◌<◌}
use native.Mathlib.Omega.{arith}
use lib.Dec.{eqb}
use borrow.Author.Tests.{ne_eqb}
use Rattle.aggregate.specs.declared.Config.{Config}
use Rattle.aggregate.specs.Aggregate.{root_of}
use Rattle.station.specs.declared.Station.{Station}
use Rattle.rendezvous.specs.Net.{Net, net_in, station}
use Rattle.rendezvous.specs.Telling.{is_reported}
use Rattle.rendezvous.specs.Internal.Receivers.{ToldBy, AreTells}
use Rattle.rendezvous.proofs.Tells.{tells_none, tells_early, tells_skip, tells_fit, tells-next, tells_any}
use Rattle.rendezvous.proofs.telling.Opened.fill_tells.Goals as goal
use Rattle.rendezvous.proofs.telling.Opened.fill_tells.Goals.{Start, In-loop-i, In-Some, in-Some, in_default}

abbrev net : Start → Net
net c = net_in c.args.self.now.net.now []

few : (c : Start) → (net c).config.k ≤ 64
few c = subst (λ (t : Config). t.k ≤ 64) c.args.self.now.read.config c.args.self.now.read.few

same-k : (c : Start) → c.args.self.now.t.k ≡ (net c).config.k
same-k c = ap (λ (t : Config). t.k) c.args.self.now.read.config

low : (c : In-loop-i) → c.loop-i.i < 64
low c = omega (arith, c.loop-i-test.true, c.args.self.now.read.few)

-- who tells the station of a turn
teller : (c : In-Some) → ToldBy (net_in c.args.self.now.net.now []) c.loop-i.i c.in-Some.p
teller c = c.in-Some.ensures []

pub loop-i-init : goal.loop-i-init
loop-i-init c =
    let start = (goal.at.loop-i-init c).Start in
    subst (AreTells (net start) 0) (sym c.requires) (tells_none (net start) (few start))

pub bounds-tells-at : goal.bounds-tells-at
bounds-tells-at c = let at = goal.at.bounds-tells-at c in omega (arith, (teller at.In-Some).low, few at.Start)

pub bounds-tells-at-in-Some : goal.bounds-tells-at-in-Some
bounds-tells-at-in-Some c = let at = goal.at.bounds-tells-at-in-Some c in omega (arith, (teller at.In-Some).low, few at.Start)

pub overflow_add-tells : goal.overflow_add-tells
overflow_add-tells c =
    let at = goal.at.overflow_add-tells c in
    let start = at.Start in
    omega (arith, tells_fit (net start) (few start) c.loop-i.invariant (low at.In-loop-i) (teller at.In-Some) c.bit_if.ensures)

pub loop-i-preserved : goal.loop-i-preserved
loop-i-preserved c =
    let at = goal.at.loop-i-preserved c in
    let start = at.Start in
    let l = c.loop-i in
    elim c.match-find_teller.branch [
      | in-Some w ↦ rw w.tells-is (tells-next (net start) (few start) l.invariant (low at.In-loop-i) (w.in-Some.ensures []) w.bit_if.ensures)
      | in_default w ↦ rw w.tells-is (tells_skip (net start) (few start) l.invariant (low at.In-loop-i) (w.in_default.ensures []))
    ]

pub returns-after-loop-i : goal.returns-after-loop-i
returns-after-loop-i c kept =
    let l = c.loop-i in
    let all : l.i ≡ c.args.self.now.t.k = omega arith in
    tells_any c.args.self.now.net.now [] kept c.args.self.now.t.k l.tells (rw all at l.invariant)

pub returns-else-desk-eq-FINISHED : goal.returns-else-desk-eq-FINISHED
returns-else-desk-eq-FINISHED c kept =
    let start = (goal.at.returns-else-desk-eq-FINISHED c).Start in
    let words = c.args.self.now.net.now in
    -- the desk
    let desk : c.read-desk.result ≡ station (net start) (root_of (net start).config) =
    c.read-desk.ensures
    ∙ ap (station (net start)) c.root.ensures
    ∙ ap (λ (t : Config). station (net start) (root_of t)) c.args.self.now.read.config in
    let early : is_reported (net start) ≡ false = ap (λ (s : Station). eqb s.state 2) (sym desk) ∙ ne_eqb _ 2 c.if-desk-eq-FINISHED.false in
    tells_any words [] kept c.args.self.now.t.k _
    (subst (λ (l : List ℕ). AreTells (net start) c.args.self.now.t.k l) (sym c.requires)
    (subst (λ (n : ℕ). AreTells (net start) n _) (sym (same-k start)) (tells_early (net start) (few start) early)))
