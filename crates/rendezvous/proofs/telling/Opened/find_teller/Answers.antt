-- `rendezvous::telling::Opened::find_teller` meets its contract: by the station's state and its parent's. Assumes nothing.
use Rattle.std.specs.Prelude.{Some, None}
use mathlib.Core.Path.{◌≡◌, refl, sym, ap, ◌∙◌, subst}
use mathlib.Core.Bool.{Bool, true, false, not, ◌||◌}
use mathlib.Core.List.{List, []}
use Prim.Native.Nat.{ℕ}
use native.Mathlib.Omega.{arith}
use lib.Dec.{eqb, leb}
use borrow.Author.Tests.{eq-eqb, ne_eqb, leb-false}
use Rattle.finite.proofs.Cases.{clash}
use Rattle.aggregate.specs.declared.Config.{Config}
use Rattle.aggregate.specs.Aggregate.{root_of}
use Rattle.station.specs.declared.Station.{Station}
use Rattle.rendezvous.specs.Net.{Net, net_in, station}
use Rattle.rendezvous.specs.Internal.Receivers.{ToldBy}
use Rattle.rendezvous.proofs.Tells.{no_teller, is_teller, untold_teller, teller_any}
use Rattle.rendezvous.proofs.telling.Opened.find_teller.Goals as goal
use Rattle.rendezvous.proofs.telling.Opened.find_teller.Goals.{Start, After-root-root, After-read-s, Else-i-root, Else-parent-root, After-read-p}

-- the net, and what was read of it
abbrev net : Start → Net
net c = net_in c.args.self.now.net.now []

same-k : (c : Start) → c.args.self.now.t.k ≡ (net c).config.k
same-k c = ap (λ (t : Config). t.k) c.args.self.now.read.config

root-read : (c : After-root-root) → c.root-root.result ≡ root_of (net_in c.args.self.now.net.now []).config
root-read c = c.root-root.ensures ∙ ap root_of c.args.self.now.read.config

read : (c : After-read-s) → c.read-s.result ≡ station (net_in c.args.self.now.net.now []) c.args.i
read c = c.read-s.ensures

-- the tests of the first branch
none_left : (a b c : Bool) → (a || not b || c) ≡ false → (a ≡ false) × (b ≡ true) × (c ≡ false)
none_left true b c e = clash refl e
none_left false false c e = clash refl e
none_left false true c e = (refl, refl, e)

passed : (c : Else-i-root) → let n = net_in c.args.self.now.net.now [] in
    let s = station n c.args.i in
    (eqb c.args.i (root_of n.config) ≡ false) × (eqb s.state 2 ≡ true) × (leb n.config.k s.parent ≡ false)
passed c =
    let same = ap (λ (t : Config). t.k) c.args.self.now.read.config in
    none_left _ _ _ (rw (c.root-root.ensures ∙ ap root_of c.args.self.now.read.config, c.read-s.ensures, same) at c.if-i-root.false)

pub returns-then-i-root : goal.returns-then-i-root
returns-then-i-root c kept =
    let at = goal.at.returns-then-i-root c in
    let n = net at.Start in
    let taken = rw (root-read at.After-root-root, read at.After-read-s, same-k at.Start) at c.if-i-root.true in
    teller_any c.args.self.now.net.now [] kept c.args.i None (no_teller n c.requires.reported c.args.i taken)

-- who is told where the parent is known
given : (c : After-read-s) (kept : List ℕ) → let n = net_in c.args.self.now.net.now [] in
    ToldBy n c.args.i (station n c.args.i).parent → ToldBy (net_in c.args.self.now.net.now kept) c.args.i c.read-s.result.parent
given c kept T =
    let same = sym (ap (λ (x : Station). x.parent) (read c)) in
    teller_any c.args.self.now.net.now [] kept c.args.i (Some _) (subst (ToldBy (net_in c.args.self.now.net.now []) c.args.i) same T)

-- the parent, where it is not the desk
parent_read : (c : After-read-p) → let n = net_in c.args.self.now.net.now [] in
    c.read-p.result ≡ station n (station n c.args.i).parent
parent_read c = c.read-p.ensures ∙ ap (λ (s : Station). station (net_in c.args.self.now.net.now []) s.parent) c.read-s.ensures

no_desk : (c : Else-parent-root) → let n = net_in c.args.self.now.net.now [] in
    eqb (station n c.args.i).parent (root_of n.config) ≡ false
no_desk c =
    let root = c.root-root.ensures ∙ ap root_of c.args.self.now.read.config in
    ne_eqb _ _ (λ e. c.if-parent-root.false (ap (λ (s : Station). s.parent) c.read-s.ensures ∙ e ∙ sym root))

pub returns-then-parent-root : goal.returns-then-parent-root
returns-then-parent-root c kept =
    let at = goal.at.returns-then-parent-root c in
    let n = net at.Start in
    let p = passed at.Else-i-root in
    let at-root : (station n c.args.i).parent ≡ root_of n.config =
    sym (ap (λ (s : Station). s.parent) (read at.After-read-s)) ∙ c.if-parent-root.true ∙ root-read at.After-root-root in
    given at.After-read-s kept (is_teller n c.requires.reported c.args.i p.0 p.1 (leb-false _ _ p.2) (rw (eq-eqb _ _ at-root) c.requires.reported))

pub read-p-requires : goal.read-p-requires
read-p-requires c =
    let at = goal.at.read-p-requires c in
    let below = leb-false (net at.Start).config.k (station (net at.Start) c.args.i).parent (passed at.Else-i-root).2 in
    omega (arith, ap (λ (s : Station). s.parent) (read at.After-read-s), below, same-k at.Start, c.args.self.now.read.few)

pub returns-then-p-eq-TOLD : goal.returns-then-p-eq-TOLD
returns-then-p-eq-TOLD c kept =
    let at = goal.at.returns-then-p-eq-TOLD c in
    let n = net at.Start in
    let p = passed at.Else-i-root in
    let told = ap (λ (s : Station). eqb s.state 3) (sym (parent_read at.After-read-p)) ∙ eq-eqb _ 3 c.if-p-eq-TOLD.true in
    given at.After-read-s kept (is_teller n c.requires.reported c.args.i p.0 p.1 (leb-false _ _ p.2) (rw (no_desk at.Else-parent-root) told))

pub returns-else-p-eq-TOLD : goal.returns-else-p-eq-TOLD
returns-else-p-eq-TOLD c kept =
    let at = goal.at.returns-else-p-eq-TOLD c in
    let n = net at.Start in
    let p = passed at.Else-i-root in
    let untold = ap (λ (s : Station). eqb s.state 3) (sym (parent_read at.After-read-p)) ∙ ne_eqb _ 3 c.if-p-eq-TOLD.false in
    teller_any c.args.self.now.net.now [] kept c.args.i None
    (untold_teller n c.requires.reported c.args.i p.0 p.1 (rw (no_desk at.Else-parent-root) untold))
