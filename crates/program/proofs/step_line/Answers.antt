-- `program::step_line` meets its contract: the kinds, one by one; the sender is one of the net's places. Assumes nothing.
use mathlib.Core.Path.{◌≡◌, ap, ◌∙◌}
use Prim.Native.Nat.{ℕ}
use mathlib.Core.List.{List}
use native.Mathlib.Omega.{arith}
use borrow.Author.Tests.{ne_eqb}
use Rattle.station.specs.declared.Station.{Station}
use Rattle.stations.proofs.Words.{station_read_lem}
use Rattle.rendezvous.specs.Net.{net_in, station}
use Rattle.program.specs.Output.{step_line}
use Rattle.program.proofs.step_line.Goals as goal
use Rattle.program.proofs.step_line.Goals.{After-load-sender}

held-is : (c : After-load-sender) (kept : List ℕ) → c.load-sender.result.held ≡ (station (net_in c.args.net.now kept) c.args.step.sender).held
held-is c kept = ap (λ (s : Station). s.held) (c.load-sender.ensures ∙ station_read_lem c.args.net.now c.args.step.sender c.requires)

pub returns-in-1 : goal.returns-in-1
unfolding step_line
returns-in-1 c kept = rw c.in-1.is

pub returns-in-2 : goal.returns-in-2
unfolding step_line
returns-in-2 c kept = rw c.in-2.is

pub returns-in-3 : goal.returns-in-3
unfolding step_line
returns-in-3 c kept =
    rw (c.in-3.is, c.config_in-config.ensures, held-is (goal.at.returns-in-3 c).After-load-sender kept)

pub returns-in_default : goal.returns-in_default
unfolding step_line
returns-in_default c kept =
    let k = c.args.step.kind in
    rw (ne_eqb k 1 (λ e. omega arith), ne_eqb k 2 (λ e. omega arith), ne_eqb k 3 (λ e. omega arith), c.config_in-config.ensures, held-is (goal.at.returns-in_default c).After-load-sender kept)
