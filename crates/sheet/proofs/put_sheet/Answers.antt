-- `sheet::put_sheet` meets its contract: one law of `sheet_on` for each way it ends. Assumes nothing.
use mathlib.Core.Path.{◌≡◌, sym, ap, ap₂, ◌∙◌}
use mathlib.Core.Bool.{true}
use Rattle.std.specs.Prelude.{Ok}
use Rattle.std.proofs.Common.{rules}
use Rattle.std.proofs.lemmas.Result.{err_from_is_err_and}
use Rattle.aggregate.specs.Ways.{summing}
use Rattle.aggregate.specs.Aggregate.{root_of}
use Rattle.topology.specs.Answer.{is_accepted}
use Rattle.linemap.specs.Maps.{config_of, acceptance}
use Rattle.linemap.specs.Writing.{is_storable}
use Rattle.stations.proofs.Words.{station_read_lem}
use Rattle.stations.specs.Words.{config_in, station_read}
use Rattle.rendezvous.specs.Net.{net_in, well_formed}
use Rattle.rendezvous.proofs.Laws.{root_most}
use Rattle.sheet.specs.Sheet.{sheet_outcome_of, desk_of, agrees, is_reported}
use Rattle.sheet.proofs.Rules.{narrow_sheet, unfit, long_lot, out_of_form, differs, unreported, too_short, lays_sheet}
use Rattle.sheet.proofs.put_sheet.Goals as goal
use Rattle.sheet.proofs.put_sheet.Goals.{In_ok-accept, Else-not-is_storable, Else-not-is_well_formed, Else-not-agrees}
use Rattle.sheet.proofs.put_sheet.Goals.{After-load-desk, Else-not-is_reported}

-- what each test that was passed says
accepted-map : (c : In_ok-accept) → is_accepted (acceptance c.args.m) ≡ true
accepted-map c = ap is_accepted (sym c.in_ok-accept.ensures)

storable_lot : (c : Else-not-is_storable) → is_storable c.args.m.lot ≡ true
storable_lot c = sym c.is_storable.ensures ∙ c.if-not-is_storable.false

formed_net : (c : Else-not-is_well_formed) → well_formed (net_in c.args.net.now c.args.totals.now) ≡ true
formed_net c = sym c.is_well_formed.ensures ∙ c.if-not-is_well_formed.false

alike : (c : Else-not-agrees) → agrees (config_of summing c.args.m) (config_in c.args.net.now) ≡ true
alike c = sym (c.agrees.ensures ∙ ap₂ agrees c.config.ensures c.config_in-t.ensures) ∙ c.if-not-agrees.false

-- the desk that was read is the net's
desk-is : (c : After-load-desk) → c.load-desk.result ≡ desk_of (net_in c.args.net.now c.args.totals.now)
desk-is c =
    let words = c.args.net.now in
    let totals = c.args.totals.now in
    let root = c.root.ensures ∙ ap root_of c.config_in-t.ensures in
    let formed : well_formed (net_in words totals) ≡ true = sym c.is_well_formed.ensures ∙ c.if-not-is_well_formed.false in
    c.load-desk.ensures
    ∙ ap (station_read words) root
    ∙ station_read_lem words (root_of (config_in words)) (root_most (net_in words totals) formed)

reported : (c : Else-not-is_reported) → c.load-desk.result ≡ desk_of (net_in c.args.net.now c.args.totals.now)
    → is_reported c.args.m.classes (desk_of (net_in c.args.net.now c.args.totals.now)) ≡ true
reported c desk = sym (c.is_reported.ensures ∙ ap (is_reported c.args.m.classes) desk) ∙ c.if-not-is_reported.false

pub returns-in_err-accept : goal.returns-in_err-accept
returns-in_err-accept c =
    let a = c.args in
    let p = err_from_is_err_and c.from_residual.result c.from_residual.ensures.1 in
    rw (p.1, p.2) (unfit a.m (net_in a.net.now a.totals.now) a.out.now c.in_err-accept.field-0.0 c.in_err-accept.ensures)

pub returns-then-not-is_storable : goal.returns-then-not-is_storable
returns-then-not-is_storable c =
    let a = c.args in
    let at = goal.at.returns-then-not-is_storable c in
    long_lot a.m (net_in a.net.now a.totals.now) a.out.now (accepted-map at.In_ok-accept)
    (sym c.is_storable.ensures ∙ c.if-not-is_storable.true)

pub returns-then-not-is_well_formed : goal.returns-then-not-is_well_formed
returns-then-not-is_well_formed c =
    let a = c.args in
    let at = goal.at.returns-then-not-is_well_formed c in
    out_of_form a.m (net_in a.net.now a.totals.now) a.out.now (accepted-map at.In_ok-accept) (storable_lot at.Else-not-is_storable)
    (sym c.is_well_formed.ensures ∙ c.if-not-is_well_formed.true)

pub returns-then-not-agrees : goal.returns-then-not-agrees
returns-then-not-agrees c =
    let a = c.args in
    let at = goal.at.returns-then-not-agrees c in
    differs a.m (net_in a.net.now a.totals.now) a.out.now (accepted-map at.In_ok-accept) (storable_lot at.Else-not-is_storable)
    (formed_net at.Else-not-is_well_formed)
    (sym (c.agrees.ensures ∙ ap₂ agrees c.config.ensures c.config_in-t.ensures) ∙ c.if-not-agrees.true)

pub returns-then-not-is_reported : goal.returns-then-not-is_reported
returns-then-not-is_reported c =
    let a = c.args in
    let at = goal.at.returns-then-not-is_reported c in
    unreported a.m (net_in a.net.now a.totals.now) a.out.now (accepted-map at.In_ok-accept) (storable_lot at.Else-not-is_storable)
    (formed_net at.Else-not-is_well_formed) (alike at.Else-not-agrees)
    (sym (c.is_reported.ensures ∙ ap (is_reported a.m.classes) (desk-is at.After-load-desk)) ∙ c.if-not-is_reported.true)

pub returns-then-out-need : goal.returns-then-out-need
returns-then-out-need c =
    let a = c.args in
    let at = goal.at.returns-then-out-need c in
    too_short a.m (net_in a.net.now a.totals.now) a.out.now (accepted-map at.In_ok-accept) (storable_lot at.Else-not-is_storable)
    (formed_net at.Else-not-is_well_formed) (alike at.Else-not-agrees) (reported at.Else-not-is_reported (desk-is at.After-load-desk))
    _ c.length-need.ensures c.if-out-need.true

pub invariant_of-sheet : goal.invariant_of-sheet
invariant_of-sheet c =
    let a = c.args in
    let at = goal.at.invariant_of-sheet c in
    let desk = desk-is at.After-load-desk in
    record {
      narrow = rw desk
          (narrow_sheet a.m (net_in a.net.now a.totals.now) (accepted-map at.In_ok-accept) (storable_lot at.Else-not-is_storable)
          (formed_net at.Else-not-is_well_formed) (alike at.Else-not-agrees) (reported at.Else-not-is_reported desk));
    }

pub returns : goal.returns
returns c =
    let a = c.args in
    let at = goal.at.returns c in
    let desk = desk-is at.After-load-desk in
    let put = c.put_lines.ensures in
    ap (sheet_outcome_of (Ok c.length-need.result)) (search rules)
    ∙ lays_sheet a.m (net_in a.net.now a.totals.now) a.out.now (accepted-map at.In_ok-accept) (storable_lot at.Else-not-is_storable)
    (formed_net at.Else-not-is_well_formed) (alike at.Else-not-agrees) (reported at.Else-not-is_reported desk) _ put.fits
    c.length-need.ensures c.if-out-need.false (rw desk at put.lays).lays
