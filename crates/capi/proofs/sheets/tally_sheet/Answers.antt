-- `capi::sheets::tally_sheet` meets its contract: the numbers of `sheet::put_sheet`, packed, and the bytes that it leaves. Assumes nothing.
use mathlib.Core.Path.{◌∙◌, ap, ap₂}
use Rattle.rendezvous.specs.Net.{net_in}
use Rattle.sheet.specs.Sheet.{SheetOutcome}
use Rattle.capi.specs.Answers.{packed, called}
use Rattle.capi.proofs.Maps.{sheet_small}
use Rattle.capi.proofs.sheets.tally_sheet.Goals as goal

pub laid-requires : goal.laid-requires
laid-requires c =
    let a = c.args in
    let told = ap (λ (o : SheetOutcome). o.numbers) c.put_sheet.ensures in
    rw told (sheet_small a.map (net_in a.net.now a.kept.now) a.bytes.now)

pub returns : goal.returns
returns c =
    let told = c.put_sheet.ensures in
    ap₂ called (c.laid.ensures ∙ ap (λ (o : SheetOutcome). packed o.numbers) told) (ap (λ (o : SheetOutcome). o.buffer) told)
