-- `linemap::write` meets its contract: one law of `writing` and `written` for each way it ends. Assumes nothing.
use Rattle.std.proofs.Common.{◌≡◌, ◌^◌, ◌<◌, true, sym, ap, ◌∙◌, arith, ltb-false, ltb-true}
use Rattle.std.proofs.lemmas.Result.{err_from_is_err_and}
use Rattle.topology.specs.Answer.{is_accepted}
use Rattle.linemap.specs.Maps.{acceptance}
use Rattle.linemap.proofs.Accepted.{map_classes, map_web}
use Rattle.aggregate.proofs.Laws.{class_count}
use Rattle.linemap.proofs.Rules.{unfit, long_lot, too_short, fills}
use Rattle.linemap.proofs.write.Goals as goal
use Rattle.linemap.proofs.write.Goals.{In_ok-accept, Else-not-is_storable}

is_accepted_lem : (c : In_ok-accept) → is_accepted (acceptance c.args.m) ≡ true
is_accepted_lem c = ap is_accepted (sym c.in_ok-accept.ensures)

storable : (c : Else-not-is_storable) → c.args.m.lot < 2 ^ 48
storable c = ltb-true _ _ (sym c.is_storable.ensures ∙ c.if-not-is_storable.false)

pub returns-in_err-accept : goal.returns-in_err-accept
returns-in_err-accept c =
    let p = err_from_is_err_and c.from_residual.result c.from_residual.ensures.1 in
    let both = unfit c.args.m c.args.buf.now c.in_err-accept.field-0.0 c.in_err-accept.ensures in
    record { answer = rw (p.1, p.2) both.0; bytes = both.1 }

pub returns-then-not-is_storable : goal.returns-then-not-is_storable
returns-then-not-is_storable c =
    let long = ltb-false _ _ (sym c.is_storable.ensures ∙ c.if-not-is_storable.true) in
    let both = long_lot _ _ (is_accepted_lem (goal.at.returns-then-not-is_storable c).In_ok-accept) long in
    record { answer = both.0; bytes = both.1 }

pub returns-then-buf-need : goal.returns-then-buf-need
returns-then-buf-need c =
    let at = goal.at.returns-then-buf-need c in
    let both =
    too_short _ _ (is_accepted_lem at.In_ok-accept) (storable at.Else-not-is_storable) _
    c.stored_length-need.ensures c.if-buf-need.true in
    record { answer = both.0; bytes = both.1 }

pub put_map-requires : goal.put_map-requires
put_map-requires c =
    let m = c.args.m in
    let ok = is_accepted_lem (goal.at.put_map-requires c).In_ok-accept in
    ((class_count m.classes (map_classes m ok)).1, (map_web m ok).few_stations, omega (arith, c.stored_length-need.ensures))

pub returns : goal.returns
returns c =
    let at = goal.at.returns c in
    let both =
    fills _ _ (is_accepted_lem at.In_ok-accept) (storable at.Else-not-is_storable) _ _
    c.stored_length-need.ensures
    c.if-buf-need.false
    c.put_map.ensures in
    record { answer = both.0; bytes = both.1 }
