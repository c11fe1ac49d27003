-- `opening::open` meets its contract: each return is the rule that refuses, and the last the one where none does. Assumes nothing.
use native.Mathlib.Omega.{arith}
use Rattle.std.proofs.lemmas.Result.{err_from_is_err_and}
use Rattle.opening.proofs.Rules.{too_long, unread, map_fits, odd, opened}
use Rattle.opening.proofs.open.Goals as goal

pub returns-then-input-gt-MOST_BYTES : goal.returns-then-input-gt-MOST_BYTES
returns-then-input-gt-MOST_BYTES c = too_long c.args.input.now c.if-input-gt-MOST_BYTES.true

pub returns-in_err-map : goal.returns-in_err-map
returns-in_err-map c =
    let p = err_from_is_err_and c.from_residual.result c.from_residual.ensures.1 in
    rw (p.1, p.2) (unread c.args.input.now c.if-input-gt-MOST_BYTES.false c.in_err-map.field-0.0 c.in_err-map.ensures)

pub overflow_sub-before : goal.overflow_sub-before
overflow_sub-before c = omega (arith, c.stored_length.ensures, map_fits c.args.input.now c.in_ok-map.map c.in_ok-map.ensures)

pub returns-then-before-ne0 : goal.returns-then-before-ne0
returns-then-before-ne0 c =
    odd c.args.input.now c.if-input-gt-MOST_BYTES.false c.in_ok-map.map c.in_ok-map.ensures _ c.stored_length.ensures c.if-before-ne0.true

pub returns : goal.returns
returns c =
    opened c.args.input.now c.if-input-gt-MOST_BYTES.false c.in_ok-map.map c.in_ok-map.ensures _ c.stored_length.ensures
    c.if-before-ne0.false
