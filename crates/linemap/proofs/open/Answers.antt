-- `linemap::open` meets its contract: a map that is not accepted is refused by its numbers, and the way is tested after it. Assumes nothing.
use Rattle.std.proofs.Common.{◌≡◌, sym, ◌∙◌}
use Rattle.std.proofs.lemmas.Result.{err_from_is_err_and}
use Rattle.topology.specs.Acceptance.{fault_numbers}
use Rattle.topology.specs.Answer as answer
use Rattle.topology.proofs.Answers.{fault_refuses}
use Rattle.linemap.specs.Maps.{acceptance}
use Rattle.linemap.specs.Openings.{openable}
use Rattle.linemap.proofs.open.Goals as goal

pub returns-in_err-accept : goal.returns-in_err-accept
unfolding openable
returns-in_err-accept c =
    let fault = c.in_err-accept.field-0.0 in
    let p = err_from_is_err_and c.from_residual.result c.from_residual.ensures.1 in
    let numbers : acceptance c.args.m ≡ fault_numbers fault = sym c.in_err-accept.ensures in
    rw (p.1, p.2, numbers, fault_refuses fault)

pub returns-then-not-is_way : goal.returns-then-not-is_way
unfolding openable
returns-then-not-is_way c =
    let numbers : acceptance c.args.m ≡ answer.accepted = sym c.in_ok-accept.ensures in
    rw (numbers, sym c.is_way.ensures ∙ c.if-not-is_way.true)

pub returns : goal.returns
unfolding openable
returns c =
    let numbers : acceptance c.args.m ≡ answer.accepted = sym c.in_ok-accept.ensures in
    rw (numbers, sym c.is_way.ensures ∙ c.if-not-is_way.false)
