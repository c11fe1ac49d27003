-- `linemap::reading::judge` meets its contract: it passes the refusal on, or hands the map over. Assumes nothing.
use Rattle.std.proofs.Common.{◌≡◌, sym, ap, ◌∙◌}
use Rattle.std.proofs.lemmas.Result.{err_from_is_err_and}
use Rattle.topology.specs.Answer.{is_accepted}
use Rattle.topology.specs.Acceptance.{fault_numbers}
use Rattle.topology.proofs.Answers.{fault_refuses}
use Rattle.linemap.specs.Maps.{acceptance}
use Rattle.linemap.proofs.reading.judge.Goals as goal

pub returns-in_err-accept : goal.returns-in_err-accept
returns-in_err-accept c =
    let fault = c.in_err-accept.field-0.0 in
    let p = err_from_is_err_and c.from_residual.result c.from_residual.ensures.1 in
    let told : fault_numbers fault ≡ acceptance c.args.m = c.in_err-accept.ensures in
    rw (p.1, p.2, ap is_accepted (sym told) ∙ fault_refuses fault, ← told)

pub returns : goal.returns
returns c = rw (ap is_accepted (sym c.in_ok-accept.ensures))
