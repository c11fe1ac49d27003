-- `rendezvous::fresh` meets its contract: the answer's numbers are those of the map and the way, which decide the net. Assumes nothing.
use mathlib.Core.Path.{◌≡◌, refl, sym, ◌∙◌, ap}
use mathlib.Core.List.{List}
use Prim.Native.Nat.{ℕ, ◌/◌, ◌^◌}
use lib.ListN.{get_or, set}
use Rattle.std.proofs.lemmas.Result.{err_from_is_err_and}
use Rattle.topology.specs.Answer as answer
use Rattle.linemap.proofs.Answers.{fresh_fault_refuses}
use Rattle.linemap.specs.Openings.{fresh_fault_numbers, openable, opening_by}
use Rattle.rendezvous.specs.Net.{fresh_net}
use Rattle.rendezvous.proofs.fresh.Goals as goal

pub returns-in_err-open : goal.returns-in_err-open
unfolding opening_by
returns-in_err-open c =
    let fault = c.in_err-open.field-0.0 in
    let p = err_from_is_err_and c.from_residual.result c.from_residual.ensures.1 in
    let numbers : openable c.args.way c.args.m ≡ fresh_fault_numbers fault = sym c.in_err-open.ensures in
    record { opening = rw (p.1, p.2, numbers, fresh_fault_refuses fault); beside = refl }

pub returns : goal.returns
unfolding opening_by fresh_net
returns c =
    let numbers : openable c.args.way c.args.m ≡ answer.accepted = sym c.in_ok-open.ensures in
    let put = c.put_fresh.ensures in
    let flag = c.put_carrying.ensures in record { opening = rw (numbers, c.clear_kept.ensures, flag.flag, flag.config, flag.stations, put.config, put.stations, c.config-t.ensures); beside = flag.beside ∙ ap (λ (l : List ℕ). set l 0 (get_or l 0 0 / 2 ^ 8)) put.spare }
