-- `mailbox::fresh` meets its contract: the answer's numbers are those of the map and the way, which decide the net. Assumes nothing.
use mathlib.Core.Path.{◌≡◌, refl, sym, ◌∙◌, ap}
use Rattle.std.proofs.lemmas.Result.{err_from_is_err_and}
use Rattle.topology.specs.Answer as answer
use Rattle.linemap.proofs.Answers.{fresh_fault_refuses}
use Rattle.linemap.specs.Openings.{fresh_fault_numbers, openable, opening_by}
use Rattle.aggregate.specs.declared.Config.{Config}
use Rattle.mailbox.specs.Net.{Net, fresh_net}
use Rattle.mailbox.proofs.Laws.{root-low}
use Rattle.mailbox.proofs.fresh.Goals as goal
use Rattle.mailbox.proofs.fresh.Goals.{In_ok-open}

-- past the opening
numbers : (c : In_ok-open) → openable c.args.way c.args.m ≡ answer.accepted
numbers c = sym c.in_ok-open.ensures

pub returns-in_err-open : goal.returns-in_err-open
unfolding opening_by
returns-in_err-open c =
    let fault = c.in_err-open.field-0.0 in
    let p = err_from_is_err_and c.from_residual.result c.from_residual.ensures.1 in
    let numbers : openable c.args.way c.args.m ≡ fresh_fault_numbers fault = sym c.in_err-open.ensures in
    record { opening = rw (p.1, p.2, numbers, fresh_fault_refuses fault); spare = refl }

pub put_fresh-requires : goal.put_fresh-requires
put_fresh-requires c =
    let args = c.args in
    rw c.config-t.ensures (root-low args.way args.m (numbers (goal.at.put_fresh-requires c).In_ok-open))

pub returns : goal.returns
unfolding opening_by
returns c =
    let m = c.args.m in
    let put = c.put_fresh.ensures in record {
      opening = rw (numbers (goal.at.returns c).In_ok-open)
          (ap (λ (n : Net). record { numbers = answer.accepted; net = n })
          (put.net ∙ ap (λ (t : Config). fresh_net t m.counts m.neighbours) c.config-t.ensures));
      spare = put.spare;
    }
