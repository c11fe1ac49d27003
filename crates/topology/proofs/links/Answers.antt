-- `topology::links` meets its contract: it refuses as `accept` does, and an accepted map has few enough stations to count. Assumes
-- nothing.
use mathlib.Core.Path.{◌≡◌, sym, ap, ◌∙◌}
use mathlib.Core.Bool.{true}
use Prim.Native.Nat.{ℕ}
use Rattle.std.specs.Prelude.{Ok}
use Rattle.std.proofs.lemmas.Result.{err_from_is_err_and}
use Rattle.topology.specs.Answer.{is_accepted}
use Rattle.topology.specs.Acceptance.{fault_numbers, links_numbers, verdict_of, links_of}
use Rattle.topology.proofs.Answers.{fault_refuses}
use Rattle.topology.proofs.Webs.{accepted_web, web_root}
use Rattle.topology.proofs.links.Goals as goal
use Rattle.topology.proofs.links.Goals.{In_ok-accept}

is_accepted_lem : (c : In_ok-accept) → let a = c.args in is_accepted (verdict_of a.root a.k a.sets.now) ≡ true
is_accepted_lem c = ap is_accepted (sym c.in_ok-accept.ensures)

pub returns-in_err-accept : goal.returns-in_err-accept
unfolding links_of
returns-in_err-accept c =
    let p = err_from_is_err_and c.from_residual.result c.from_residual.ensures.1 in
    let told : fault_numbers c.in_err-accept.field-0.0 ≡ _ = c.in_err-accept.ensures in
    rw (p.1, p.2, ap is_accepted (sym told) ∙ fault_refuses c.in_err-accept.field-0.0) told

pub invariant_of-count_links : goal.invariant_of-count_links
invariant_of-count_links c =
    let web = accepted_web _ _ _ (is_accepted_lem (goal.at.invariant_of-count_links c).In_ok-accept) in
    record { few = web.few_stations; rooted = web_root _ _ _ web }

pub returns : goal.returns
unfolding links_of
returns c = rw (is_accepted_lem (goal.at.returns c).In_ok-accept) (ap (λ (m : ℕ). links_numbers (Ok m)) c.count_links.ensures)
