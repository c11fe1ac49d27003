-- `topology::Stations::judge` meets its contract: a rule that is broken refuses, and one that is kept leaves the rules after it. Assumes nothing.
use mathlib.Core.Path.{◌≡◌, sym, ap, ◌∙◌}
use mathlib.Core.Bool.{true, not}
use mathlib.Core.List.{List}
use Prim.Native.Nat.{ℕ, ◌≤◌, ◌<◌}
use lib.ListN.{get_or}
use lib.Dec.{eqb}
use lib.Bits.{bit_and}
use native.Mathlib.Omega.{arith}
use borrow.Author.Tests.{lt-ltb, le-leb, not-false}
use Rattle.std.proofs.Common.{of_calls}
use Rattle.std.proofs.lemmas.Result.{err_from_is_err_and}
use Rattle.topology.specs.Answer.{accepted}
use Rattle.topology.specs.Acceptance.{linked, near, names_beyond, names_itself, names_one_sided, is_apart, lowest, over_all, verdict_of}
use Rattle.topology.specs.Internal.Parts.{judged_all}
use Rattle.topology.specs.declared.Fault.TheVariants.{Beyond, Itself, OneWay, Apart}
use Rattle.topology.proofs.Searches.{lowest-none}
use Rattle.topology.proofs.Sets.{one_sided_transposed}
use Rattle.topology.proofs.Judging.{refused, passed, last}
use Rattle.bitset.specs.Set.{member, within}
use Rattle.bitset.proofs.Selected.{set-member}
use Rattle.topology.proofs.Stations.judge.Goals as goal
use Rattle.topology.proofs.Stations.judge.Goals.{In_ok-over_all, In_ok-over_all-2, After-over_all-3}

-- the rules after the third, after the second and after the first
abbrev chains : ℕ → ℕ → List ℕ → List ℕ
chains root k sets = over_all k (is_apart root k sets) Apart accepted

abbrev mutuals : ℕ → ℕ → List ℕ → List ℕ
mutuals root k sets = over_all k (names_one_sided k sets) OneWay (chains root k sets)

abbrev others : ℕ → ℕ → List ℕ → List ℕ
others root k sets = over_all k (names_itself sets) Itself (mutuals root k sets)

counted : (root k : ℕ) (sets : List ℕ) → k ≤ 64 → root < k
    → verdict_of root k sets ≡ over_all k (names_beyond k sets) Beyond (others root k sets)
unfolding verdict_of
counted root k sets few l = rw (lt-ltb 0 k (omega (arith, l)), le-leb k 64 few, lt-ltb root k l)

-- what a rule that is kept leaves of the verdict
after_beyond : (c : In_ok-over_all)
    → let a = c.args in (a.self.now.k ≤ lowest a.self.now.k (names_beyond a.self.now.k a.self.now.sets.now)) × (verdict_of a.self.now.root a.self.now.k a.self.now.sets.now ≡ others a.self.now.root a.self.now.k a.self.now.sets.now)
after_beyond c =
    let a = c.args in
    let told = c.over_all.ensures (names_beyond a.self.now.k a.self.now.sets.now) Beyond (λ i b l post. search of_calls) (λ i f l post. post) in
    let kept = passed a.self.now.k _ Beyond _ told (others a.self.now.root a.self.now.k a.self.now.sets.now) _ c.in_ok-over_all.was in
    (kept.0, counted a.self.now.root a.self.now.k a.self.now.sets.now a.self.now.few a.self.now.rooted ∙ kept.1)

after_itself : (c : In_ok-over_all-2)
    → let a = c.args in
    verdict_of a.self.now.root a.self.now.k a.self.now.sets.now ≡ others a.self.now.root a.self.now.k a.self.now.sets.now → verdict_of a.self.now.root a.self.now.k a.self.now.sets.now ≡ mutuals a.self.now.root a.self.now.k a.self.now.sets.now
after_itself c left =
    let a = c.args in
    let told = c.over_all-2.ensures (names_itself a.self.now.sets.now) Itself (λ i b l post. search of_calls) (λ i f l post. post) in
    left ∙ (passed a.self.now.k _ Itself _ told (mutuals a.self.now.root a.self.now.k a.self.now.sets.now) _ c.in_ok-over_all-2.was).1

-- the third rule is tested by the namers: each set is of stations below k there
one_way : (c : After-over_all-3)
    → let a = c.args in
    a.self.now.k ≤ lowest a.self.now.k (names_beyond a.self.now.k a.self.now.sets.now)
    → c.over_all-3.result ≡ judged_all a.self.now.k (names_one_sided a.self.now.k a.self.now.sets.now) OneWay
one_way c below =
    let a = c.args in
    let inside : (i : ℕ) → i < a.self.now.k → within a.self.now.k (get_or a.self.now.sets.now i 0) ≡ true =
    λ i l. not-false _ (lowest-none a.self.now.k (names_beyond a.self.now.k a.self.now.sets.now) below i l) in
    let namers = c.transpose-namers.result in
    c.over_all-3.ensures (names_one_sided a.self.now.k a.self.now.sets.now) OneWay
    (λ i b l post.
    let tested : b ≡ not (eqb (bit_and (get_or a.self.now.sets.now i 0) (get_or namers i 0)) (get_or a.self.now.sets.now i 0)) = search of_calls in
    tested ∙ one_sided_transposed a.self.now.k a.self.now.sets.now namers i a.self.now.few l c.transpose-namers.ensures (inside i l))
    (λ i f l post. post)

pub returns-in_err-over_all : goal.returns-in_err-over_all
returns-in_err-over_all c =
    let a = c.args in
    let p = err_from_is_err_and c.from_residual.result c.from_residual.ensures.1 in
    let told = c.over_all.ensures (names_beyond a.self.now.k a.self.now.sets.now) Beyond (λ i b l post. search of_calls) (λ i f l post. post) in
    rw (p.1, p.2)
    (sym (counted a.self.now.root a.self.now.k a.self.now.sets.now a.self.now.few a.self.now.rooted ∙ refused a.self.now.k _ Beyond _ told (others a.self.now.root a.self.now.k a.self.now.sets.now) _ c.in_err-over_all.was))

pub returns-in_err-over_all-2 : goal.returns-in_err-over_all-2
returns-in_err-over_all-2 c =
    let a = c.args in
    let here = goal.at.returns-in_err-over_all-2 c in
    let p = err_from_is_err_and c.from_residual-in_err-over_all-2.result c.from_residual-in_err-over_all-2.ensures.1 in
    let told = c.over_all-2.ensures (names_itself a.self.now.sets.now) Itself (λ i b l post. search of_calls) (λ i f l post. post) in
    let left = after_beyond here.In_ok-over_all in
    rw (p.1, p.2)
    (sym (left.1 ∙ refused a.self.now.k _ Itself _ told (mutuals a.self.now.root a.self.now.k a.self.now.sets.now) _ c.in_err-over_all-2.was))

pub returns-in_err-over_all-3 : goal.returns-in_err-over_all-3
returns-in_err-over_all-3 c =
    let a = c.args in
    let here = goal.at.returns-in_err-over_all-3 c in
    let p = err_from_is_err_and c.from_residual-in_err-over_all-3.result c.from_residual-in_err-over_all-3.ensures.1 in
    let first = after_beyond here.In_ok-over_all in
    let told = one_way here.After-over_all-3 first.0 in
    let left = after_itself here.In_ok-over_all-2 first.1 in
    rw (p.1, p.2)
    (sym (left ∙ refused a.self.now.k _ OneWay _ told (chains a.self.now.root a.self.now.k a.self.now.sets.now) _ c.in_err-over_all-3.was))

-- the last rule is tested by the set that was reached
pub returns : goal.returns
returns c =
    let a = c.args in
    let here = goal.at.returns c in
    let first = after_beyond here.In_ok-over_all in
    let told = one_way here.After-over_all-3 first.0 in
    let left = after_itself here.In_ok-over_all-2 first.1 in
    let reached = c.over_all-4.ensures (is_apart a.self.now.root a.self.now.k a.self.now.sets.now) Apart
    (λ i b l post.
    let tested : b ≡ not (member i c.reach-reached.result) = search of_calls in
    tested
    ∙ ap (λ (s : ℕ). not (member i s)) c.reach-reached.ensures
    ∙ ap not (set-member a.self.now.k (near (linked a.self.now.k a.self.now.sets.now) a.self.now.root a.self.now.k a.self.now.k) i l))
    (λ i f l post. post) in
    last a.self.now.k _ Apart _ reached ∙ sym (left ∙ (passed a.self.now.k _ OneWay _ told (chains a.self.now.root a.self.now.k a.self.now.sets.now) _ c.in_ok-over_all-3.was).1)
