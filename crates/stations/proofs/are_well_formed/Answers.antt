-- `stations::are_well_formed` meets its contract: the form of each station below k is that of the place which is read. Assumes nothing.
use mathlib.Core.Path.{◌≡◌, refl, sym, ap, ◌∙◌}
use mathlib.Core.Bool.{Bool}
use Prim.Native.Nat.{ℕ}
use native.Mathlib.Omega.{arith}
use Rattle.std.proofs.Common.{rules, tests}
use Rattle.std.specs.List.{range_with_len, list_all}
use Rattle.std.proofs.lemmas.Iterator.{YieldsList-from_range}
use Rattle.std.proofs.lemmas.Iterator.Search.{all_from_yields_List}
use Rattle.station.specs.Form.{well_formed}
use Rattle.finite.proofs.Below.{all_below_ext, in_turn}
use Rattle.aggregate.proofs.Laws.{valid-k}
use Rattle.stations.specs.Stations.{are_well_formed}
use Rattle.stations.specs.Words.{station_read}
use Rattle.stations.proofs.Words.{station_read_lem}
use Rattle.stations.proofs.are_well_formed.Goals as goal

pub returns-then-is_valid : goal.returns-then-is_valid
unfolding are_well_formed
returns-then-is_valid c =
    let t = c.config_in-t.result in
    let words = c.args.words.now in
    let test : ℕ → Bool = λ i. well_formed t i (station_read words i) in
    let valid = sym c.is_valid.ensures ∙ c.if-is_valid.true in
    let ran : c.all.result ≡ list_all test (range_with_len 0 t.k) =
    all_from_yields_List test _ _ c.all.result c.all.ensures.ran (YieldsList-from_range 0 t.k t.k refl (omega arith)) (λ x b q k. search (rules, tests)) in
    let most = (valid-k t valid).1 in
    rw (sym c.config_in-t.ensures, valid)
    (ran ∙ in_turn test 0 t.k
    ∙ all_below_ext t.k _ _ (λ i l. ap test (omega arith) ∙ ap (well_formed t i) (station_read_lem words i (omega arith))))

pub returns-else-is_valid : goal.returns-else-is_valid
unfolding are_well_formed
returns-else-is_valid c = rw (sym c.config_in-t.ensures, sym c.is_valid.ensures ∙ c.if-is_valid.false) c.if-is_valid.false
