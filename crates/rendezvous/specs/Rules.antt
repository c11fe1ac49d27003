-- Stations that meet as a kind of net: listing, draws, runs and lists of calls are those of `schedule` at these rules.
use Rattle.std.specs.Prelude.{Bool, cond, ℕ, eqb}
use Rattle.aggregate.specs.Aggregate.{root_of}
use Rattle.schedule.specs.declared.Step.{Step}
use Rattle.schedule.specs.Rules.{Rules}
use Rattle.rendezvous.specs.Net.{Net, carries, station, well_formed}
use Rattle.rendezvous.specs.Figure.{report, may_step, assigned}
use Rattle.rendezvous.specs.Telling.{tell, may_tell, told_by}

-- number 13: Figure 2's condition, or that of a tell
abbrev pub guard : Net → Step → Bool
guard net s =
    let j = s.sender in
    let i = s.receiver in
    cond (eqb s.kind tell) (may_tell net j i) (may_step net.config s.kind j i (station net j) (station net i))

-- the net after a step
abbrev pub apply : Net → Step → Net
apply net s = cond (eqb s.kind tell) (told_by net s.sender s.receiver) (assigned net s.kind s.sender s.receiver)

-- the kind of net: "kind not 1 to 4", where totals are carried back "kinds go to 5", and what else `schedule` asks of one
abbrev pub rules : Rules Net
rules =
    let kinds : Net → ℕ = λ net. cond (carries net) tell report in
    let k : Net → ℕ = λ net. net.config.k in
    let root : Net → ℕ = λ net. root_of net.config in
    record { kinds = kinds; reports = report; stations = k; root = root; well_formed = well_formed; guard = guard; apply = apply }
