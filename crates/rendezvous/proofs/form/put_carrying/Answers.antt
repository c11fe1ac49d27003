-- `rendezvous::form::put_carrying` meets its contract: the laws say what the first word leaves. Assumes nothing.
use mathlib.Core.Path.{◌≡◌, ap, ◌∙◌}
use mathlib.Core.Bool.{cond}
use Prim.Native.Nat.{ℕ, ◌^◌, ◌<◌}
use native.Mathlib.Omega.{arith}
use lib.ListN.{length, set}
use Rattle.finite.proofs.Cases.{by_bool}
use Rattle.stations.specs.Words.{config_in, stations_in}
use Rattle.rendezvous.specs.Net.{carrying_in, beside_in}
use Rattle.rendezvous.proofs.Flags.{flagged, flag_read, flag_config, flag_stations, flag_beside}
use Rattle.rendezvous.proofs.form.put_carrying.Goals as goal

pub returns : goal.returns
returns c =
    let a = c.args in
    let words = a.net.now in
    let long : length words ≡ 705 = omega arith in
    let flag : ℕ = cond a.carrying 1 0 in
    let byte : flag < 2 ^ 8 = by_bool a.carrying (λ e. rw e (omega arith)) (λ e. rw e (omega arith)) in
    let e : set words 0 c.flag_word-w.result ≡ flagged words long flag byte = ap (set words 0) c.flag_word-w.ensures in record { flag = ap carrying_in e ∙ flag_read words long flag byte; config = ap config_in e ∙ flag_config words long flag byte; stations = ap stations_in e ∙ flag_stations words long flag byte; beside = ap beside_in e ∙ flag_beside words long flag byte }
