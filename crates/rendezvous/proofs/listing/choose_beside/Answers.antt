-- `rendezvous::listing::choose_beside` meets its contract: the rows list what is allowed, with the tells beside them. Assumes nothing.
use mathlib.Core.Path.{◌≡◌, ap, ◌∙◌, subst}
use mathlib.Core.Bool.{Bool, true, cond}
use borrow.Author.Tests.{eq-eqb}
use Rattle.aggregate.specs.declared.Config.{Config}
use Rattle.schedule.specs.Rows.{picked_beside}
use Rattle.schedule.proofs.Drawing.{of_list_beside}
use Rattle.rendezvous.specs.Net.{net_in, carries}
use Rattle.rendezvous.specs.Figure.{report}
use Rattle.rendezvous.specs.Telling.{tell}
use Rattle.rendezvous.specs.Rules.{rules}
use Rattle.rendezvous.specs.Internal.Receivers.{AreTells}
use Rattle.rendezvous.proofs.Tells.{tells-allowed}
use Rattle.rendezvous.proofs.listing.choose_beside.Goals as goal

pub returns : goal.returns
returns c kept F =
    let a = c.args in
    let net = net_in a.opened.now.net.now kept in
    let told = a.opened.now.read.config in
    let tells = c.fill_tells.new.tells in
    let back : carries net ≡ true = eq-eqb _ 1 c.requires in
    let are : AreTells net net.config.k tells = subst (λ (t : Config). AreTells net t.k tells) told (c.fill_tells.ensures kept) in
    of_list_beside rules net F (ap (λ (b : Bool). cond b tell report) back) tells (tells-allowed net back tells are) a.d
    (c.pick_beside.ensures ∙ ap (λ (t : Config). picked_beside a.rows.now a.sizes tells t.k a.d) told)
