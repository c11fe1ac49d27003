-- `rendezvous::listing::choose` meets its contract: the rows list what is allowed. Assumes nothing.
use mathlib.Core.Path.{◌∙◌}
use Rattle.rendezvous.specs.Net.{net_in}
use Rattle.rendezvous.proofs.RowSets.{picked-flat}
use Rattle.rendezvous.proofs.listing.choose.Goals as goal

pub returns : goal.returns
returns c kept F =
    let a = c.args in
    picked-flat (net_in a.opened.now.net.now kept) F (λ e. c.if-carrying_in-eq-CARRYING.false (c.carrying_in.ensures ∙ e)) a.opened.now.read.config a.d
    c.pick.ensures
