-- Demand 3 for stations with mail. The theorem is `mailbox_order` (proofs/MailboxOrder).
use Rattle.std.specs.Prelude.{◌≡◌, true, ℕ}
use Rattle.aggregate.specs.declared.Aggregate.{Aggregate}
use Rattle.aggregate.specs.Ways.{is_way}
use Rattle.linemap.specs.declared.Map.{Map}
use Rattle.mailbox.specs.Net.{Net, station}
use Rattle.mailbox.specs.Opening.{fresh_on}
use Rattle.mailbox.specs.Rules.{rules}
use Rattle.order.specs.Internal.Maps.{Ordered}

-- "the desk's sum" (Lists of calls): what the root of a net on this map holds
abbrev pub root_held : Map → Net → Aggregate
root_held m net = (station net m.desk).held

-- demand 3 for stations with mail, of every way and on every accepted map
abbrev pub MailboxOrdered : Type 0
MailboxOrdered = (way : ℕ) → is_way way ≡ true → Ordered rules way (fresh_on way) root_held
