-- Reading and writing a mailbox by any two numbers: only stations below 64 have mailboxes (document 01, "There are k stations, 1 to 64").
use Rattle.std.specs.Prelude.{◌&&◌, cond, List, ℕ, ltb}
use Rattle.aggregate.specs.declared.Config.{Config}
use Rattle.aggregate.specs.declared.Aggregate.{Aggregate}
use Rattle.aggregate.specs.Aggregate.{nothing}
use Rattle.mail.specs.declared.Mailbox.{Mailbox}
use Rattle.mail.specs.declared.Mailbox.TheVariants.{Empty}
use Rattle.mail.specs.Mail.{box_at, brought_at, with_box, starts_posted}

-- what the mailbox from s to r holds; where there is none, nothing
abbrev pub box_read : List ℕ → ℕ → ℕ → Mailbox
box_read boxes s r = cond (ltb s 64 && ltb r 64) (box_at boxes s r) Empty

-- what an answer there brings; where there is none, nothing
abbrev pub brought_read : Config → List ℕ → ℕ → ℕ → Aggregate
brought_read t boxes s r = cond (ltb s 64 && ltb r 64) (brought_at t boxes s r) nothing

-- the words with b in the mailbox from s to r, and what it brings; where there is none, as they were
abbrev pub box_written : List ℕ → ℕ → ℕ → Mailbox → Aggregate → List ℕ
box_written boxes s r b v = cond (ltb s 64 && ltb r 64) (with_box boxes s r b v) boxes

-- a start posted from s to every station in the set; where s has no mailboxes, the words as they were
abbrev pub starts_written : List ℕ → ℕ → ℕ → List ℕ
starts_written boxes s stations = cond (ltb s 64) (starts_posted boxes s stations) boxes
