-- A mailbox that there is: for stations below 64 the guards of reading and writing say nothing. Assumes nothing.
use mathlib.Core.Path.{◌≡◌}
use mathlib.Core.List.{List}
use Prim.Native.Nat.{ℕ, ◌<◌}
use borrow.Author.Tests.{lt-ltb}
use Rattle.aggregate.specs.declared.Config.{Config}
use Rattle.aggregate.specs.declared.Aggregate.{Aggregate}
use Rattle.mail.specs.declared.Mailbox.{Mailbox}
use Rattle.mail.specs.Mail.{box_at, brought_at, with_box, starts_posted}
use Rattle.mail.specs.Writing.{box_read, brought_read, box_written, starts_written}

module _ (boxes : List ℕ) (s : ℕ) (hs : s < 64) where
  pub starts_written_lem : (stations : ℕ) → starts_written boxes s stations ≡ starts_posted boxes s stations
  starts_written_lem stations = rw (lt-ltb s 64 hs)

  module _ (r : ℕ) (hr : r < 64) where
    pub box_read_lem : box_read boxes s r ≡ box_at boxes s r
    box_read_lem = rw (lt-ltb s 64 hs, lt-ltb r 64 hr)

    pub brought_read_lem : (t : Config) → brought_read t boxes s r ≡ brought_at t boxes s r
    brought_read_lem t = rw (lt-ltb s 64 hs, lt-ltb r 64 hr)

    pub box_written_lem : (b : Mailbox) (v : Aggregate) → box_written boxes s r b v ≡ with_box boxes s r b v
    box_written_lem b v = rw (lt-ltb s 64 hs, lt-ltb r 64 hr)
