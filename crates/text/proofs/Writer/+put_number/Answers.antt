-- `text::Writer::put_number` meets its contract: each test is a case of `digits`; the last digit goes where the others end. The measure is the
-- number of digits allowed. Assumes nothing.
use native.Mathlib.Omega.{arith}
use Prim.Native.Nat.{◌%◌}
use Rattle.finite.proofs.Stores.{room_first, room_next}
use Rattle.text.specs.Text.{digit, digits}
use Rattle.text.proofs.Digits.{one-digit, more_digits}
use Rattle.text.proofs.Writing.{puts_none, puts_then}
use Rattle.text.proofs.Writer.+put_number.Goals as goal

pub returns-then-most-eq0 : goal.returns-then-most-eq0
unfolding digits
returns-then-most-eq0 t c = rw c.if-most-eq0.true (puts_none c.args.self.now)

pub put_digit-requires-clause-room : goal.put_digit-requires-clause-room
put_digit-requires-clause-room t c =
    rw (one-digit c.args.most c.args.n (omega arith) c.if-n-lt10.true) at c.requires

pub returns-then-n-lt10 : goal.returns-then-n-lt10
returns-then-n-lt10 t c = rw (one-digit c.args.most c.args.n (omega arith) c.if-n-lt10.true) c.put_digit.ensures

pub put_number-requires : goal.put_number-requires
put_number-requires t c =
    let more = more_digits c.args.most c.args.n (omega arith) c.if-n-lt10.false in
    (omega arith, room_first (digit (c.args.n % 10)) (rw more at c.requires))

pub put_digit-requires-2-clause-room : goal.put_digit-requires-2-clause-room
put_digit-requires-2-clause-room t c =
    let more = more_digits c.args.most c.args.n (omega arith) c.if-n-lt10.false in
    room_next (rw more at c.requires) c.put_number.ensures.put

pub returns : goal.returns
returns t c =
    rw (more_digits c.args.most c.args.n (omega arith) c.if-n-lt10.false) (puts_then c.put_number.ensures c.put_digit-2.ensures)
