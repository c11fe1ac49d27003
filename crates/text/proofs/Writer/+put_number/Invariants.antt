-- `text::Writer::put_number` meets its contract: each test is a case of `digits`; the last digit goes where the others end. The measure is the
-- number of digits allowed. Assumes nothing.
use Rattle.text.proofs.Writer.+put_number.Given as goal

abbrev pub decreases-put_number : goal.decreases-put_number
decreases-put_number l = l.most
