-- `sheet::Writer::put` meets its contract: the word is put where there is room for it. Assumes nothing.
use mathlib.Core.Path.{refl}
use Rattle.finite.proofs.Stores.{laid-put}
use Rattle.sheet.proofs.Writer.put.Goals as goal

pub returns : goal.returns
returns c =
    let a = c.args in
    let laid = c.put_bytes-self.ensures in
    record {
      same = refl;
      lays = record { put = λ room. laid-put a.self.now.buf.now a.self.now.at a.word.now room laid.end laid.bytes };
    }
