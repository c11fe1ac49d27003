-- `topology::matrix::exchange` meets its contract. Invariant: the first 2i rows are those of the pass. Assumes nothing.
use native.Mathlib.Omega.{arith}
use borrow.Author.Rules.{rules}
use Rattle.topology.proofs.Transposition.{two_more}
use Rattle.topology.proofs.matrix.exchange.Goals as goal

pub loop-i-preserved : goal.loop-i-preserved
loop-i-preserved c =
    let args = c.args in (
      search rules,
      two_more args.width args.firsts args.from.now c.loop-i.to c.loop-i.i
          (omega arith) c.loop-i.invariant.0 c.loop-i.invariant.1 c.interleave-even.ensures c.interleave-odd.ensures,
    )
