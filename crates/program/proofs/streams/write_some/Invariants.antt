-- `program::streams::write_some` meets its contract: a write that was interrupted put nothing.
use Rattle.std.specs.Io.KnownBytes.{Keeps}
use Rattle.program.proofs.streams.write_some.Given as goal

abbrev pub invariant-loop : goal.invariant-loop
invariant-loop g l = Keeps (g.W.Write.contents l.initial.writer) (g.W.Write.contents l.writer)
