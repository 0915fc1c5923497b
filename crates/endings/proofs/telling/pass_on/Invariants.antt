use Rattle.std.specs.Io.KnownBytes.{Keeps}
use Rattle.endings.proofs.telling.pass_on.Given as goal

-- nothing was written
abbrev pub invariant-loop : goal.invariant-loop
invariant-loop g l = Keeps (g.W.Write.contents l.fn.writer) (g.W.Write.contents l.writer)
