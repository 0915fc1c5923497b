use Rattle.std.proofs.Common.{take}
use Rattle.ast.specs.Notation.{Many}
use Rattle.printer.specs.Writing.{Prints}
use Rattle.printer.proofs.writer.Writer.all.Given as goal

abbrev pub invariant-loop-part : goal.invariant-loop-part
invariant-loop-part g l = Prints (λ limit inner. Many (g.P.Part.rule limit inner)) (take l.part-index l.parts) l.initial.self l.self
