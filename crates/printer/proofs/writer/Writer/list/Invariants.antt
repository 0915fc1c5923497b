use Rattle.std.proofs.Common.{take}
use Rattle.ast.specs.Notation.{◌⊳◌, Many}
use Rattle.ast.specs.Words.{COMMA}
use Rattle.printer.specs.Writing.{Prints}
use Rattle.printer.proofs.writer.Writer.list.Given as goal

abbrev pub invariant-loop-part : goal.invariant-loop-part
invariant-loop-part g l = Prints (λ limit inner. Many (COMMA ⊳ g.P.Part.rule limit inner)) (take l.part-index l.others) l.initial.self l.self
