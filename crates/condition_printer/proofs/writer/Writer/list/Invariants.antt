use Rattle.std.proofs.Common.{◌∷◌, take}
use Rattle.std.specs.Prelude.{flat_map}
use Rattle.ast.specs.Words.{COMMA}
use Rattle.condition_printer.specs.Trees.{Puts}
use Rattle.condition_printer.proofs.writer.Writer.list.Given as goal

abbrev pub invariant-loop-part : goal.invariant-loop-part
invariant-loop-part g l = Puts (flat_map (λ x. COMMA ∷ g.P.Part.tokens x) (take l.part-index l.others)) l.initial.self l.self
