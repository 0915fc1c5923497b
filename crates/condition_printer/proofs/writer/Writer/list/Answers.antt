use Rattle.std.proofs.Common.{◌∷◌}
use Rattle.ast.specs.Words.{COMMA}
use Rattle.condition_printer.proofs.Parts.{◌⨟◌, all_listed, turn}
use Rattle.condition_printer.proofs.writer.Writer.list.Goals as goal

pub loop-part-preserved : goal.loop-part-preserved
loop-part-preserved g c =
    turn (λ x. COMMA ∷ g.P.Part.tokens x) _ _ _ c.loop-part-test.true c.part-item.is c.loop-part.invariant (c.in_ok-symbol.ensures ⨟ c.in_ok-write-2.ensures)

pub returns-after-loop-part : goal.returns-after-loop-part
returns-after-loop-part g c =
    all_listed g.P.Part.tokens _ _ _ c.in-len1-up.len_at_least c.first-item.is c.loop-part-test.false c.in_ok-write.ensures c.loop-part.invariant
