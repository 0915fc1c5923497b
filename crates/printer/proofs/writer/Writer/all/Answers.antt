use Rattle.printer.proofs.Parts.{ended, turn}
use Rattle.printer.proofs.writer.Writer.all.Goals as goal

pub loop-part-preserved : goal.loop-part-preserved
loop-part-preserved g c = turn g.P.Part.rule _ _ _ c.loop-part-test.true c.part-item.is c.loop-part.invariant c.in_ok-write.ensures

pub returns : goal.returns
returns g c = ended g.P.Part.rule _ _ c.loop-part-test.false c.loop-part.invariant
