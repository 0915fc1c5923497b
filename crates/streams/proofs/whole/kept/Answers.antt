use Rattle.std.proofs.Common.{◌∙◌, arith}
use Rattle.streams.proofs.Nodes.{kept-left}
use Rattle.streams.proofs.ReadNodes.{read_kept}
use Rattle.streams.proofs.whole.kept.Goals as goal

pub returns-in-Ok-clause-rows : goal.returns-in-Ok-clause-rows
returns-in-Ok-clause-rows c = λ entries tree whole lists.
    rw c.new.ensures (kept-left entries tree c.into_iter.result c.in-Ok.listed.rows c.in-Ok.listed.fault whole
    (c.into_iter.ensures.rest ∙ c.into_vec.ensures) (rw c.in-Ok.is at lists.ok))

pub returns-in-Ok-clause-reads : goal.returns-in-Ok-clause-reads
returns-in-Ok-clause-reads c = λ entries tree count limit le.
    omega (arith, le, read_kept entries c.into_iter.result c.in-Ok.listed.fault tree)
