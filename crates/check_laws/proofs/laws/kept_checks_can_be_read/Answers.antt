use Rattle.check_laws.proofs.Inside.{nests_inside}
use Rattle.check_laws.proofs.Readable.{kept_readable}
use Rattle.check_laws.proofs.laws.kept_checks_can_be_read.Goals as goal

pub returns : goal.returns
returns c known tree table text kinds spelled nested parsed found =
    kept_readable nests_inside tree table text kinds spelled nested parsed (c.checks_are_kept.ensures known tree table text kinds spelled parsed found)
