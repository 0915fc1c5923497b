use Rattle.std.proofs.Common.{inr}
use Rattle.parallel_scripts.proofs.Endings.{kept_before}
use Rattle.parallel_scripts.proofs.ending.ended.Goals as goal

pub returns-in-Err-pass_on-clause-ends : goal.returns-in-Err-pass_on-clause-ends
returns-in-Err-pass_on-clause-ends g c = rw c.in-Ok.is (inr (kept_before _ _ _ _ _ c.pass_on.ensures c.fail.ensures.0, c.fail.ensures.1))
