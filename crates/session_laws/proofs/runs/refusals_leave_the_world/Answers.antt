use Rattle.session_laws.proofs.RefusedCalls.{unchanged, almost_all}
use Rattle.session_laws.proofs.runs.refusals_leave_the_world.Goals as goal

pub returns : goal.returns
returns c = record { unchanged = unchanged; almost_all = almost_all }
