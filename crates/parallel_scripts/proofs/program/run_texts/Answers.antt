use Rattle.std.proofs.Common.{refl}
use Rattle.parallel_scripts.specs.Alone.{EndsAlone}
use Rattle.parallel_scripts.proofs.Alone.{ends_alone}
use Rattle.parallel_scripts.proofs.program.run_texts.Goals as goal

pub returns : goal.returns
returns g c = rw c.status_of.ensures (EndsAlone.carried_out _ _ refl (ends_alone _ _ _ _ _ _ _ _ c.many_in_memory-done.ensures.runs))
