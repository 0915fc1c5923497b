use Rattle.std.proofs.Common.{ap, ◌∙◌}
use Rattle.std.specs.Prelude.{length}
use Rattle.parallel_scripts.proofs.Alone.{ends_for}
use Rattle.parallel_scripts.proofs.program.run_files.Goals as goal

pub returns-in-Ok : goal.returns-in-Ok
returns-in-Ok g c = ends_for (ap length c.as_slice.ensures.value ∙ c.in-Ok.ensures) c.run_texts.ensures

pub returns-in-Err : goal.returns-in-Err
returns-in-Err g c = c.not_read.ensures.ends _
