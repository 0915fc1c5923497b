use Rattle.parallel_scripts.specs.Alone.{EndsAlone}
use Rattle.parallel_scripts.proofs.Endings.{ends_by}
use Rattle.parallel_scripts.proofs.program.not_read.Goals as goal

pub returns-clause-ends : goal.returns-clause-ends
returns-clause-ends g c = λ count. EndsAlone.not_read _ _ (ends_by _ _ _ _ _ _ _ c.say.ensures.puts c.ended.ensures.ends)

pub returns-clause-told : goal.returns-clause-told
returns-clause-told g c = record { is_told = _; ends = ends_by _ _ _ _ _ _ _ c.say.ensures.puts c.ended.ensures.ends }
