use Rattle.session_laws.proofs.Lives.{reopened}
use Rattle.session_laws.proofs.life_laws.reopened_runs_are_runs.Goals as goal

pub returns : goal.returns
returns c = λ rules start mid end first second before after. reopened rules start mid end first second before after
