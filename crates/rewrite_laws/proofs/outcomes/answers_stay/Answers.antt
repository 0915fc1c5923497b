use Rattle.rewrite_laws.proofs.Answered.{still-answers}
use Rattle.rewrite_laws.proofs.outcomes.answers_stay.Goals as goal

pub returns : goal.returns
returns c = still-answers
