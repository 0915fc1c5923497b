use Rattle.algebra.specs.TreeOutcome.{outcome_step}
use Rattle.same_laws.proofs.Moved.{conditions-move}
use Rattle.same_laws.proofs.columns.moved_conditions_mean_the_same.Goals as goal

pub returns : goal.returns
returns c = λ tables. conditions-move (outcome_step tables)
