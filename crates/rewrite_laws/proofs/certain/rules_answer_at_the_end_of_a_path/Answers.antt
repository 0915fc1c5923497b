use Rattle.rewrite_laws.proofs.NodesThere.{nodes-there}
use Rattle.rewrite_laws.proofs.There.{walks-end}
use Rattle.rewrite_laws.proofs.certain.rules_answer_at_the_end_of_a_path.Goals as goal
use Rattle.rules.specs.Applied.{here}
use Rattle.rules.specs.Quiet.{conditions_quiet}

pub returns : goal.returns
returns c = λ rule path tree node made at is. walks-end nodes-there (here (conditions_quiet tree) rule) path tree node made at is
