use Rattle.denote_laws.proofs.ChangedLemmas.{denotes-same, answers-same}
use Rattle.denote_laws.proofs.order.queries_depend_on_bags_alone.Goals as goal

pub returns : goal.returns
returns c = record { outcome = denotes-same; answers = answers-same }
