use Rattle.denote_laws.proofs.ChangedLemmas.{changed-same}
use Rattle.denote_laws.proofs.order.changes_depend_on_bags_alone.Goals as goal

pub returns : goal.returns
returns c = λ reading db new change same. changed-same reading db new same change
