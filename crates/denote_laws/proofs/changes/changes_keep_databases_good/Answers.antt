use Rattle.denote_laws.proofs.Good.{changed-good}
use Rattle.denote_laws.proofs.changes.changes_keep_databases_good.Goals as goal

pub returns : goal.returns
returns c = λ reading db new change count readable good e. changed-good reading db new change count readable good e
