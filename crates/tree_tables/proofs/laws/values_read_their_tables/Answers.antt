use Rattle.tree_tables.proofs.Reading.{expressions-read}
use Rattle.tree_tables.proofs.laws.values_read_their_tables.Goals as goal

pub returns : goal.returns
returns c = λ tables others expression agree. expressions-read tables others expression agree
