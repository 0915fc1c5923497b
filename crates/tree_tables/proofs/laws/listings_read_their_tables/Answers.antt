use Rattle.tree_tables.proofs.Reading.{trees-read}
use Rattle.tree_tables.proofs.laws.listings_read_their_tables.Goals as goal

pub returns : goal.returns
returns c = λ tables others tree agree. trees-read tables others tree agree
