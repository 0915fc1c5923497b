use Rattle.stored_tables.proofs.HeldLemmas.{stays}
use Rattle.stored_tables.proofs.laws.tables_stay.Goals as goal

pub returns : goal.returns
returns c = stays
