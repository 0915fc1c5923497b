use Rattle.catalog.proofs.OneLemmas.{one_schema}
use Rattle.catalog.proofs.laws.tables_are_one.Goals as goal

pub returns : goal.returns
returns c = one_schema
