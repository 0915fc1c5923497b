use Rattle.catalog.proofs.OneLemmas.{schema_stays, schema_used}
use Rattle.catalog.proofs.laws.schemas_stay.Goals as goal

pub returns-clause-stays : goal.returns-clause-stays
returns-clause-stays c = schema_stays

pub returns-clause-used : goal.returns-clause-used
returns-clause-used c = schema_used
