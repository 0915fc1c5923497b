use Rattle.check_laws.proofs.Places.{created-places, index-places}
use Rattle.check_laws.proofs.laws.declared_columns_are_there.Goals as goal

pub returns-clause-created : goal.returns-clause-created
returns-clause-created c = created-places

pub returns-clause-indexed : goal.returns-clause-indexed
returns-clause-indexed c = index-places
