use Rattle.catalog_records.proofs.ApartLemmas.{schema_same}
use Rattle.catalog_records.proofs.laws.records_tell_apart.Goals as goal

pub returns : goal.returns
returns c = schema_same
