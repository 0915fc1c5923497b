use Rattle.sqlrecord.proofs.OrderLemmas.{keys_apart, index_keys_apart}
use Rattle.sqlrecord.proofs.laws.keys_tell_apart.Goals as goal

pub returns-clause-keys : goal.returns-clause-keys
returns-clause-keys c = keys_apart

pub returns-clause-index_keys : goal.returns-clause-index_keys
returns-clause-index_keys c = index_keys_apart
