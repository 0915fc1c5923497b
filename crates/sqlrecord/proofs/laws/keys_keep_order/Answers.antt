use Rattle.sqlrecord.proofs.OrderLemmas.{whole_keys, index_keys}
use Rattle.sqlrecord.proofs.laws.keys_keep_order.Goals as goal

pub returns-clause-keys : goal.returns-clause-keys
returns-clause-keys c = whole_keys

pub returns-clause-index_keys : goal.returns-clause-index_keys
returns-clause-index_keys c = index_keys
