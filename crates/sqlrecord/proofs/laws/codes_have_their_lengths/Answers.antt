use Rattle.sqlrecord.proofs.CodeLemmas.{length_row, length_key}
use Rattle.sqlrecord.proofs.OrderLemmas.{length_index_key}
use Rattle.sqlrecord.proofs.laws.codes_have_their_lengths.Goals as goal

pub returns-clause-rows : goal.returns-clause-rows
returns-clause-rows c = length_row

pub returns-clause-keys : goal.returns-clause-keys
returns-clause-keys c = length_key

pub returns-clause-index_keys : goal.returns-clause-index_keys
returns-clause-index_keys c = length_index_key
