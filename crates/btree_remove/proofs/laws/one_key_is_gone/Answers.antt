use Rattle.btree_remove.proofs.LawLemmas.{one_gone, others_found}
use Rattle.btree_remove.proofs.laws.one_key_is_gone.Goals as goal

pub returns-clause-gone : goal.returns-clause-gone
returns-clause-gone c = one_gone

pub returns-clause-others : goal.returns-clause-others
returns-clause-others c = others_found
