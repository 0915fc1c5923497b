use Rattle.btree.proofs.LawLemmas.{written_used, written_kept}
use Rattle.btree.proofs.laws.insertions_lose_no_page.Goals as goal

pub returns-clause-used : goal.returns-clause-used
returns-clause-used c = written_used

pub returns-clause-kept : goal.returns-clause-kept
returns-clause-kept c = written_kept
