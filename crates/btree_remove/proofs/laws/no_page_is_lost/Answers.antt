use Rattle.btree_remove.proofs.LawLemmas.{removed_used, removed_kept, dropped_used, dropped_beside}
use Rattle.btree_remove.proofs.laws.no_page_is_lost.Goals as goal

pub returns-clause-removed : goal.returns-clause-removed
returns-clause-removed c = removed_used

pub returns-clause-kept : goal.returns-clause-kept
returns-clause-kept c = removed_kept

pub returns-clause-dropped : goal.returns-clause-dropped
returns-clause-dropped c = dropped_used

pub returns-clause-beside : goal.returns-clause-beside
returns-clause-beside c = dropped_beside
