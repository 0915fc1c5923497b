use Rattle.std.proofs.Common.{refl}
use Rattle.database_trees.proofs.DatabaseLemmas.{as_any, all_are_owned, owned_are_used, owned_stays}
use Rattle.database_trees.proofs.laws.owned_pages_are_of_trees.Goals as goal

pub returns-clause-holds : goal.returns-clause-holds
returns-clause-holds c = λ pages root tables h. as_any pages root tables h

pub returns-clause-owned : goal.returns-clause-owned
returns-clause-owned c = λ pages root tables h. all_are_owned pages root tables h

pub returns-clause-used : goal.returns-clause-used
returns-clause-used c = λ pages root tables h. owned_are_used pages root tables h

pub returns-clause-stays : goal.returns-clause-stays
returns-clause-stays c = λ old new root tables same h. owned_stays old new root tables same h

pub returns-clause-written : goal.returns-clause-written
returns-clause-written c = λ new contents root w. record { tables = w.tables; holds = as_any new root w.tables w.holds; shows = w.shows }
