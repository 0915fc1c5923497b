use Rattle.index_lookups.proofs.walking.row_alone.Goals as goal

pub returns-clause-typed : goal.returns-clause-typed
returns-clause-typed g c = c.row_of_entry.ensures.typed
