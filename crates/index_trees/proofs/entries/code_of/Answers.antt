use Rattle.index_trees.proofs.EntryLemmas.{short_code}
use Rattle.index_trees.proofs.entries.code_of.Goals as goal

pub returns-in-Ok-clause-short : goal.returns-in-Ok-clause-short
returns-in-Ok-clause-short c = short_code c.as_slice.result.now c.args.number c.in-Ok.code (λ h. let bad = c.in-Ok.ensures.limit.1 h in cc) c.in-Ok.ensures.code
