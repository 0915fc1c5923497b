use Rattle.std.proofs.Common.{sym, subst, [], ◌∷◌}
use Rattle.std.specs.List.{AllByRecursion}
use Rattle.btree_read.proofs.ListLemmas.{each_append}
use Rattle.tablestore.specs.Held.{RowFits}
use Rattle.index_lookups.proofs.walking.put_if.Goals as goal

pub returns-clause-typed : goal.returns-clause-typed
returns-clause-typed c = λ types h one. subst (AllByRecursion (RowFits types)) (sym c.in_ok-push-2.ensures.ok) (each_append (RowFits types) c.args.found.now.rows (c.args.row.row ∷ []) h (one, tt))

pub returns-then-not-is_one-clause-typed : goal.returns-then-not-is_one-clause-typed
returns-then-not-is_one-clause-typed c = λ types h one. h
