use Rattle.std.proofs.Common.{◌≡◌, ◌++◌, drop}
use Rattle.rule_steps.proofs.indexes.put_all.Given as goal

-- those before this one are put
abbrev pub invariant-loop-columns : goal.invariant-loop-columns
invariant-loop-columns l =
    l.list ++ drop l.columns-index l.indexes ≡ l.fn.list ++ l.indexes
