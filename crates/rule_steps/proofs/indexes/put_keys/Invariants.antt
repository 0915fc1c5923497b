use Rattle.std.proofs.Common.{◌≡◌, ◌++◌, drop}
use Rattle.std.specs.Prelude.{filter}
use Rattle.rules.specs.Indexes.{is_key}
use Rattle.rule_steps.proofs.indexes.put_keys.Given as goal

-- those before this one are put
abbrev pub invariant-loop-columns : goal.invariant-loop-columns
invariant-loop-columns l =
    l.list ++ filter (is_key l.key) (drop l.columns-index l.indexes) ≡ l.fn.list ++ filter (is_key l.key) l.indexes
