use Rattle.std.proofs.Common.{◌≡◌, drop, map}
use Rattle.typing.specs.Finding.{each}
use Rattle.typing.specs.Known.{known}
use Rattle.type_rules.proofs.FindsLemmas.{after}
use Rattle.table_types.specs.Checks.{without_key}
use Rattle.table_types.specs.ForeignKeys.{referencing_of}
use Rattle.table_types.specs.Tables.{column_rule_of}
use Rattle.table_types.proofs.rules.column_rules.Given as goal

-- those so far, and then those that are left, are all
abbrev pub invariant-loop-constraint : goal.invariant-loop-constraint
invariant-loop-constraint l = after l.rules (each (map (λ c. column_rule_of (without_key l.frame) (referencing_of (known l.schema) l.tree l.definitions) l.place c.rule) (drop l.constraint-index l.constraints)))
    ≡ each (map (λ c. column_rule_of (without_key l.frame) (referencing_of (known l.schema) l.tree l.definitions) l.place c.rule) l.constraints)
