use Rattle.std.proofs.Common.{◌≡◌, ◌≤◌, drop}
use Rattle.typing.specs.Finding.{each}
use Rattle.typing.specs.Known.{known}
use Rattle.type_rules.proofs.FindsLemmas.{after}
use Rattle.table_types.specs.Checks.{without_key}
use Rattle.table_types.specs.ForeignKeys.{referencing_of}
use Rattle.table_types.specs.Tables.{rules_from}
use Rattle.table_types.proofs.rules.rules_in.Given as goal

-- the rules so far, and then those of the elements that are left, are all
abbrev pub invariant-loop-element : goal.invariant-loop-element
invariant-loop-element l = record {
  rest : after l.rules (each (rules_from (without_key l.frame) (referencing_of (known l.schema) l.tree l.definitions) l.definitions l.place (drop l.element-index l.tree.elements)))
      ≡ each (rules_from (without_key l.frame) (referencing_of (known l.schema) l.tree l.definitions) l.definitions 0 l.tree.elements);
  places : l.place ≤ l.element-index;
}
