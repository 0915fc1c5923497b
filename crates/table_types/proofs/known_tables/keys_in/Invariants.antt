use Rattle.std.proofs.Common.{◌≡◌, ◌≤◌, drop}
use Rattle.typing.specs.Finding.{each}
use Rattle.type_rules.proofs.FindsLemmas.{after}
use Rattle.table_types.specs.ForeignKeys.{element_keys}
use Rattle.table_types.specs.Tables.{parts_from}
use Rattle.table_types.proofs.known_tables.keys_in.Given as goal

-- the keys so far, and then those of the elements that are left, are all
abbrev pub invariant-loop-element : goal.invariant-loop-element
invariant-loop-element l = record {
  rest : after l.keys (each (parts_from (element_keys l.definitions) l.place (drop l.element-index l.elements))) ≡ each (parts_from (element_keys l.definitions) 0 l.elements);
  places : l.place ≤ l.element-index;
}
