-- The plans that read their tables themselves.
use Rattle.std.specs.Prelude.{◌≡◌, Bool, true, not, ◌&&◌, [], ◌∷◌}
use Rattle.std.specs.List.{list_any}
use Rattle.sqlval.specs.Schema.{same_name}
use Rattle.algebra.specs.declared.tree.Tree.{Tree}
use Rattle.streams.specs.Parts.{names_in_parts}
use Rattle.plan_listings.specs.Scans.{ScansTables}
use Rattle.tree_tables.specs.TablesRead.{Names}

-- no name comes twice
abbrev pub are_distinct : Names → Bool
are_distinct [] = true
are_distinct (name ∷ names) = not (list_any (λ other. same_name other name) names) && are_distinct names

-- It scans these tables, none of them twice, and what stands within its nodes names none.
pub record ReadsItself (plan : Tree) : Type 0 where
  pub names : Names
  pub scans : ScansTables plan names
  pub distinct : are_distinct names ≡ true
  pub parts : names_in_parts plan ≡ []
