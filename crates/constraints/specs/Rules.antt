-- The constraints that a table violates: its CHECKs, and the others (ISO/IEC 9075:1992, 11.4, 11.7;
-- that PRIMARY KEY is UNIQUE and NOT NULL in one is our own choice).
use Rattle.std.specs.Prelude.{Bool, true, false, ◌&&◌, ◌||◌, List, [], ◌∷◌, map, filter}
use Rattle.std.specs.List.{list_any}
use Rattle.sqlval.specs.declared.schema.Constraint.{Constraint}
use Rattle.sqlval.specs.declared.schema.Rule.{Rule}
use Rattle.sqlval.specs.declared.schema.Rule.TheVariants.{NotNull, PrimaryKey, Unique, Check, ForeignKey}
use Rattle.sqlval.specs.Value.{Row}
use Rattle.denote.specs.Database.{Name, Table, CheckReading, has_null, has_twins, is_violated}

-- whether these rows violate a rule that a table decides alone and that is no CHECK
abbrev pub breaks_rule : List Row → Rule → Bool
breaks_rule rows (NotNull column) = has_null (column ∷ []) rows
breaks_rule rows (PrimaryKey columns) = has_null columns rows || has_twins columns rows
breaks_rule rows (Unique columns) = has_twins columns rows
breaks_rule rows (Check text) = false
breaks_rule rows (ForeignKey reference) = false

-- the names of the constraints that these rows violate, but for CHECKs
abbrev pub broken : List Constraint → List Row → List Name
broken constraints rows = map (λ c. c.name) (filter (λ c. breaks_rule rows c.rule) constraints)

abbrev pub is_check_rule : Rule → Bool
is_check_rule (NotNull column) = false
is_check_rule (PrimaryKey columns) = false
is_check_rule (Unique columns) = false
is_check_rule (Check text) = true
is_check_rule (ForeignKey reference) = false

abbrev pub has_checks : List Constraint → Bool
has_checks = list_any (λ c. is_check_rule c.rule)

-- the names of the CHECKs that a table violates
abbrev pub broken_checks : CheckReading → Name → Table → List Name
broken_checks reading name table = map (λ c. c.name) (filter (λ c. is_check_rule c.rule && is_violated reading name table c.rule) table.constraints)
