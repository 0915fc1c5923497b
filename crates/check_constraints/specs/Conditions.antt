-- The conditions of the CHECKs of a table, as a reading of their kept texts gives them (ISO/IEC
-- 9075:1992, 11.9).
use Rattle.std.specs.Prelude.{ℕ, List, map}
use Rattle.std.specs.List.{All, filter_map}
use Rattle.sqlval.specs.declared.schema.Column.{Column}
use Rattle.sqlval.specs.declared.schema.Constraint.{Constraint}
use Rattle.typing.specs.declared.typed.Condition.{Condition}
use Rattle.typing.specs.Check.{ReadsCheck}
use Rattle.typing.specs.Kept.{kept_texts}
use Rattle.algebra.specs.declared.tree.Condition.{Condition as Tree}
use Rattle.denote.specs.Database.{CheckReading, Name, is_check}
use Rattle.query_answers.specs.Sources.{AreChecksOf}

-- in the order of the constraints
abbrev pub conditions_of : CheckReading → Name → List Column → List Constraint → List Condition
conditions_of reading name columns constraints = map (reading name columns) (filter_map (λ k. is_check k.rule) constraints)

-- these are trees of some conditions
abbrev pub AreOfSome : List Tree → Type 0
AreOfSome trees = (conditions : List Condition) × AreChecksOf conditions trees

-- the text stands for some condition of the rows of the table with this name and these columns
abbrev pub Stands : Name → List Column → List ℕ → Type 0
Stands name columns text = (condition : Condition) × ReadsCheck name columns text condition

-- so does the text of each CHECK among these constraints
abbrev pub AllStand : Name → List Column → List Constraint → Type 0
AllStand name columns constraints = All (Stands name columns) (kept_texts constraints)
