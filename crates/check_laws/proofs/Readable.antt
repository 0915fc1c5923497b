-- The CHECKs that a CREATE TABLE keeps can be read.
use Rattle.std.proofs.Common.{◌≡◌, refl, ap, sym, ◌∙◌, subst, ℕ, List, [], ◌∷◌, ◌++◌, map, Some, Ok, append_assoc, arith}
use Rattle.std.specs.Prelude.{flat_map, get_or}
use Rattle.std.specs.List.{All, Contains}
use Rattle.std.proofs.lemmas.List.{map-append}
use Rattle.std.proofs.lemmas.List.Elements.{All-nil, All-cons, All-map, All-weaker, Contains-append_right}
use Rattle.lexer.specs.Printing.{HasKinds}
use Rattle.ast.specs.declared.statement.ColumnConstraint.{ColumnConstraint}
use Rattle.ast.specs.declared.statement.ColumnRule.{ColumnRule}
use Rattle.ast.specs.declared.statement.ColumnRule.TheVariants as column_rule
use Rattle.ast.specs.declared.statement.CreateTable.{CreateTable as Tree}
use Rattle.ast.specs.declared.statement.Statement.{Statement}
use Rattle.ast.specs.declared.statement.Statement.TheVariants as statement
use Rattle.ast.specs.declared.statement.TableElement.{TableElement}
use Rattle.ast.specs.declared.statement.TableElement.TheVariants as element
use Rattle.ast.specs.declared.statement.TableRule.{TableRule}
use Rattle.ast.specs.declared.statement.TableRule.TheVariants as table_rule
use Rattle.ast.specs.declared.tree.Condition.{Condition}
use Rattle.ast.specs.Grammar.{IsText}
use Rattle.ast.specs.Nesting.{IsNestedWithin}
use Rattle.ast.specs.Notation.{Tokens}
use Rattle.ast.specs.Parts as part
use Rattle.typing.specs.declared.statement.CreateTable.{CreateTable}
use Rattle.typing.specs.Kept.{AreChecksKept, IsKept, checks_of, column_checks, element_checks, table_checks}
use Rattle.typing.specs.Printed.{condition_tokens, printed}
use Rattle.typing.proofs.ChecksStand.{Stands, table_checks_stand}
use Rattle.typing.proofs.KeptTexts.{again}
use Rattle.check_laws.proofs.Spelled.{spelled_again}
use Rattle.denote.specs.Database.{IsReadable, AreReadable}

-- what stands in a statement nests no deeper than it does
abbrev pub NestsInside : Type 0
NestsInside = (x : Condition) (y : Statement) (kinds : Tokens) → IsNestedWithin 64 kinds → IsText (Some 64) kinds y → part.StandsIn x y → IsNestedWithin 64 (condition_tokens x)

-- ---- the CHECKs of a CREATE TABLE are its parts

column_parts : (x : ColumnRule) → part.column_rule_parts x ≡ map part.condition (column_checks x)
column_parts column_rule.NotNull = refl
column_parts column_rule.PrimaryKey = refl
column_parts column_rule.Unique = refl
column_parts (column_rule.Check x) = refl
column_parts (column_rule.References x) = refl

table_parts : (x : TableRule) → part.table_rule_parts x ≡ map part.condition (table_checks x)
table_parts (table_rule.PrimaryKey x) = refl
table_parts (table_rule.Unique x) = refl
table_parts (table_rule.Check x) = refl
table_parts (table_rule.ForeignKey x) = refl

columns_parts : (xs : List ColumnConstraint) → flat_map (λ c. part.column_rule_parts c.rule) xs ≡ map part.condition (flat_map (λ c. column_checks c.rule) xs)
columns_parts [] = refl
columns_parts (x ∷ xs) =
    ap (λ l. l ++ flat_map (λ c. part.column_rule_parts c.rule) xs) (column_parts x.rule) ∙ ap (λ l. map part.condition (column_checks x.rule) ++ l) (columns_parts xs)
    ∙ sym (map-append part.condition (column_checks x.rule) (flat_map (λ c. column_checks c.rule) xs))

one_parts : (x : TableElement) → part.element_parts x ≡ map part.condition (element_checks x)
one_parts (element.Column x) = columns_parts x.constraints
one_parts (element.Constraint x) = table_parts x.rule

elements_parts : (xs : List TableElement) → flat_map part.element_parts xs ≡ map part.condition (checks_of xs)
elements_parts [] = refl
elements_parts (x ∷ xs) =
    ap (λ l. l ++ flat_map part.element_parts xs) (one_parts x) ∙ ap (λ l. map part.condition (element_checks x) ++ l) (elements_parts xs)
    ∙ sym (map-append part.condition (element_checks x) (checks_of xs))

in_mapped : {A B : Type 0} (f : A → B) (xs : List A) → All (λ x. Contains (map f xs) (f x)) xs
in_mapped f [] = All-nil (λ x. Contains (map f []) (f x))
in_mapped f (x ∷ xs) =
    All-cons (λ y. Contains (map f (x ∷ xs)) (f y)) x xs (0, omega arith, refl)
    (All-weaker (λ y. Contains (map f xs) (f y)) (λ y. Contains (map f (x ∷ xs)) (f y)) (λ y h. Contains-append_right (f x ∷ []) (map f xs) (f y) h) xs (in_mapped f xs))

-- each of them stands in the statement
inside : (tree : Tree) → All (λ x. part.StandsIn x (statement.CreateTable tree)) (checks_of tree.elements)
inside tree =
    All-weaker (λ x. Contains (map part.condition (checks_of tree.elements)) (part.condition x)) (λ x. part.StandsIn x (statement.CreateTable tree))
    (λ x h. part.deeper (subst (λ nodes. Contains nodes (part.condition x)) (sym (elements_parts tree.elements)) h) part.itself)
    (checks_of tree.elements) (in_mapped part.condition (checks_of tree.elements))

-- ---- what is kept of them

-- A condition that stands in the text, nests within the limit and is found, can be read from what
-- is printed of it.
readable : (text : List ℕ) (kinds : Tokens) (table : CreateTable) (x : Condition) → HasKinds text kinds → Stands (Some 64) kinds x → IsNestedWithin 64 (condition_tokens x)
    → IsKept table x → IsReadable table.name table.columns (printed x)
readable text kinds table x spelled s nested kept = record {
  condition = kept.condition;
  reads = record {
    kinds = condition_tokens x;
    tree = x;
    spelled = spelled_again text kinds x spelled s;
    parsed = again (Some 64) s.depth s.from s.rest x s.condition;
    found = kept.found;
  };
  nested = nested;
}

-- The texts that are kept of the CHECKs of a statement whose tokens nest within the limit can be
-- read.
pub kept_readable : NestsInside → (tree : Tree) (table : CreateTable) (text : List ℕ) (kinds : Tokens) → HasKinds text kinds → IsNestedWithin 64 kinds
    → IsText (Some 64) kinds (statement.CreateTable tree) → AreChecksKept tree table → AreReadable table.name table.columns table.constraints
kept_readable nests tree table text kinds spelled nested parsed keeps =
    let there = table_checks_stand (Some 64) parsed.depth kinds tree parsed.rest parsed.statement in
    subst (All (IsReadable table.name table.columns)) (sym keeps.texts)
    (All-map (IsReadable table.name table.columns) printed (checks_of tree.elements)
    (λ k d lt. readable text kinds table (get_or (checks_of tree.elements) k d) spelled (there k d lt)
    (nests (get_or (checks_of tree.elements) k d) (statement.CreateTable tree) kinds nested parsed (inside tree k d lt)) (keeps.each k d lt)))
