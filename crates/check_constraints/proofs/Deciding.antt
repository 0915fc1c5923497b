-- The CHECKs that are false at rows, by their trees and by their conditions.
use Rattle.std.proofs.Common.{◌≡◌, ◌∙◌, refl, sym, ap, subst, ℕ, suc, ◌+◌, ◌<◌, ◌≤◌, add-one, Bool, true, false, cond, ◌&&◌, ◌||◌, List, [], ◌∷◌, map, length, get_or, drop, drop-cons, Option, Some, None, Ok, Err, Contains, arith}
use Rattle.std.proofs.lemmas.List.{drop_all}
use Rattle.std.specs.Prelude.{filter}
use Rattle.std.specs.List.{list_any, filter_map}
use Rattle.sqlval.specs.declared.schema.Constraint.{Constraint}
use Rattle.sqlval.specs.declared.schema.Schema.{Schema}
use Rattle.sqlval.specs.declared.schema.Table as stored
use Rattle.sqlval.specs.Schema.{table_place}
use Rattle.algebra.specs.Described.{described_in, known_of, table_at}
use Rattle.sqlval.specs.declared.schema.Rule.{Rule}
use Rattle.sqlval.specs.declared.schema.Rule.TheVariants as rule
use Rattle.sqlval.specs.declared.truth.Truth.{Truth}
use Rattle.sqlval.specs.Value.{Row}
use Rattle.typing.specs.declared.typed.Condition as typed
use Rattle.algebra.specs.declared.tree.Condition.{Condition}
use Rattle.algebra.specs.declared.tree.StoredTable.{StoredTable}
use Rattle.algebra.specs.Listing.{truth_listing}
use Rattle.algebra.specs.Translated.{tree_of_condition}
use Rattle.algebra_laws.specs.Shown.{Shows, ShowsAt}
use Rattle.denote.specs.Database.{Name, Table, CheckReading, check_at, is_check, is_false, is_violated}
use Rattle.denote.specs.Evaluation.{Evaluation}
use Rattle.denote.specs.Meaning.{Tables, truth_at}
use Rattle.constraints.specs.Rules.{is_check_rule, broken_checks}
use Rattle.query_answers.specs.Sources.{AreChecksOf, check_truth}
use Rattle.check_constraints.specs.Conditions.{conditions_of}

-- the law of evaluations, as its call says
abbrev pub TruthsShow : Type 0
TruthsShow = (described : List ℕ → StoredTable) → ((name : List ℕ) → (described name).name ≡ name) → (tables : Tables) (condition : typed.Condition)
    → ShowsAt (truth_listing tables (tree_of_condition described condition)) (truth_at tables condition)

-- ---- the names, by a walk over constraints and trees

abbrev pub named_if : Bool → Name → List Name → List Name
named_if true name names = name ∷ names
named_if false name names = names

-- a constraint that is a CHECK has the next tree
abbrev pub with_tree : List Row → Bool → Name → List Condition → (List Condition → List Name) → List Name
with_tree rows false name conditions later = later conditions
with_tree rows true name [] later = []
with_tree rows true name (c ∷ cs) later = named_if (list_any (λ (row : Row). is_false (check_truth row c)) rows) name (later cs)

-- the names of the CHECKs whose trees are false at some row
abbrev pub false_checks : List Row → List Constraint → List Condition → List Name
false_checks rows [] conditions = []
false_checks rows (k ∷ ks) conditions = with_tree rows (is_check_rule k.rule) k.name conditions (λ cs. false_checks rows ks cs)

-- ---- a condition and its tree

same_false : (x y : Evaluation Truth) → Shows x y → is_false x ≡ is_false y
same_false (Ok x) (Ok y) e = ap (λ (t : Truth). is_false (Ok t)) e
same_false (Ok x) (Err faults) e = absurd e
same_false (Err faults) (Ok y) e = absurd e
same_false (Err faults) (Err others) e = refl

module _ (shows : TruthsShow) (described : List ℕ → StoredTable) (names : (name : List ℕ) → (described name).name ≡ name) (reading : CheckReading) (name : Name) (u : Table) where
  at_rows : (c : typed.Condition) → list_any (λ (row : Row). is_false (check_truth row (tree_of_condition described c))) u.rows ≡ list_any (λ (row : Row). is_false (check_at c row)) u.rows
  at_rows c = λ i. list_any (λ (row : Row). same_false (check_truth row (tree_of_condition described c)) (check_at c row) (shows described names (λ _. []) c (row ∷ [])) i) u.rows

  broken : List Constraint → List Name
  broken ks = map (λ (k : Constraint). k.name) (filter (λ (k : Constraint). is_check_rule k.rule && is_violated reading name u k.rule) ks)

  trees : List Constraint → List Condition
  trees ks = map (tree_of_condition described) (conditions_of reading name u.columns ks)

  same_names : (ks : List Constraint) → false_checks u.rows ks (trees ks) ≡ broken ks
  unfolding broken trees
  same_names [] = refl
  same_names (k ∷ ks) = by k.name k.rule (same_names ks)
    where
      split : (b : Bool) (k : Constraint) (ks : List Constraint) → named_if b k.name (map (λ (k : Constraint). k.name) ks) ≡ map (λ (k : Constraint). k.name) (cond b (k ∷ ks) ks)
      split true k ks = refl
      split false k ks = refl

      by : (n : Name) (r : Rule) → false_checks u.rows ks (trees ks) ≡ broken ks → false_checks u.rows (record { name = n; rule = r } ∷ ks) (trees (record { name = n; rule = r } ∷ ks)) ≡ broken (record { name = n; rule = r } ∷ ks)
      by n (rule.NotNull column) h = h
      by n (rule.PrimaryKey columns) h = h
      by n (rule.Unique columns) h = h
      by n (rule.ForeignKey reference) h = h
      by n (rule.Check text) h =
          (λ i. named_if (at_rows (reading name u.columns text) i) n (h i))
          ∙ split (list_any (λ (row : Row). is_false (check_at (reading name u.columns text) row)) u.rows) (record { name = n; rule = rule.Check text })
          (filter (λ (k : Constraint). is_check_rule k.rule && is_violated reading name u k.rule) ks)

-- the trees find what the definition does
pub found_broken : TruthsShow → (reading : CheckReading) (name : Name) (u : Table) (conditions : List Condition) → AreChecksOf (conditions_of reading name u.columns u.constraints) conditions
    → false_checks u.rows u.constraints conditions ≡ broken_checks reading name u
unfolding broken trees
found_broken shows reading name u conditions h =
    ap (false_checks u.rows u.constraints) h.are ∙ same_names shows h.described h.names reading name u u.constraints

-- ---- at a CHECK that is false

pub first_named : (rows : List Row) (k : Constraint) (ks : List Constraint) (c : Condition) (cs : List Condition) (all : List Name) → false_checks rows (k ∷ ks) (c ∷ cs) ≡ all → is_check_rule k.rule ≡ true
    → list_any (λ (row : Row). is_false (check_truth row c)) rows ≡ true → Contains all k.name
first_named rows k ks c cs all e is false_there =
    let here : k.name ∷ false_checks rows ks cs ≡ all =
    (λ i. named_if (sym false_there i) k.name (false_checks rows ks cs)) ∙ (λ i. with_tree rows (sym is i) k.name (c ∷ cs) (λ cs. false_checks rows ks cs)) ∙ e in
    subst (λ (names : List Name). Contains names k.name) here (0, omega arith, refl)

-- ---- as the loops meet them

-- a row at which the test is true
pub row_here : (p : Row → Bool) (rows : List Row) (i : ℕ) (row : Row) → i < length rows → row ≡ get_or rows i row → p row ≡ true → list_any p (drop i rows) ≡ list_any p rows → true ≡ list_any p rows
row_here p rows i row below is e h =
    let split : drop i rows ≡ row ∷ drop (suc i) rows = drop-cons rows i row below ∙ ap (λ (x : Row). x ∷ drop (suc i) rows) (sym is) in
    (λ j. sym e j || list_any p (drop (suc i) rows)) ∙ sym (ap (list_any p) split) ∙ h

-- and one at which it is not
pub row_past : (p : Row → Bool) (rows : List Row) (i : ℕ) (row : Row) → i < length rows → row ≡ get_or rows i row → p row ≡ false → list_any p (drop i rows) ≡ list_any p rows
    → list_any p (drop (i + 1) rows) ≡ list_any p rows
row_past p rows i row below is e h =
    let split : drop i rows ≡ row ∷ drop (suc i) rows = drop-cons rows i row below ∙ ap (λ (x : Row). x ∷ drop (suc i) rows) (sym is) in
    rw add-one ((λ j. sym e j || list_any p (drop (suc i) rows)) ∙ sym (ap (list_any p) split) ∙ h)

module _ (shows : TruthsShow) (reading : CheckReading) (name : Name) (u : Table) (conditions left : List Condition) (i : ℕ) (are : AreChecksOf (conditions_of reading name u.columns u.constraints) conditions)
    (so_far : false_checks u.rows (drop i u.constraints) left ≡ false_checks u.rows u.constraints conditions) where
  -- the CHECK at which the walk stands is false at some row
  pub check_here : (k : Constraint) (c : Condition) (others : List Condition) → i < length u.constraints → k ≡ get_or u.constraints i k → left ≡ c ∷ others → is_check_rule k.rule ≡ true
      → list_any (λ (row : Row). is_false (check_truth row c)) u.rows ≡ true → Contains (broken_checks reading name u) k.name
  check_here k c others below is front check false_there =
      let split : drop i u.constraints ≡ k ∷ drop (suc i) u.constraints = drop-cons u.constraints i k below ∙ ap (λ (x : Constraint). x ∷ drop (suc i) u.constraints) (sym is) in
      first_named u.rows k (drop (suc i) u.constraints) c others (broken_checks reading name u)
      ((λ j. false_checks u.rows (sym split j) (sym front j)) ∙ so_far ∙ found_broken shows reading name u conditions are) check false_there

  -- the walk is at the end
  pub none_left : length u.constraints ≤ i → broken_checks reading name u ≡ []
  none_left past =
      sym (found_broken shows reading name u conditions are) ∙ sym so_far ∙ ap (λ (ks : List Constraint). false_checks u.rows ks left) (drop_all i u.constraints past)

-- what a schema knows of a table has the table's name
pub described_named : (schema : Schema) (name : List ℕ) → (described_in schema name).name ≡ name
described_named schema name = by (table_at schema (table_place name schema))
  where
    by : (table : Option stored.Table) → (known_of name table).name ≡ name
    by None = refl
    by (Some table) = refl
