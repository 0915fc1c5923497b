-- Worked changes of rows: a statement, a table, and what becomes of it.
use Rattle.std.proofs.Common.{◌≡◌, refl, ℕ, false, List, [], ◌∷◌, map, Option, Some, None}
use Rattle.std.specs.FinMap.{insert}
use Rattle.sqlval.specs.declared.value.Value.{Value}
use Rattle.sqlval.specs.declared.value.Value.TheVariants.{Null, Text}
use Rattle.sqlval.specs.declared.schema.Constraint.{Constraint}
use Rattle.sqlval.specs.declared.schema.Rule.TheVariants.{NotNull, PrimaryKey, Unique, Check}
use Rattle.sqlval.specs.declared.storing.ColumnType.TheVariants.{Varchar}
use Rattle.sqlval.specs.Value.{Row}
use Rattle.typing.specs.declared.typed.Expression.{Expression}
use Rattle.typing.specs.declared.typed.Expression.TheVariants as e
use Rattle.typing.specs.declared.typed.Condition.{Condition}
use Rattle.typing.specs.declared.typed.Condition.TheVariants as c
use Rattle.typing.specs.declared.typed.Query.{Query}
use Rattle.typing.specs.declared.typed.SetFunction.TheVariants as s
use Rattle.typing.specs.declared.typed.SetFunctionType.TheVariants.{Sum, Min}
use Rattle.typing.specs.declared.statement.Assignment.{Assignment}
use Rattle.typing.specs.declared.statement.Change.TheVariants as does
use Rattle.typing.specs.declared.statement.Insert.{Insert}
use Rattle.typing.specs.declared.statement.InsertSource.TheVariants as from
use Rattle.typing.specs.declared.statement.Update.{Update}
use Rattle.typing.specs.declared.statement.Delete.{Delete}
use Rattle.denote.specs.declared.fault.Fault.TheVariants.{TextTooLong, DivisionByZero, OutOfRange, ManyRows}
use Rattle.denote.specs.Outcome.{through}
use Rattle.denote.specs.Expression.{scalar}
use Rattle.denote.specs.Database.{Database, Table, CheckReading, violated_by}
use Rattle.denote.specs.Change.{Changed, Raises, insert_into, update_in, delete_from, changed}
use Rattle.denote.proofs.Nodes.{meanings}
use Rattle.denote.proofs.ExampleTrees.{number, minus_one, greatest, literal, at, plus, minus, divided, equals, differs, exceeds, items, select, grouped, t, from_t, column_of, table, one_integer, two_integers, numbered, lettered, no_check, found, makes}

-- ---- INSERT

abbrev inserting : List Value → Insert
inserting values = record { table = t; columns = 0 ∷ []; source = from.Values (map (λ x. e.Constant x ∷ []) values) }

-- CHECK (A > 0)
abbrev positive : CheckReading
positive name columns text = exceeds (at 0) (literal 0)

-- T (A VARCHAR(3)) is empty: INSERT INTO T VALUES ('abc  ')
pub spaces_are_cut : (db : Database) →
    insert_into no_check db (inserting (Text (97 ∷ 98 ∷ 99 ∷ 32 ∷ 32 ∷ []) ∷ [])) (table (Varchar 3 ∷ []) [] [])
    ≡ makes no_check db (table (Varchar 3 ∷ []) [] (column_of (Text (97 ∷ 98 ∷ 99 ∷ []) ∷ []))) 1
spaces_are_cut db = simp meanings

-- INSERT INTO T VALUES ('abcd')
pub letters_are_not_cut : (db : Database) →
    insert_into no_check db (inserting (Text (97 ∷ 98 ∷ 99 ∷ 100 ∷ []) ∷ [])) (table (Varchar 3 ∷ []) [] []) ≡ Raises (TextTooLong ∷ [])
letters_are_not_cut db = simp meanings

abbrev unique_and_check : List Constraint
unique_and_check = numbered 1 (Unique (0 ∷ [])) ∷ lettered 80 (Check []) ∷ []

-- T (A UNIQUE, CONSTRAINT P CHECK (A > 0)) with these values
abbrev checked : List Value → Table
checked values = table one_integer unique_and_check (column_of values)

-- T has NULL: INSERT INTO T VALUES (NULL)
pub nulls_are_not_equal : (db : Database) → insert_into positive db (inserting (Null ∷ [])) (checked (Null ∷ [])) ≡ makes positive db (checked (Null ∷ Null ∷ [])) 1
nulls_are_not_equal db = simp meanings

-- T has NULL, NULL and 7: INSERT INTO T VALUES (8), (-1)
pub a_false_check_is_violated : (db : Database) → insert_into positive db (inserting (number 8 ∷ minus_one ∷ [])) (checked (Null ∷ Null ∷ number 7 ∷ [])) ≡ makes positive db (checked (Null ∷ Null ∷ number 7 ∷ number 8 ∷ minus_one ∷ [])) 2
a_false_check_is_violated db = simp meanings

pub that_check_is_named : violated_by positive t (checked (Null ∷ Null ∷ number 7 ∷ number 8 ∷ minus_one ∷ [])) ≡ (80 ∷ []) ∷ []
that_check_is_named = simp meanings

-- T has NULL and 7: INSERT INTO T VALUES (7)
pub equal_values_violate_unique : (db : Database) → insert_into positive db (inserting (number 7 ∷ [])) (checked (Null ∷ number 7 ∷ [])) ≡ makes positive db (checked (Null ∷ number 7 ∷ number 7 ∷ [])) 1
equal_values_violate_unique db = simp meanings

pub that_unique_is_named : violated_by positive t (checked (Null ∷ number 7 ∷ number 7 ∷ [])) ≡ (35 ∷ 49 ∷ []) ∷ []
that_unique_is_named = simp meanings

abbrev pair : Value → Value → Row
pair x y = x ∷ y ∷ []

-- T (A, B) is empty: INSERT INTO T (B) VALUES (5)
pub unnamed_columns_get_null : (db : Database) →
    insert_into no_check db (record { table = t; columns = 1 ∷ []; source = from.Values ((literal 5 ∷ []) ∷ []) }) (table two_integers [] [])
    ≡ makes no_check db (table two_integers [] (pair Null (number 5) ∷ [])) 1
unnamed_columns_get_null db = simp meanings

-- T (A, B) is empty: INSERT INTO T (B, A) VALUES (1, 2)
pub sources_go_to_their_columns : (db : Database) →
    insert_into no_check db (record { table = t; columns = 1 ∷ 0 ∷ []; source = from.Values ((literal 1 ∷ literal 2 ∷ []) ∷ []) }) (table two_integers [] [])
    ≡ makes no_check db (table two_integers [] (pair (number 2) (number 1) ∷ [])) 1
sources_go_to_their_columns db = simp meanings

-- T (A) with these values, in a database
abbrev with_values : Database → List Value → Database
with_values db values = insert db t (table one_integer [] (column_of values))

abbrev one_and_two : List Value
one_and_two = number 1 ∷ number 2 ∷ []

-- T has 1 and 2: INSERT INTO T query
abbrev inserting_query : Database → Query → Changed
inserting_query db query = changed no_check (with_values db one_and_two) (does.Insert (record { table = t; columns = 0 ∷ []; source = from.Query query }))

-- INSERT INTO T SELECT A + 10 FROM T
pub a_query_sees_the_table_before : (db : Database) →
    inserting_query db (select (items (plus (at 0) (literal 10) ∷ [])) from_t None)
    ≡ makes no_check (with_values db one_and_two) (table one_integer [] (column_of (number 1 ∷ number 2 ∷ number 11 ∷ number 12 ∷ []))) 2
unfolding through
a_query_sees_the_table_before db = simp (meanings, found)

-- INSERT INTO T SELECT A FROM T WHERE A > 100
pub a_query_of_no_row_inserts_none : (db : Database) →
    inserting_query db (select (items (at 0 ∷ [])) from_t (Some (exceeds (at 0) (literal 100))))
    ≡ makes no_check (with_values db one_and_two) (table one_integer [] (column_of one_and_two)) 0
unfolding through
a_query_of_no_row_inserts_none db = simp (meanings, found)

-- INSERT INTO T SELECT 10 / (A - 1) FROM T
pub a_fault_of_a_query_inserts_none : (db : Database) →
    inserting_query db (select (items (divided (literal 10) (minus (at 0) (literal 1)) ∷ [])) from_t None) ≡ Raises (DivisionByZero ∷ [])
unfolding through
a_fault_of_a_query_inserts_none db = simp (meanings, found)

-- T (A VARCHAR(3), B) has ('a', 0) and ('b', 1): INSERT INTO T (A) SELECT A || 'bcd' FROM T WHERE 1
-- / B > 0
pub faults_of_a_query_and_of_storing : (db : Database) →
    changed no_check (insert db t (table (Varchar 3 ∷ one_integer) [] (pair (Text (97 ∷ [])) (number 0) ∷ pair (Text (98 ∷ [])) (number 1) ∷ [])))
    (does.Insert (record {
      table = t;
      columns = 0 ∷ [];
      source = from.Query (select (items (e.Concatenation (at 0) (e.Constant (Text (98 ∷ 99 ∷ 100 ∷ [])) ∷ []) ∷ [])) from_t (Some (exceeds (divided (literal 1) (at 1)) (literal 0))));
    }))
    ≡ Raises (DivisionByZero ∷ TextTooLong ∷ [])
unfolding through
faults_of_a_query_and_of_storing db = simp (meanings, found)

-- ---- UPDATE

abbrev assign : ℕ → Expression → Assignment
assign column source = record { column = column; source = source }

abbrev updating : List Assignment → Option Condition → Update
updating assignments filter = record { table = t; assignments = assignments; filter = filter }

abbrev key : List Constraint
key = numbered 1 (PrimaryKey (0 ∷ [])) ∷ []

-- T (A PRIMARY KEY) has 1 and 2: UPDATE T SET A = source WHERE filter
abbrev update_of_keys : Database → Expression → Option Condition → Changed
update_of_keys db source filter = update_in no_check db (updating (assign 0 source ∷ []) filter) (table one_integer key (column_of one_and_two))

-- UPDATE T SET A = A + 1
pub key_is_checked_after_all_rows : (db : Database) →
    update_of_keys db (plus (at 0) (literal 1)) None ≡ makes no_check db (table one_integer key (column_of (number 2 ∷ number 3 ∷ []))) 2
key_is_checked_after_all_rows db = simp meanings

-- UPDATE T SET A = 3 - A
pub keys_are_exchanged : (db : Database) →
    update_of_keys db (minus (literal 3) (at 0)) None ≡ makes no_check db (table one_integer key (column_of (number 2 ∷ number 1 ∷ []))) 2
keys_are_exchanged db = simp meanings

-- UPDATE T SET A = 3 - A WHERE A = 1
pub equal_keys_are_violated : (db : Database) → update_of_keys db (minus (literal 3) (at 0)) (Some (equals (at 0) (literal 1))) ≡ makes no_check db (table one_integer key (column_of (number 2 ∷ number 2 ∷ []))) 1
equal_keys_are_violated db = simp meanings

pub that_key_is_named : violated_by no_check t (table one_integer key (column_of (number 2 ∷ number 2 ∷ []))) ≡ (35 ∷ 49 ∷ []) ∷ []
that_key_is_named = refl

-- UPDATE T SET A = NULL
pub null_violates_a_key : (db : Database) → update_of_keys db (e.Constant Null) None ≡ makes no_check db (table one_integer key (column_of (Null ∷ Null ∷ []))) 2
null_violates_a_key db = simp meanings

-- UPDATE T SET A = A + 9223372036854775806
pub a_fault_comes_before_constraints : (db : Database) → update_of_keys db (plus (at 0) (e.Constant (number 9223372036854775806))) None ≡ Raises (OutOfRange ∷ [])
a_fault_comes_before_constraints db = simp meanings

-- T (A PRIMARY KEY, B) has (1, 2) and (2, 1): UPDATE T SET A = B, B = A
pub sources_see_the_row_before : (db : Database) →
    update_in no_check db (updating (assign 0 (at 1) ∷ assign 1 (at 0) ∷ []) None) (table two_integers key (pair (number 1) (number 2) ∷ pair (number 2) (number 1) ∷ []))
    ≡ makes no_check db (table two_integers key (pair (number 2) (number 1) ∷ pair (number 1) (number 2) ∷ [])) 2
sources_see_the_row_before db = simp meanings

-- T (A, B) has (1, 0) and (7, 5): UPDATE T SET A = 10 / B WHERE filter
abbrev update_to_quotients : Database → Option Condition → Changed
update_to_quotients db filter =
    update_in no_check db (updating (assign 0 (divided (literal 10) (at 1)) ∷ []) filter) (table two_integers [] (pair (number 1) (number 0) ∷ pair (number 7) (number 5) ∷ []))

-- UPDATE T SET A = 10 / B
pub a_fault_in_one_row_changes_none : (db : Database) → update_to_quotients db None ≡ Raises (DivisionByZero ∷ [])
a_fault_in_one_row_changes_none db = simp meanings

-- UPDATE T SET A = 10 / B WHERE B <> 0
pub sources_see_touched_rows_alone : (db : Database) →
    update_to_quotients db (Some (differs (at 1) (literal 0)))
    ≡ makes no_check db (table two_integers [] (pair (number 1) (number 0) ∷ pair (number 2) (number 5) ∷ [])) 1
sources_see_touched_rows_alone db = simp meanings

-- T (A, B) has (0, 1) and (1, 9223372036854775807): UPDATE T SET B = B + 1 WHERE 1 / A > 0
pub faults_of_all_rows : (db : Database) →
    update_in no_check db (updating (assign 1 (plus (at 1) (literal 1)) ∷ []) (Some (exceeds (divided (literal 1) (at 0)) (literal 0))))
    (table two_integers [] (pair (number 0) (number 1) ∷ pair (number 1) greatest ∷ []))
    ≡ Raises (DivisionByZero ∷ OutOfRange ∷ [])
faults_of_all_rows db = simp meanings

-- T (A, B) is empty: UPDATE T SET A = 1 / 0
pub nothing_is_evaluated_without_rows : (db : Database) →
    update_in no_check db (updating (assign 0 (divided (literal 1) (literal 0)) ∷ []) None) (table two_integers [] []) ≡ makes no_check db (table two_integers [] []) 0
nothing_is_evaluated_without_rows db = refl

-- T (A NOT NULL, B) has (1, 0), (2, 0) and (3, 0)
abbrev three_rows : Table
three_rows = table two_integers (numbered 1 (NotNull 0) ∷ []) (pair (number 1) (number 0) ∷ pair (number 2) (number 0) ∷ pair (number 3) (number 0) ∷ [])

-- UPDATE T SET assignments
abbrev update_of_three : Database → List Assignment → Changed
update_of_three db assignments = changed no_check (insert db t three_rows) (does.Update (updating assignments None))

-- (SELECT A FROM T WHERE filter)
abbrev some_of_t : Option Condition → Expression
some_of_t filter = e.Scalar (select (items (at 0 ∷ [])) from_t filter)

-- UPDATE T SET B = (SELECT SUM(A) FROM T), A = A + 1
pub subqueries_see_the_table_before : (db : Database) →
    update_of_three db (assign 1 (e.Scalar (grouped (items (at 0 ∷ [])) from_t None (s.Over Sum false (at 0) ∷ []))) ∷ assign 0 (plus (at 0) (literal 1)) ∷ [])
    ≡ makes no_check (insert db t three_rows) (table two_integers (numbered 1 (NotNull 0) ∷ []) (pair (number 2) (number 6) ∷ pair (number 3) (number 6) ∷ pair (number 4) (number 6) ∷ [])) 3
unfolding through scalar
subqueries_see_the_table_before db = simp (meanings, found)

-- UPDATE T SET A = (SELECT A FROM T WHERE A > 100)
pub null_violates_not_null : (db : Database) → update_of_three db (assign 0 (some_of_t (Some (exceeds (at 0) (literal 100)))) ∷ [])
    ≡ makes no_check (insert db t three_rows) (table two_integers (numbered 1 (NotNull 0) ∷ []) (pair Null (number 0) ∷ pair Null (number 0) ∷ pair Null (number 0) ∷ [])) 3
unfolding through scalar
null_violates_not_null db = simp (meanings, found)

-- UPDATE T SET A = (SELECT A FROM T)
pub many_rows_in_a_source : (db : Database) → update_of_three db (assign 0 (some_of_t None) ∷ []) ≡ Raises (ManyRows ∷ ManyRows ∷ ManyRows ∷ [])
unfolding through scalar
many_rows_in_a_source db = simp (meanings, found)

-- ---- DELETE

abbrev deleting : Option Condition → Delete
deleting filter = record { table = t; filter = filter }

-- T (A) has 9, 1 and -1: DELETE FROM T WHERE A = -1
pub deletes_what_is_true : (db : Database) →
    delete_from no_check db (deleting (Some (equals (at 0) (e.Constant minus_one)))) (table one_integer [] (column_of (number 9 ∷ number 1 ∷ minus_one ∷ [])))
    ≡ makes no_check db (table one_integer [] (column_of (number 9 ∷ number 1 ∷ []))) 1
deletes_what_is_true db = simp meanings

-- T (A, B) has (1, 0), (2, 1), (3, NULL) and (4, 4)
abbrev four_rows : Table
four_rows = table two_integers [] (pair (number 1) (number 0) ∷ pair (number 2) (number 1) ∷ pair (number 3) Null ∷ pair (number 4) (number 4) ∷ [])

-- 10 / B > 5
abbrev quotient_exceeds : Condition
quotient_exceeds = exceeds (divided (literal 10) (at 1)) (literal 5)

-- DELETE FROM T WHERE 10 / B > 5
pub a_fault_deletes_none : (db : Database) → delete_from no_check db (deleting (Some quotient_exceeds)) four_rows ≡ Raises (DivisionByZero ∷ [])
a_fault_deletes_none db = simp meanings

-- DELETE FROM T WHERE B <> 0 AND 10 / B > 5
pub unknown_is_not_deleted : (db : Database) →
    delete_from no_check db (deleting (Some (c.And (differs (at 1) (literal 0) ∷ quotient_exceeds ∷ [])))) four_rows
    ≡ makes no_check db (table two_integers [] (pair (number 1) (number 0) ∷ pair (number 3) Null ∷ pair (number 4) (number 4) ∷ [])) 1
unknown_is_not_deleted db = simp meanings

-- DELETE FROM T
pub all_rows_are_deleted : (db : Database) → delete_from no_check db (deleting None) four_rows ≡ makes no_check db (table two_integers [] []) 4
all_rows_are_deleted db = refl

-- DELETE FROM T WHERE A = (SELECT MIN(A) FROM T)
pub filter_sees_the_table_before : (db : Database) →
    changed no_check (insert db t four_rows) (does.Delete (deleting (Some (equals (at 0) (e.Scalar (grouped (items (at 0 ∷ [])) from_t None (s.Over Min false (at 0) ∷ [])))))))
    ≡ makes no_check (insert db t four_rows) (table two_integers [] (pair (number 2) (number 1) ∷ pair (number 3) Null ∷ pair (number 4) (number 4) ∷ [])) 1
unfolding through scalar
filter_sees_the_table_before db = simp (meanings, found)
