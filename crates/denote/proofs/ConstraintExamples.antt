-- Worked changes of rows under several constraints and limits: a statement, a table, and what
-- becomes of it.
use Rattle.std.proofs.Common.{◌≡◌, refl, ℕ, List, [], ◌∷◌, Option, Some, None, replicate}
use Rattle.std.specs.FinMap.{insert}
use Rattle.sqlval.specs.declared.value.Value.{Value}
use Rattle.sqlval.specs.declared.value.Value.TheVariants.{Null, Text}
use Rattle.sqlval.specs.declared.schema.Rule.TheVariants.{NotNull, Unique, Check}
use Rattle.sqlval.specs.declared.storing.ColumnType.TheVariants.{Integer, Varchar}
use Rattle.sqlval.specs.Value.{Row}
use Rattle.typing.specs.declared.typed.Expression.{Expression}
use Rattle.typing.specs.declared.typed.Expression.TheVariants as e
use Rattle.typing.specs.declared.statement.Assignment.{Assignment}
use Rattle.typing.specs.declared.statement.InsertSource.TheVariants.{Values}
use Rattle.denote.specs.declared.fault.Fault.TheVariants.{TextTooLong, DivisionByZero, OutOfRange, Record, Key}
use Rattle.denote.specs.Database.{Database, Table, CheckReading, violated_by}
use Rattle.denote.specs.Change.{Changed, Raises, insert_into, update_in}
use Rattle.denote.proofs.Nodes.{meanings}
use Rattle.denote.proofs.ExampleTrees.{number, minus_one, greatest, literal, at, plus, divided, exceeds, t, table, two_integers, numbered, lettered, no_check, makes}

abbrev null : Expression
null = e.Constant Null

abbrev text : List ℕ → Expression
text letters = e.Constant (Text letters)

-- the names `#1`, `#2`, `#3` and `P`
abbrev first : List ℕ
first = 35 ∷ 49 ∷ []

abbrev second : List ℕ
second = 35 ∷ 50 ∷ []

abbrev third : List ℕ
third = 35 ∷ 51 ∷ []

abbrev p : List ℕ
p = 80 ∷ []

-- INSERT INTO T VALUES rows, of so many columns
abbrev insert_of : CheckReading → Database → List ℕ → List (List Expression) → Table → Changed
insert_of reading db columns rows stored = insert_into reading db (record { table = t; columns = columns; source = Values rows }) stored

abbrev update_of : CheckReading → Database → List Assignment → Table → Changed
update_of reading db assignments stored = update_in reading db (record { table = t; assignments = assignments; filter = None }) stored

abbrev assign : ℕ → Expression → Assignment
assign column source = record { column = column; source = source }

-- ---- several faults, at T (A NOT NULL, B CONSTRAINT P CHECK (B > 0), C VARCHAR(2), UNIQUE (A)),
-- which is empty

abbrev of_three_kinds : Table
of_three_kinds = table (Integer ∷ Integer ∷ Varchar 2 ∷ []) (numbered 1 (NotNull 0) ∷ lettered 80 (Check []) ∷ numbered 3 (Unique (0 ∷ [])) ∷ []) []

abbrev second_is_positive : CheckReading
second_is_positive name columns text = exceeds (at 1) (literal 0)

abbrev into_three_kinds : Database → List (List Expression) → Changed
into_three_kinds db rows = insert_of second_is_positive db (0 ∷ 1 ∷ 2 ∷ []) rows of_three_kinds

-- INSERT INTO T VALUES (NULL, -1, 'ab')
abbrev null_and_minus_one : Database → Changed
null_and_minus_one db = into_three_kinds db ((null ∷ e.Constant minus_one ∷ text (97 ∷ 98 ∷ []) ∷ []) ∷ [])

-- T with these rows
abbrev three_kinds : List Row → Table
three_kinds rows = table (Integer ∷ Integer ∷ Varchar 2 ∷ []) (numbered 1 (NotNull 0) ∷ lettered 80 (Check []) ∷ numbered 3 (Unique (0 ∷ [])) ∷ []) rows

abbrev of_null_and_minus_one : Table
of_null_and_minus_one = three_kinds ((Null ∷ minus_one ∷ Text (97 ∷ 98 ∷ []) ∷ []) ∷ [])

pub null_and_minus_one_come : (db : Database) → null_and_minus_one db ≡ makes second_is_positive db of_null_and_minus_one 1
null_and_minus_one_come db = simp meanings

pub both_constraints_are_named : violated_by second_is_positive t of_null_and_minus_one ≡ first ∷ p ∷ []
both_constraints_are_named = simp meanings

-- INSERT INTO T VALUES (NULL, -1, 'abc')
pub storing_comes_before_constraints : (db : Database) →
    into_three_kinds db ((null ∷ e.Constant minus_one ∷ text (97 ∷ 98 ∷ 99 ∷ []) ∷ []) ∷ []) ≡ Raises (TextTooLong ∷ [])
storing_comes_before_constraints db = simp meanings

abbrev of_three : Table
of_three = three_kinds ((number 1 ∷ number 1 ∷ Text (97 ∷ []) ∷ []) ∷ (number 1 ∷ number 1 ∷ Text (98 ∷ []) ∷ []) ∷ (Null ∷ number 2 ∷ Text (99 ∷ []) ∷ []) ∷ [])

-- INSERT INTO T VALUES (1, 1, 'a'), (1, 1, 'b'), (NULL, 2, 'c')
pub constraints_of_all_rows : (db : Database) →
    into_three_kinds db
    ((literal 1 ∷ literal 1 ∷ text (97 ∷ []) ∷ []) ∷ (literal 1 ∷ literal 1 ∷ text (98 ∷ []) ∷ []) ∷ (null ∷ literal 2 ∷ text (99 ∷ []) ∷ []) ∷ [])
    ≡ makes second_is_positive db of_three 3
constraints_of_all_rows db = simp meanings

pub both_of_all_rows_are_named : violated_by second_is_positive t of_three ≡ first ∷ third ∷ []
both_of_all_rows_are_named = simp meanings

-- INSERT INTO T VALUES (1 / 0, 9223372036854775807 + 1, 'abc')
pub faults_of_all_sources : (db : Database) →
    into_three_kinds db ((divided (literal 1) (literal 0) ∷ plus (e.Constant greatest) (literal 1) ∷ text (97 ∷ 98 ∷ 99 ∷ []) ∷ []) ∷ [])
    ≡ Raises (DivisionByZero ∷ OutOfRange ∷ TextTooLong ∷ [])
faults_of_all_sources db = simp meanings

-- INSERT INTO T VALUES (1, 1, 'a'), (1, -1, 'b'), (1 / 0, 2, 'abc')
pub faults_come_before_constraints_of_other_rows : (db : Database) →
    into_three_kinds db
    ((literal 1 ∷ literal 1 ∷ text (97 ∷ []) ∷ []) ∷ (literal 1 ∷ e.Constant minus_one ∷ text (98 ∷ []) ∷ []) ∷ (divided (literal 1) (literal 0) ∷ literal 2 ∷ text (97 ∷ 98 ∷ 99 ∷ []) ∷ []) ∷ [])
    ≡ Raises (DivisionByZero ∷ TextTooLong ∷ [])
faults_come_before_constraints_of_other_rows db = simp meanings

-- ---- T (A, B, CHECK (A / B > 1))

abbrev pair : Value → Value → Row
pair x y = x ∷ y ∷ []

abbrev with_check : List Row → Table
with_check rows = table two_integers (numbered 1 (Check []) ∷ []) rows

abbrev quotient_exceeds_one : CheckReading
quotient_exceeds_one name columns text = exceeds (divided (at 0) (at 1)) (literal 1)

abbrev into_empty : Database → List (List Expression) → Changed
into_empty db rows = insert_of quotient_exceeds_one db (0 ∷ 1 ∷ []) rows (with_check [])

-- INSERT INTO T VALUES (NULL, 0)
pub an_unknown_check_is_no_violation : (db : Database) → into_empty db ((null ∷ literal 0 ∷ []) ∷ []) ≡ makes quotient_exceeds_one db (with_check (pair Null (number 0) ∷ [])) 1
an_unknown_check_is_no_violation db = simp meanings

-- INSERT INTO T VALUES (4, 2)
pub a_true_check_is_no_violation : (db : Database) → into_empty db ((literal 4 ∷ literal 2 ∷ []) ∷ []) ≡ makes quotient_exceeds_one db (with_check (pair (number 4) (number 2) ∷ [])) 1
a_true_check_is_no_violation db = simp meanings

-- INSERT INTO T VALUES (1, 1)
pub a_false_check_is_a_violation : (db : Database) → into_empty db ((literal 1 ∷ literal 1 ∷ []) ∷ []) ≡ makes quotient_exceeds_one db (with_check (pair (number 1) (number 1) ∷ [])) 1
a_false_check_is_a_violation db = simp meanings

pub a_false_check_is_a_violation_named : violated_by quotient_exceeds_one t (with_check (pair (number 1) (number 1) ∷ [])) ≡ first ∷ []
a_false_check_is_a_violation_named = simp meanings

-- INSERT INTO T VALUES (1, 0)
pub a_check_faults : (db : Database) → into_empty db ((literal 1 ∷ literal 0 ∷ []) ∷ []) ≡ Raises (DivisionByZero ∷ [])
a_check_faults db = simp meanings

-- INSERT INTO T VALUES (1, 1), (1, 0)
pub a_faulting_check_comes_before_a_false_one : (db : Database) → into_empty db ((literal 1 ∷ literal 1 ∷ []) ∷ (literal 1 ∷ literal 0 ∷ []) ∷ []) ≡ Raises (DivisionByZero ∷ [])
a_faulting_check_comes_before_a_false_one db = simp meanings

-- INSERT INTO T VALUES (9223372036854775807 + 1, 0)
pub a_row_with_faults_meets_no_check : (db : Database) → into_empty db ((plus (e.Constant greatest) (literal 1) ∷ literal 0 ∷ []) ∷ []) ≡ Raises (OutOfRange ∷ [])
a_row_with_faults_meets_no_check db = simp meanings

-- T has (NULL, 0) and (4, 2): UPDATE T SET assignments
abbrev update_of_two : Database → List Assignment → Changed
update_of_two db assignments = update_of quotient_exceeds_one db assignments (with_check (pair Null (number 0) ∷ pair (number 4) (number 2) ∷ []))

-- UPDATE T SET B = 0
pub an_update_meets_a_faulting_check : (db : Database) → update_of_two db (assign 1 (literal 0) ∷ []) ≡ Raises (DivisionByZero ∷ [])
an_update_meets_a_faulting_check db = simp meanings

-- UPDATE T SET B = 1
pub an_update_that_checks_allow : (db : Database) →
    update_of_two db (assign 1 (literal 1) ∷ []) ≡ makes quotient_exceeds_one db (with_check (pair Null (number 1) ∷ pair (number 4) (number 1) ∷ [])) 2
an_update_that_checks_allow db = simp meanings

-- UPDATE T SET A = 1, B = 1
pub an_update_meets_a_false_check : (db : Database) → update_of_two db (assign 0 (literal 1) ∷ assign 1 (literal 1) ∷ []) ≡ makes quotient_exceeds_one db (with_check (pair (number 1) (number 1) ∷ pair (number 1) (number 1) ∷ [])) 2
an_update_meets_a_false_check db = simp meanings

pub an_update_meets_a_false_check_named : violated_by quotient_exceeds_one t (with_check (pair (number 1) (number 1) ∷ pair (number 1) (number 1) ∷ [])) ≡ first ∷ []
an_update_meets_a_false_check_named = simp meanings

-- ---- T (A, B, C, UNIQUE (A, B), UNIQUE (C))

abbrev with_uniques : List Row → Table
with_uniques rows = table (Integer ∷ two_integers) (numbered 1 (Unique (0 ∷ 1 ∷ [])) ∷ numbered 2 (Unique (2 ∷ [])) ∷ []) rows

-- (1, NULL, 1), (1, NULL, NULL) and (NULL, NULL, NULL)
abbrev three_with_nulls : List Row
three_with_nulls = (number 1 ∷ Null ∷ number 1 ∷ []) ∷ (number 1 ∷ Null ∷ Null ∷ []) ∷ (Null ∷ Null ∷ Null ∷ []) ∷ []

-- INSERT INTO T VALUES (1, NULL, 1), (1, NULL, NULL), (NULL, NULL, NULL)
pub unique_wants_no_null : (db : Database) →
    insert_of no_check db (0 ∷ 1 ∷ 2 ∷ []) ((literal 1 ∷ null ∷ literal 1 ∷ []) ∷ (literal 1 ∷ null ∷ null ∷ []) ∷ (null ∷ null ∷ null ∷ []) ∷ []) (with_uniques [])
    ≡ makes no_check db (with_uniques three_with_nulls) 3
unique_wants_no_null db = simp meanings

-- T has these three rows: UPDATE T SET assignments
abbrev update_of_nulls : Database → List Assignment → Changed
update_of_nulls db assignments = update_of no_check db assignments (with_uniques three_with_nulls)

-- UPDATE T SET B = 5
pub one_unique_is_violated : (db : Database) → update_of_nulls db (assign 1 (literal 5) ∷ []) ≡ makes no_check db (with_uniques ((number 1 ∷ number 5 ∷ number 1 ∷ []) ∷ (number 1 ∷ number 5 ∷ Null ∷ []) ∷ (Null ∷ number 5 ∷ Null ∷ []) ∷ [])) 3
one_unique_is_violated db = simp meanings

pub one_unique_is_violated_named : violated_by no_check t (with_uniques ((number 1 ∷ number 5 ∷ number 1 ∷ []) ∷ (number 1 ∷ number 5 ∷ Null ∷ []) ∷ (Null ∷ number 5 ∷ Null ∷ []) ∷ [])) ≡ first ∷ []
one_unique_is_violated_named = refl

-- UPDATE T SET B = 5, C = 1
pub both_uniques_are_violated : (db : Database) → update_of_nulls db (assign 1 (literal 5) ∷ assign 2 (literal 1) ∷ []) ≡ makes no_check db (with_uniques ((number 1 ∷ number 5 ∷ number 1 ∷ []) ∷ (number 1 ∷ number 5 ∷ number 1 ∷ []) ∷ (Null ∷ number 5 ∷ number 1 ∷ []) ∷ [])) 3
both_uniques_are_violated db = simp meanings

pub both_uniques_are_violated_named : violated_by no_check t (with_uniques ((number 1 ∷ number 5 ∷ number 1 ∷ []) ∷ (number 1 ∷ number 5 ∷ number 1 ∷ []) ∷ (Null ∷ number 5 ∷ number 1 ∷ []) ∷ [])) ≡ first ∷ second ∷ []
both_uniques_are_violated_named = refl

-- UPDATE T SET A = NULL, B = 5
pub a_null_in_each_is_no_violation : (db : Database) →
    update_of_nulls db (assign 0 null ∷ assign 1 (literal 5) ∷ [])
    ≡ makes no_check db (with_uniques ((Null ∷ number 5 ∷ number 1 ∷ []) ∷ (Null ∷ number 5 ∷ Null ∷ []) ∷ (Null ∷ number 5 ∷ Null ∷ []) ∷ [])) 3
a_null_in_each_is_no_violation db = simp meanings

-- ---- limits

-- so many times the letter `a`
abbrev letters : ℕ → List ℕ
letters count = replicate count 97

-- T (A VARCHAR(255), B VARCHAR(255), C VARCHAR(255), D VARCHAR(255)) with these rows
abbrev four_texts : List Row → Table
four_texts rows = table (Varchar 255 ∷ Varchar 255 ∷ Varchar 255 ∷ Varchar 255 ∷ []) [] rows

-- T is empty: INSERT INTO T VALUES of texts of 255, 255, 255 and `last` characters
abbrev into_four_texts : Database → ℕ → Table → Changed
into_four_texts db last stored =
    insert_of no_check db (0 ∷ 1 ∷ 2 ∷ 3 ∷ []) ((text (letters 255) ∷ text (letters 255) ∷ text (letters 255) ∷ text (letters last) ∷ []) ∷ []) stored

-- the last of 223: 1,000 bytes, of which 3 a text are not its characters
pub a_row_of_1000_bytes : (db : Database) →
    into_four_texts db 223 (four_texts []) ≡ makes no_check db (four_texts ((Text (letters 255) ∷ Text (letters 255) ∷ Text (letters 255) ∷ Text (letters 223) ∷ []) ∷ [])) 1
a_row_of_1000_bytes db = simp meanings

-- the last of 224
pub a_row_of_1001_bytes : (db : Database) → into_four_texts db 224 (four_texts []) ≡ Raises (Record ∷ [])
a_row_of_1001_bytes db = simp meanings

-- with an index on A, B and C, whose key is longer than 600 bytes
abbrev indexed_texts : Table
indexed_texts = record (four_texts []) { indexes = record { name = None; columns = 0 ∷ 1 ∷ 2 ∷ [] } ∷ [] }

pub a_key_is_too_long : (db : Database) → into_four_texts db 223 indexed_texts ≡ Raises (Key ∷ [])
a_key_is_too_long db = simp meanings

pub row_and_key_are_too_long : (db : Database) → into_four_texts db 224 indexed_texts ≡ Raises (Record ∷ Key ∷ [])
row_and_key_are_too_long db = simp meanings
