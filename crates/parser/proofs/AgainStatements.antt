-- Statements: what is in the grammar is read again.
use Rattle.std.proofs.Common.{◌≡◌, ℕ, Bool, true, false, List, ◌∷◌, Option, Some, refl}
use Rattle.lexer.specs.declared.kinds.Kind.{Kind}
use Rattle.lexer.specs.declared.kinds.Kind.TheVariants as kind
use Rattle.lexer.specs.declared.words.Word.{Word}
use Rattle.lexer.specs.declared.words.Word.TheVariants as w
use Rattle.ast.specs.declared.statement.AccessMode.{AccessMode}
use Rattle.ast.specs.declared.statement.AccessMode.TheVariants as mode
use Rattle.ast.specs.declared.statement.Assignment.{Assignment}
use Rattle.ast.specs.declared.statement.CreateIndex.{CreateIndex}
use Rattle.ast.specs.declared.statement.CreateTable.{CreateTable}
use Rattle.ast.specs.declared.statement.DeclareCursor.{DeclareCursor}
use Rattle.ast.specs.declared.statement.Delete.{Delete}
use Rattle.ast.specs.declared.statement.Insert.{Insert}
use Rattle.ast.specs.declared.statement.InsertRows.{InsertRows}
use Rattle.ast.specs.declared.statement.OrderedQuery.{OrderedQuery}
use Rattle.ast.specs.declared.statement.Statement.{Statement}
use Rattle.ast.specs.declared.statement.Statement.TheVariants as statement_of
use Rattle.ast.specs.declared.statement.TableElement.{TableElement}
use Rattle.ast.specs.declared.statement.Update.{Update}
use Rattle.ast.specs.declared.tree.Condition.{Condition}
use Rattle.ast.specs.Notation.{Tokens, Rule, ◌⨾◌, ◌⊳◌, Parenthesized, Listed, MaybeListed}
use Rattle.ast.specs.Expressions.{Nested}
use Rattle.ast.specs.Terminals.{IsName}
use Rattle.ast.specs.Statements.{AreNames, IsOrderedQuery, IsFilter, IsTableElement, IsCreateTable, IsCreateIndex, AreInsertRows, IsInsert, IsAssignment, IsUpdate, IsDelete, IsAccessMode, IsDeclareCursor, IsStatement}
use Rattle.ast.specs.Words.{CLOSE, COMMIT, CREATE, CURSOR, DECLARE, DELETE, DROP, EXPLAIN, FETCH, FOR, FROM, INDEX, INSERT, INTO, ON, OPEN, ROLLBACK, SEMICOLON, SET, TABLE, TRANSACTION, UPDATE}
use Rattle.parse_terminals.specs.Readers.{Reader, Outcome, word, name, both, after, made, listed, written, parenthesized}
use Rattle.parse_expressions.specs.ReadExpressions.{Inner}
use Rattle.parse_statements.specs.ReadStatements.{ordered_query, filter, element, create_table, indexed, create_index, create, drop, insert_rows, insert_columns, insert, assigned, update, delete, access_mode, set_transaction, cursor_query, declare_cursor, data_change, schema_change, transaction_control, cursor_control, query_statement, statement}
use Rattle.parser.specs.Shallow.{is_shallow}
use Rattle.parser.proofs.Steps.{not_word, no_word}
use Rattle.parser.proofs.Passes.{Passes, here, past, onward, one, shallow_after}
use Rattle.parser.proofs.Again.{Stops, never, nothing_stops, Again, both_again, after_word_again, inside, parenthesized_again, may_be_again, written_passes}
use Rattle.parser.proofs.AgainTerminals.{name_again}
use Rattle.parser.proofs.AgainStatementParts.{made_read, columns_again, elements_again, ordered_goes_on, ordered_query_again, filter_goes_on, filter_again, rows_go_on, columns_and_rows_again, assigned_goes_on, assigned_again}
use Rattle.parser.proofs.Follow.{Ready, statement_goes_on, ended, no_query}

-- ---- by the first words

module _ (I : Inner) where
  by_insert : {ts a : Tokens} {y : Outcome Statement} → ts ≡ INSERT ∷ a → insert I a ≡ y → statement I ts ≡ y
  unfolding statement data_change word
  by_insert t e = rw t e

  by_update : {ts a : Tokens} {y : Outcome Statement} → ts ≡ UPDATE ∷ a → update I a ≡ y → statement I ts ≡ y
  unfolding statement data_change word
  by_update t e = rw t e

  by_delete : {ts a : Tokens} {y : Outcome Statement} → ts ≡ DELETE ∷ a → delete I a ≡ y → statement I ts ≡ y
  unfolding statement data_change word
  by_delete t e = rw t e

  by_create_table : {ts a b : Tokens} {y : Outcome Statement} → ts ≡ CREATE ∷ a → a ≡ TABLE ∷ b → create_table I b ≡ y → statement I ts ≡ y
  unfolding statement schema_change create word
  by_create_table t u e = rw (t, u) e

  by_create_index : {ts a b : Tokens} {y : Outcome Statement} → ts ≡ CREATE ∷ a → a ≡ INDEX ∷ b → create_index b ≡ y → statement I ts ≡ y
  unfolding statement schema_change create word
  by_create_index t u e = rw (t, u) e

  by_drop_table : {ts a b : Tokens} {y : Outcome Statement} → ts ≡ DROP ∷ a → a ≡ TABLE ∷ b → made statement_of.DropTable name b ≡ y → statement I ts ≡ y
  unfolding statement schema_change drop word
  by_drop_table t u e = rw (t, u) e

  by_drop_index : {ts a b : Tokens} {y : Outcome Statement} → ts ≡ DROP ∷ a → a ≡ INDEX ∷ b → made statement_of.DropIndex name b ≡ y → statement I ts ≡ y
  unfolding statement schema_change drop word
  by_drop_index t u e = rw (t, u) e

  by_commit : {ts a : Tokens} {y : Outcome Statement} → ts ≡ COMMIT ∷ a → made statement_of.Commit (written w.Work) a ≡ y → statement I ts ≡ y
  unfolding statement transaction_control word
  by_commit t e = rw t e

  by_rollback : {ts a : Tokens} {y : Outcome Statement} → ts ≡ ROLLBACK ∷ a → made statement_of.Rollback (written w.Work) a ≡ y → statement I ts ≡ y
  unfolding statement transaction_control word
  by_rollback t e = rw t e

  by_set : {ts a : Tokens} {y : Outcome Statement} → ts ≡ SET ∷ a → set_transaction a ≡ y → statement I ts ≡ y
  unfolding statement transaction_control word
  by_set t e = rw t e

  by_declare : {ts a : Tokens} {y : Outcome Statement} → ts ≡ DECLARE ∷ a → declare_cursor I a ≡ y → statement I ts ≡ y
  unfolding statement cursor_control word
  by_declare t e = rw t e

  by_open : {ts a : Tokens} {y : Outcome Statement} → ts ≡ OPEN ∷ a → made statement_of.OpenCursor name a ≡ y → statement I ts ≡ y
  unfolding statement cursor_control word
  by_open t e = rw t e

  by_fetch : {ts a : Tokens} {y : Outcome Statement} → ts ≡ FETCH ∷ a → made statement_of.Fetch name a ≡ y → statement I ts ≡ y
  unfolding statement cursor_control word
  by_fetch t e = rw t e

  by_close : {ts a : Tokens} {y : Outcome Statement} → ts ≡ CLOSE ∷ a → made statement_of.CloseCursor name a ≡ y → statement I ts ≡ y
  unfolding statement cursor_control word
  by_close t e = rw t e

  by_explain : {ts a : Tokens} {y : Outcome Statement} → ts ≡ EXPLAIN ∷ a → made statement_of.Explain (ordered_query I) a ≡ y → statement I ts ≡ y
  unfolding statement query_statement word
  by_explain t e = rw t e

  by_query : (ts : Tokens) {y : Outcome Statement} → Stops no_query ts → made statement_of.Query (ordered_query I) ts ≡ y → statement I ts ≡ y
  unfolding statement query_statement
  by_query ts h e =
      rw (
        not_word no_query w.Insert refl ts h,
        not_word no_query w.Update refl ts h,
        not_word no_query w.Delete refl ts h,
        not_word no_query w.Create refl ts h,
        not_word no_query w.Drop refl ts h,
        not_word no_query w.Commit refl ts h,
        not_word no_query w.Rollback refl ts h,
        not_word no_query w.Set refl ts h,
        not_word no_query w.Declare refl ts h,
        not_word no_query w.Open refl ts h,
        not_word no_query w.Fetch refl ts h,
        not_word no_query w.Close refl ts h,
        no_word no_query w.Explain refl ts h,
      ) e

-- ---- behind the first words

shallow_behind : (d : ℕ) (v : Word) {ts a : Tokens} → ts ≡ kind.Word v ∷ a → is_shallow ts d ≡ true → is_shallow a d ≡ true
shallow_behind d v t shallow = shallow_after (one refl refl t) d shallow

-- a word and what follows it
led : (v : Word) {ts a rest : Tokens} → ts ≡ kind.Word v ∷ a → Passes a rest → Passes ts rest
led v t p = onward (one refl refl t) p

read_behind : {A : Type 0} {d : ℕ} {p : Kind → Bool} {r : Reader A} {R : Rule A} (f : A → Statement) → Again A d p r R → p SEMICOLON ≡ false
    → (a : Tokens) (x : A) (rest : Tokens)
    → R a x rest → is_shallow a d ≡ true → Stops statement_goes_on rest → made f r a ≡ Some (f x, rest)
read_behind {p} {r} f l e a x rest h shallow stops = made_read f r a x rest (l.at a x rest h shallow (ended p e rest stops))

module _ {d : ℕ} {I : Inner} {N : Nested} (ready : Ready d I N) where
  -- name ( element {, element} )
  table_again : Again (List ℕ × List TableElement) d never (both name (parenthesized (listed (element I)))) (IsName ⨾ Parenthesized (Listed (IsTableElement N)))
  table_again = both_again name_again (parenthesized_again never (inside refl (elements_again ready))) (λ ts x rest h stops. nothing_stops ts)

  -- name ON name ( names )
  index_again : Again (List ℕ × (List ℕ × List (List ℕ))) d never (both name indexed) (IsName ⨾ ON ⊳ (IsName ⨾ Parenthesized AreNames))
  unfolding indexed
  index_again = both_again name_again (after_word_again w.On columns_again) (λ ts x rest h stops. nothing_stops ts)

  -- INTO name [ ( names ) ] ( VALUES row {, row} | query )
  insert_again : Again (List ℕ × (List (List ℕ) × InsertRows)) d rows_go_on (after (word w.Into) (both name (both insert_columns (insert_rows I))))
      (INTO ⊳ (IsName ⨾ (MaybeListed (Parenthesized AreNames) ⨾ AreInsertRows N)))
  insert_again = after_word_again w.Into (both_again name_again (columns_and_rows_again ready) (λ ts x rest h stops. nothing_stops ts))

  -- name SET name = source {, name = source} [WHERE cond]
  update_again : Again (List ℕ × (List Assignment × Option Condition)) d assigned_goes_on (both name (assigned I)) (IsName ⨾ SET ⊳ (Listed (IsAssignment N) ⨾ IsFilter N))
  unfolding assigned
  update_again = both_again name_again (after_word_again w.Set (assigned_again ready)) (λ ts x rest h stops. nothing_stops ts)

  -- FROM name [WHERE cond]
  delete_again : Again (List ℕ × Option Condition) d filter_goes_on (after (word w.From) (both name (filter I))) (FROM ⊳ (IsName ⨾ IsFilter N))
  delete_again = after_word_again w.From (both_again name_again (filter_again ready) (λ ts x rest h stops. nothing_stops ts))

  -- name CURSOR FOR query [order]
  declare_again : Again (List ℕ × OrderedQuery) d ordered_goes_on (both name (cursor_query I)) (IsName ⨾ CURSOR ⊳ FOR ⊳ IsOrderedQuery N)
  unfolding cursor_query
  declare_again = both_again name_again (after_word_again w.Cursor (after_word_again w.For (ordered_query_again ready))) (λ ts x rest h stops. nothing_stops ts)

  -- ---- one lemma for each statement

  create_table_at : (ts : Tokens) (x : CreateTable) (rest : Tokens) → IsCreateTable N ts x rest → is_shallow ts d ≡ true → Stops statement_goes_on rest
      → statement I ts ≡ Some (statement_of.CreateTable x, rest)
  unfolding create_table
  create_table_at ts x rest h shallow stops =
      by_create_table I h.1.1 h.1.2.1 (read_behind (λ y. statement_of.CreateTable (record {
        table =
            y.0;
        elements = y.1;
      })) table_again refl h.1.2.0 (x.table, x.elements) rest
      (h.0, h.1.2.2, h.2) (shallow_behind d w.Table h.1.2.1 (shallow_behind d w.Create h.1.1 shallow)) stops)

  create_index_at : (ts : Tokens) (x : CreateIndex) (rest : Tokens) → IsCreateIndex N ts x rest → is_shallow ts d ≡ true → Stops statement_goes_on rest
      → statement I ts ≡ Some (statement_of.CreateIndex x, rest)
  unfolding create_index
  create_index_at ts x rest h shallow stops =
      by_create_index I h.1.1 h.1.2.1 (read_behind (λ y. statement_of.CreateIndex (record {
        index =
            y.0;
        table = y.1.0;
        columns = y.1.1;
      })) index_again refl h.1.2.0
      (x.index, (x.table, x.columns)) rest (h.0, h.1.2.2, (h.2.1.0, h.2.1.1, (h.2.0, h.2.1.2, h.2.2)))
      (shallow_behind d w.Index h.1.2.1 (shallow_behind d w.Create h.1.1 shallow)) stops)

  insert_at : (ts : Tokens) (x : Insert) (rest : Tokens) → IsInsert N ts x rest → is_shallow ts d ≡ true → Stops statement_goes_on rest
      → statement I ts ≡ Some (statement_of.Insert x, rest)
  unfolding insert
  insert_at ts x rest h shallow stops =
      by_insert I h.1.1 (read_behind (λ y. statement_of.Insert (record { table = y.0; columns = y.1.0; rows = y.1.1 })) insert_again refl h.1.0
      (x.table, (x.columns, x.rows)) rest (h.1.2.0, h.1.2.1, (h.0, h.1.2.2, h.2)) (shallow_behind d w.Insert h.1.1 shallow) stops)

  update_at : (ts : Tokens) (x : Update) (rest : Tokens) → IsUpdate N ts x rest → is_shallow ts d ≡ true → Stops statement_goes_on rest
      → statement I ts ≡ Some (statement_of.Update x, rest)
  unfolding update
  update_at ts x rest h shallow stops =
      by_update I h.1.1 (read_behind (λ y. statement_of.Update (record { table = y.0; assignments = y.1.0; filter = y.1.1 })) update_again refl h.1.0
      (x.table, (x.assignments, x.filter)) rest (h.0, h.1.2, (h.2.1.0, h.2.1.1, (h.2.0, h.2.1.2, h.2.2))) (shallow_behind d w.Update h.1.1 shallow) stops)

  delete_at : (ts : Tokens) (x : Delete) (rest : Tokens) → IsDelete N ts x rest → is_shallow ts d ≡ true → Stops statement_goes_on rest
      → statement I ts ≡ Some (statement_of.Delete x, rest)
  unfolding delete
  delete_at ts x rest h shallow stops =
      by_delete I h.1.1 (read_behind (λ y. statement_of.Delete (record { table = y.0; filter = y.1 })) delete_again refl h.1.0
      (x.table, x.filter) rest (h.1.2.0, h.1.2.1, (h.0, h.1.2.2, h.2)) (shallow_behind d w.Delete h.1.1 shallow) stops)

  declare_cursor_at : (ts : Tokens) (x : DeclareCursor) (rest : Tokens) → IsDeclareCursor N ts x rest → is_shallow ts d ≡ true → Stops statement_goes_on rest
      → statement I ts ≡ Some (statement_of.DeclareCursor x, rest)
  unfolding declare_cursor
  declare_cursor_at ts x rest h shallow stops =
      by_declare I h.1.1 (read_behind (λ y. statement_of.DeclareCursor (record { cursor = y.0; query = y.1 })) declare_again refl h.1.0
      (x.cursor, x.query) rest (h.0, h.1.2, h.2) (shallow_behind d w.Declare h.1.1 shallow) stops)

  set_transaction_at : (ts a b : Tokens) (x : AccessMode) (rest : Tokens) → ts ≡ SET ∷ a → a ≡ TRANSACTION ∷ b → IsAccessMode N b x rest
      → statement I ts ≡ Some (statement_of.SetTransaction x, rest)
  unfolding set_transaction access_mode word
  set_transaction_at ts a b mode.ReadOnly rest t u h = by_set I t (rw (u, h) refl)
  set_transaction_at ts a b mode.ReadWrite rest t u h = by_set I t (rw (u, h) refl)

  statement_at : (ts : Tokens) (x : Statement) (rest : Tokens) → IsStatement N ts x rest → is_shallow ts d ≡ true → Stops statement_goes_on rest
      → statement I ts ≡ Some (x, rest)
  statement_at ts (statement_of.Query x) rest h shallow stops =
      by_query I ts (ready.query_begins ts x.query h.0 h.1) (read_behind statement_of.Query (ordered_query_again ready) refl ts x rest h shallow stops)
  statement_at ts (statement_of.Explain x) rest h shallow stops =
      by_explain I h.1 (read_behind statement_of.Explain (ordered_query_again ready) refl h.0 x rest h.2 (shallow_behind d w.Explain h.1 shallow) stops)
  statement_at ts (statement_of.CreateTable x) rest h shallow stops = create_table_at ts x rest h shallow stops
  statement_at ts (statement_of.DropTable x) rest h shallow stops =
      by_drop_table I h.1 h.2.1 (read_behind statement_of.DropTable name_again refl h.2.0 x rest h.2.2 (shallow_behind d w.Table h.2.1 (shallow_behind d w.Drop h.1 shallow)) stops)
  statement_at ts (statement_of.CreateIndex x) rest h shallow stops = create_index_at ts x rest h shallow stops
  statement_at ts (statement_of.DropIndex x) rest h shallow stops =
      by_drop_index I h.1 h.2.1 (read_behind statement_of.DropIndex name_again refl h.2.0 x rest h.2.2 (shallow_behind d w.Index h.2.1 (shallow_behind d w.Drop h.1 shallow)) stops)
  statement_at ts (statement_of.Insert x) rest h shallow stops = insert_at ts x rest h shallow stops
  statement_at ts (statement_of.Update x) rest h shallow stops = update_at ts x rest h shallow stops
  statement_at ts (statement_of.Delete x) rest h shallow stops = delete_at ts x rest h shallow stops
  statement_at ts (statement_of.Commit x) rest h shallow stops =
      by_commit I h.1 (read_behind statement_of.Commit (may_be_again w.Work) refl h.0 x rest h.2 (shallow_behind d w.Commit h.1 shallow) stops)
  statement_at ts (statement_of.Rollback x) rest h shallow stops =
      by_rollback I h.1 (read_behind statement_of.Rollback (may_be_again w.Work) refl h.0 x rest h.2 (shallow_behind d w.Rollback h.1 shallow) stops)
  statement_at ts (statement_of.SetTransaction x) rest h shallow stops = set_transaction_at ts h.0 h.2.0 x rest h.1 h.2.1 h.2.2
  statement_at ts (statement_of.DeclareCursor x) rest h shallow stops = declare_cursor_at ts x rest h shallow stops
  statement_at ts (statement_of.OpenCursor x) rest h shallow stops =
      by_open I h.1 (read_behind statement_of.OpenCursor name_again refl h.0 x rest h.2 (shallow_behind d w.Open h.1 shallow) stops)
  statement_at ts (statement_of.Fetch x) rest h shallow stops =
      by_fetch I h.1 (read_behind statement_of.Fetch name_again refl h.0 x rest h.2 (shallow_behind d w.Fetch h.1 shallow) stops)
  statement_at ts (statement_of.CloseCursor x) rest h shallow stops =
      by_close I h.1 (read_behind statement_of.CloseCursor name_again refl h.0 x rest h.2 (shallow_behind d w.Close h.1 shallow) stops)

  -- ---- their parentheses are matched

  access_mode_passes : (ts : Tokens) (x : AccessMode) (rest : Tokens) → IsAccessMode N ts x rest → Passes ts rest
  access_mode_passes ts mode.ReadOnly rest h = led w.Read h (past refl refl here)
  access_mode_passes ts mode.ReadWrite rest h = led w.Read h (past refl refl here)

  statement_passes : (ts : Tokens) (x : Statement) (rest : Tokens) → IsStatement N ts x rest → Passes ts rest
  statement_passes ts (statement_of.Query x) rest h = (ordered_query_again ready).passes ts x rest h
  statement_passes ts (statement_of.Explain x) rest h = led w.Explain h.1 ((ordered_query_again ready).passes h.0 x rest h.2)
  statement_passes ts (statement_of.CreateTable x) rest h =
      led w.Create h.1.1 (led w.Table h.1.2.1 (table_again.passes h.1.2.0 (x.table, x.elements) rest (h.0, h.1.2.2, h.2)))
  statement_passes ts (statement_of.DropTable x) rest h = led w.Drop h.1 (led w.Table h.2.1 (one refl refl h.2.2))
  statement_passes ts (statement_of.CreateIndex x) rest h =
      led w.Create h.1.1 (led w.Index h.1.2.1 (index_again.passes h.1.2.0 (x.index, (x.table, x.columns)) rest (h.0, h.1.2.2, (h.2.1.0, h.2.1.1, (h.2.0, h.2.1.2, h.2.2)))))
  statement_passes ts (statement_of.DropIndex x) rest h = led w.Drop h.1 (led w.Index h.2.1 (one refl refl h.2.2))
  statement_passes ts (statement_of.Insert x) rest h =
      led w.Insert h.1.1 (insert_again.passes h.1.0 (x.table, (x.columns, x.rows)) rest (h.1.2.0, h.1.2.1, (h.0, h.1.2.2, h.2)))
  statement_passes ts (statement_of.Update x) rest h =
      led w.Update h.1.1 (update_again.passes h.1.0 (x.table, (x.assignments, x.filter)) rest (h.0, h.1.2, (h.2.1.0, h.2.1.1, (h.2.0, h.2.1.2, h.2.2))))
  statement_passes ts (statement_of.Delete x) rest h =
      led w.Delete h.1.1 (delete_again.passes h.1.0 (x.table, x.filter) rest (h.1.2.0, h.1.2.1, (h.0, h.1.2.2, h.2)))
  statement_passes ts (statement_of.Commit x) rest h = led w.Commit h.1 (written_passes w.Work h.0 x rest h.2)
  statement_passes ts (statement_of.Rollback x) rest h = led w.Rollback h.1 (written_passes w.Work h.0 x rest h.2)
  statement_passes ts (statement_of.SetTransaction x) rest h = led w.Set h.1 (led w.Transaction h.2.1 (access_mode_passes h.2.0 x rest h.2.2))
  statement_passes ts (statement_of.DeclareCursor x) rest h = led w.Declare h.1.1 (declare_again.passes h.1.0 (x.cursor, x.query) rest (h.0, h.1.2, h.2))
  statement_passes ts (statement_of.OpenCursor x) rest h = led w.Open h.1 (one refl refl h.2)
  statement_passes ts (statement_of.Fetch x) rest h = led w.Fetch h.1 (one refl refl h.2)
  statement_passes ts (statement_of.CloseCursor x) rest h = led w.Close h.1 (one refl refl h.2)

  pub statement_again : Again Statement d statement_goes_on (statement I) (IsStatement N)
  statement_again = record { passes = statement_passes; at = statement_at }
