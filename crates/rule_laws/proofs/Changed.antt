-- What a change makes of a database whose CHECKs can be read does not depend on the reading of
-- their texts.
use Rattle.std.proofs.Common.{◌≡◌, refl, ap, sym, ◌∙◌, subst, ℕ, Bool, true, false, cond, not, List, [], ◌∷◌, ◌++◌, map, length, Option, Some, None, Ok, Err}
use Rattle.std.specs.Prelude.{filter, count_by, flat_map}
use Rattle.std.specs.Cmp.Lexicographic.{nat_list_cmp_total}
use Rattle.std.specs.FinMap.{get, insert, keys, get-insert, slice_cmp-IsAntisymmetric, nat_cmp-IsAntisymmetric}
use Rattle.std.specs.Ordering.{is_eq, eq_by_cmp}
use Rattle.std.specs.declared.cmp.Ordering.{Ordering}
use Rattle.std.specs.declared.cmp.Ordering.TheVariants.{Less, Equal, Greater}
use Rattle.sqlval.specs.Comparison.{text_order}
use Rattle.sqlval.specs.Value.{Row}
use Rattle.typing.specs.declared.statement.Change.{Change}
use Rattle.typing.specs.declared.statement.Change.TheVariants as does
use Rattle.typing.specs.declared.statement.Delete.{Delete}
use Rattle.typing.specs.declared.statement.Insert.{Insert}
use Rattle.typing.specs.declared.statement.Update.{Update}
use Rattle.typing.specs.declared.typed.Condition.{Condition}
use Rattle.typing.specs.Check.{IsCheckReading}
use Rattle.denote.specs.Change.{Changed, changed, deleted_rows, delete_from, insert_into, inserted_rows, on_table, unless_raised, unless_violated, update_in, updated_rows, with_rows}
use Rattle.denote.specs.Database.{AreReadable, CheckReading, Database, Name, Table, checks_of, rows_in, unmatched_by, violated_at, violated_in}
use Rattle.denote.specs.Evaluation.{Evaluation}
use Rattle.rule_laws.proofs.Good.{same_checks, same_violations}

-- the CHECKs of each table can be read
abbrev pub AreAllReadable : Database → Type 0
AreAllReadable db = (name : Name) (table : Table) → get db name ≡ Some table → AreReadable name table.columns table.constraints

same_raised : {A : Type 0} (x : Evaluation A) (f g : A → Changed) → ((a : A) → f a ≡ g a) → unless_raised x f ≡ unless_raised x g
same_raised (Ok a) f g h = h a
same_raised (Err faults) f g h = refl

same_on_table : (db : Database) (found : Option Table) (f g : Table → Changed) → ((table : Table) → found ≡ Some table → f table ≡ g table)
    → on_table db found f ≡ on_table db found g
same_on_table db None f g h = refl
same_on_table db (Some table) f g h = h table refl

equal_order : (o : Ordering) → is_eq o ≡ true → o ≡ Equal
equal_order Less e = absurd (cc)
equal_order Equal e = refl
equal_order Greater e = absurd (cc)

one_name : (one other : Name) → eq_by_cmp text_order one other ≡ true → one ≡ other
one_name one other e = slice_cmp-IsAntisymmetric nat_cmp-IsAntisymmetric one other (equal_order (text_order one other) e)

same_some : (t u : Table) → Some t ≡ Some u → t ≡ u
same_some t u e = cc

-- a table that can be read comes under a name
still_readable : (db : Database) (name : Name) (new : Table) → AreAllReadable db → AreReadable name new.columns new.constraints → AreAllReadable (insert db name new)
still_readable db name new all h other table is = at (eq_by_cmp text_order other name) refl (sym (get-insert nat_list_cmp_total db name new other) ∙ is)
  where
    at : (b : Bool) → eq_by_cmp text_order other name ≡ b → cond b (Some new) (get db other) ≡ Some table → AreReadable other table.columns table.constraints
    at true same f = subst (λ (t : Table). AreReadable other t.columns t.constraints) (same_some new table f)
        (subst (λ (n : Name). AreReadable n new.columns new.constraints) (sym (one_name other name same)) h)
    at false same f = all other table f

same_of_all : (f g : Name → List Name) (names : List Name) → ((name : Name) → f name ≡ g name) → flat_map f names ≡ flat_map g names
same_of_all f g [] h = refl
same_of_all f g (name ∷ names) h = rw (h name, same_of_all f g names h) refl

-- what a database violates
same_violated_in : (reading other : CheckReading) → IsCheckReading reading → IsCheckReading other → (db : Database) → AreAllReadable db → violated_in other db ≡ violated_in reading db
same_violated_in reading other reads also db all = same_of_all (λ name. violated_at other db name (get db name)) (λ name. violated_at reading db name (get db name)) (keys db)
    (λ name. at name (get db name) refl)
  where
    at : (name : Name) (found : Option Table) → get db name ≡ found → violated_at other db name found ≡ violated_at reading db name found
    at name None is = refl
    at name (Some table) is = ap (λ names. names ++ unmatched_by (rows_in db) table.constraints table.rows) (same_violations reading other reads also name table (all name table is))

module _ (reading other : CheckReading) (reads : IsCheckReading reading) (also : IsCheckReading other) (db : Database) (all : AreAllReadable db) where
  same_with_rows : (name : Name) (table : Table) (rows : List Row) (count : ℕ) → AreReadable name table.columns table.constraints
      → with_rows other db name table rows count ≡ with_rows reading db name table rows count
  same_with_rows name table rows count h =
      let new : Database = insert db name (record table { rows = rows }) in
      ap (λ (names : List Name). unless_violated names new count) (same_violated_in reading other reads also new (still_readable db name (record table { rows = rows }) all h))

  same_insert : (i : Insert) (table : Table) → AreReadable i.table table.columns table.constraints → insert_into other db i table ≡ insert_into reading db i table
  same_insert i table h =
      ap (λ (checks : List Condition). unless_raised (inserted_rows checks (rows_in db) table i.columns i.source) (λ rows. with_rows other db i.table table (table.rows ++ rows) (length rows)))
      (same_checks reading other reads also i.table table h)
      ∙ same_raised (inserted_rows (checks_of reading i.table table) (rows_in db) table i.columns i.source)
      (λ rows. with_rows other db i.table table (table.rows ++ rows) (length rows)) (λ rows. with_rows reading db i.table table (table.rows ++ rows) (length rows))
      (λ rows. same_with_rows i.table table (table.rows ++ rows) (length rows) h)

  same_update : (u : Update) (table : Table) → AreReadable u.table table.columns table.constraints → update_in other db u table ≡ update_in reading db u table
  same_update u table h =
      ap (λ (checks : List Condition). unless_raised (updated_rows checks (rows_in db) table u) (λ rows. with_rows other db u.table table (map (λ r. r.1) rows) (count_by (λ r. r.0) rows)))
      (same_checks reading other reads also u.table table h)
      ∙ same_raised (updated_rows (checks_of reading u.table table) (rows_in db) table u)
      (λ rows. with_rows other db u.table table (map (λ r. r.1) rows) (count_by (λ r. r.0) rows)) (λ rows. with_rows reading db u.table table (map (λ r. r.1) rows) (count_by (λ r. r.0) rows))
      (λ rows. same_with_rows u.table table (map (λ r. r.1) rows) (count_by (λ r. r.0) rows) h)

  same_delete : (d : Delete) (table : Table) → AreReadable d.table table.columns table.constraints → delete_from other db d table ≡ delete_from reading db d table
  same_delete d table h =
      same_raised (deleted_rows (rows_in db) table d)
      (λ rows. with_rows other db d.table table (map (λ r. r.1) (filter (λ r. not r.0) rows)) (count_by (λ r. r.0) rows))
      (λ rows. with_rows reading db d.table table (map (λ r. r.1) (filter (λ r. not r.0) rows)) (count_by (λ r. r.0) rows))
      (λ rows. same_with_rows d.table table (map (λ r. r.1) (filter (λ r. not r.0) rows)) (count_by (λ r. r.0) rows) h)

  pub same_changed : (change : Change) → changed other db change ≡ changed reading db change
  same_changed (does.CreateTable c) = refl
  same_changed (does.DropTable name) = refl
  same_changed (does.CreateIndex c) = refl
  same_changed (does.DropIndex name) = refl
  same_changed (does.Insert i) = same_on_table db (get db i.table) (insert_into other db i) (insert_into reading db i) (λ table is. same_insert i table (all i.table table is))
  same_changed (does.Update u) = same_on_table db (get db u.table) (update_in other db u) (update_in reading db u) (λ table is. same_update u table (all u.table table is))
  same_changed (does.Delete d) = same_on_table db (get db d.table) (delete_from other db d) (delete_from reading db d) (λ table is. same_delete d table (all d.table table is))
