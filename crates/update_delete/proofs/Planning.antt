-- What is planned for the rows of a table is what the definitions make of it.
use Rattle.std.proofs.Common.{◌≡◌, ◌∙◌, refl, sym, ap, subst, ℕ, Bool, true, false, not, ◌≤◌, List, ◌++◌, map, filter, length, Option, Some, None, Ok, Err, arith}
use Rattle.std.specs.Prelude.{Contains, count_by}
use Rattle.std.specs.List.{list_any}
use Rattle.std.specs.FinMap.{get}
use Rattle.refusals.specs.declared.refusal.Refusal.TheVariants.{Disk}
use Rattle.sqlval.specs.declared.schema.Schema.{Schema}
use Rattle.sqlval.specs.declared.schema.Table as declared
use Rattle.sqlval.specs.Schema.{same_name}
use Rattle.sqlval.specs.Value.{Row}
use Rattle.typing.specs.declared.statement.Change.{Change}
use Rattle.typing.specs.declared.statement.Change.TheVariants as does
use Rattle.typing.specs.declared.statement.Delete.{Delete}
use Rattle.typing.specs.declared.statement.Update.{Update}
use Rattle.denote.specs.Bag.{Permutes}
use Rattle.denote.specs.declared.fault.Fault.{Fault}
use Rattle.denote.specs.declared.fault.Fault.TheVariants as fault
use Rattle.denote.specs.declared.fault.Stop.{Stop}
use Rattle.denote.specs.declared.fault.Stop.TheVariants as stop
use Rattle.denote.specs.Change.{Changed, is_touched, changed, on_table, update_in, delete_from, unless_raised, with_rows, updated_rows, deleted_rows, IsRaised}
use Rattle.denote.specs.Change.Changed.{Makes}
use Rattle.denote.specs.Database.{Name, Table, Database, CheckReading, checks_of, rows_in, violated_by}
use Rattle.denote.specs.Evaluation.{Evaluation, faults_in}
use Rattle.denote.specs.SchemaOf.{IsSchemaOf}
use Rattle.denote.specs.Stop.{IsFaultOf}
use Rattle.session_definitions.specs.Refusals.{refusal_of}
use Rattle.store.specs.Contents.{Contents, Entry, rows_of, database_of}
use Rattle.store.specs.Indexes.{entries_of}
use Rattle.constraints.specs.Changed.{RefusesChange}
use Rattle.constraints.specs.Stopped.{refused_by}
use Rattle.constraints.proofs.Declared.{no_table}
use Rattle.constraints.proofs.Held.{held_as}
use Rattle.update_delete.specs.Made.{all_made}
use Rattle.update_delete.specs.RowChanges.{spread, rows_gone, rows_new, IsShort, AreUpdates, AreDeletions}
use Rattle.update_delete.specs.declared.change.RowChange.{RowChange}
use Rattle.update_delete.specs.declared.planned.Planned.{Planned}
use Rattle.update_delete.specs.Planned.{IsPlannedFor}
use Rattle.update_delete.specs.Plans.{IsMeant, IsHarmless}
use Rattle.update_delete.proofs.Sparse.{made-spread, count-spread, every-spread}
use Rattle.update_delete.proofs.Fewer.{own-rows, violates-no-more}
use Rattle.update_delete.specs.Kept.{Keeps, KeepAll}
use Rattle.update_delete.proofs.Keeping.{keep-spread, constraints-kept}
use Rattle.update_delete.proofs.Coming.{gone-permutes, staying, staying-hold, left-permutes}

-- what is so of this plan is so of what is planned
pub planned-of : (P : Option Planned → Type 0) (numbers : List ℕ) (rows : List Row) (changes : List RowChange) (harmless : Bool) (found : Option Planned)
    → IsPlannedFor numbers rows changes harmless found
    → P (Some (record { numbers = numbers; changes = changes; gone = rows_gone rows changes; harmless = harmless })) → P found
planned-of P numbers rows changes harmless None is h = absurd is
planned-of P numbers rows changes harmless (Some planned) is h = subst (λ (p : Planned). P (Some p)) (sym is) h

-- no table has the name
pub no_update : (reading : CheckReading) (c : Contents) (schema : Schema) (u : Update) → IsSchemaOf schema (database_of c)
    → list_any (λ (t : declared.Table). same_name t.name u.table) schema.tables ≡ false → changed reading (database_of c) (does.Update u) ≡ Makes (database_of c) (Some 0)
no_update reading c schema u h none = ap (λ o. on_table (database_of c) o (update_in reading (database_of c) u)) (no_table schema (database_of c) u.table h none)

pub no_deletion : (reading : CheckReading) (c : Contents) (schema : Schema) (d : Delete) → IsSchemaOf schema (database_of c)
    → list_any (λ (t : declared.Table). same_name t.name d.table) schema.tables ≡ false → changed reading (database_of c) (does.Delete d) ≡ Makes (database_of c) (Some 0)
no_deletion reading c schema d h none = ap (λ o. on_table (database_of c) o (delete_from reading (database_of c) d)) (no_table schema (database_of c) d.table h none)

raised : {A : Type 0} (x : Evaluation A) (made : A → Changed) (one : Fault) → Contains (faults_in x) one → IsRaised (unless_raised x made) one
raised (Ok y) made one h = absurd (let below = h.1 in omega (arith, below))
raised (Err faults) made one h = h

-- a stop is the refusal of the change
stopped : {A : Type 0} (reading : CheckReading) (db : Database) (change : Change) (x : Evaluation A) (made : A → Changed) (s : Stop) → changed reading db change ≡ unless_raised x made
    → IsFaultOf (faults_in x) s → RefusesChange reading db change (refused_by s)
stopped reading db change x made stop.Memory e h = RefusesChange.withheld tt
stopped reading db change x made (stop.Fault one) e h = RefusesChange.raises one refl (subst (λ (c : Changed). IsRaised c one) (sym e) (raised x made one h))

pub is_no_device : (s : Stop) → refused_by s ≡ Disk → ⊥
is_no_device stop.Memory e = cc e
is_no_device (stop.Fault one) e = by one e
  where
    by : (raised : Fault) → refusal_of raised ≡ Disk → ⊥
    by fault.ManyRows e = cc e
    by fault.TextTooLong e = cc e
    by fault.OutOfRange e = cc e
    by fault.DivisionByZero e = cc e
    by fault.Record e = cc e
    by fault.Key e = cc e

-- what is planned for the rows that pass a test is what becomes of all
made_sparsely : (c : Contents) (name : Name) (table : Table) → get (database_of c) name ≡ Some table → (planned : Planned) (test : Row → Bool)
    → planned.numbers ≡ map (λ (e : Entry). e.0) (filter (λ (e : Entry). test e.1) (entries_of (get c name)))
    → (k : Contents) → all_made name planned.numbers planned.changes k ≡ all_made name (map (λ (e : Entry). e.0) (entries_of (get c name))) (spread test table.rows planned.changes) k
made_sparsely c name table there planned test numbered k =
    let held = held_as c name table there in
    let rows : rows_of (entries_of (get c name)) ≡ table.rows = ap (λ o. rows_of (entries_of o)) held.1 ∙ ap (λ (t : Table). t.rows) held.2 in
    ap (λ (ns : List ℕ). all_made name ns planned.changes k) numbered
    ∙ made-spread name test (entries_of (get c name)) planned.changes k
    ∙ ap (λ (rs : List Row). all_made name (map (λ (e : Entry). e.0) (entries_of (get c name))) (spread test rs planned.changes) k) rows

-- the rows that the table had are those that stay and those that go
went_from : (table : Table) (test : Row → Bool) (planned : Planned) → planned.gone ≡ rows_gone (filter test table.rows) planned.changes
    → Permutes (staying table.rows (spread test table.rows planned.changes) ++ planned.gone) table.rows
went_from table test planned left_out =
    subst (λ (rows : List Row). Permutes (staying table.rows (spread test table.rows planned.changes) ++ rows) table.rows) (sym left_out)
    (gone-permutes test table.rows planned.changes)

-- ---- UPDATE

module _ (reading : CheckReading) (c : Contents) (u : Update) (table : Table) (there : get (database_of c) u.table ≡ Some table) where
  abbrev updated : Evaluation (List (Bool × Row))
  updated = updated_rows (checks_of reading u.table table) (rows_in (database_of c)) table u

  update_is : changed reading (database_of c) (does.Update u)
      ≡ unless_raised updated (λ rows. with_rows reading (database_of c) u.table table (map (λ r. r.1) rows) (count_by (λ r. r.0) rows))
  update_is = ap (λ o. on_table (database_of c) o (update_in reading (database_of c) u)) there

  pub update_meant : (planned : Planned) (test : Row → Bool) → planned.numbers ≡ map (λ (e : Entry). e.0) (filter (λ (e : Entry). test e.1) (entries_of (get c u.table)))
      → (found : List (Bool × Row)) → updated ≡ Ok found → AreUpdates table (spread test table.rows planned.changes) found → length planned.changes ≤ length (filter test table.rows)
      → planned.gone ≡ rows_gone (filter test table.rows) planned.changes → IsMeant reading c (does.Update u) u.table planned
  update_meant planned test numbered found e are few left_out = record {
    table = table;
    there = there;
    all = spread test table.rows planned.changes;
    made_so = made_sparsely c u.table table there planned test numbered;
    short = every-spread (IsShort table.indexes) test table.rows planned.changes are.short;
    left = map (λ r. r.1) found;
    count = count_by (λ r. r.0) found;
    touched = sym (count-spread test table.rows planned.changes) ∙ are.as_many;
    are = are;
    others = staying table.rows (spread test table.rows planned.changes);
    before = went_from table test planned left_out;
    among =
        subst (λ (rows : List Row). Permutes (staying table.rows (spread test table.rows planned.changes) ++ rows_new planned.changes) rows) are.left_so
        (left-permutes test table.rows planned.changes few);
    means = update_is ∙ ap (λ x. unless_raised x (λ (rows : List (Bool × Row)). with_rows reading (database_of c) u.table table (map (λ r. r.1) rows) (count_by (λ r. r.0) rows))) e;
  }

  pub update_stopped : (s : Stop) → IsFaultOf (faults_in updated) s → RefusesChange reading (database_of c) (does.Update u) (refused_by s)
  update_stopped s h = stopped reading (database_of c) (does.Update u) updated (λ rows. with_rows reading (database_of c) u.table table (map (λ r. r.1) rows) (count_by (λ r. r.0) rows)) s update_is h

  -- a table whose keys stay, and to which no row comes that violates a constraint alone, holds
  pub update_harmless : (planned : Planned) (test : Row → Bool) → planned.numbers ≡ map (λ (e : Entry). e.0) (filter (λ (e : Entry). test e.1) (entries_of (get c u.table)))
      → (found : List (Bool × Row)) → updated ≡ Ok found → AreUpdates table (spread test table.rows planned.changes) found → length planned.changes ≤ length (filter test table.rows)
      → planned.gone ≡ rows_gone (filter test table.rows) planned.changes
      → (planned.harmless ≡ true → KeepAll (Keeps reading u.table table table.constraints) (filter test table.rows) planned.changes) → IsHarmless reading c (does.Update u) u.table planned
  unfolding update_meant
  update_harmless planned test numbered found e are few left_out keeps = record {
    meant = update_meant planned test numbered found e are few left_out;
    others_good = λ unsure holds. staying-hold reading u.table table (spread test table.rows planned.changes) (holds table there);
    leaves_good = λ sure holds. ap (λ (rows : List Row). violated_by reading u.table (record table { rows = rows })) (sym are.left_so)
        ∙ constraints-kept reading u.table table (spread test table.rows planned.changes)
        (keep-spread (Keeps reading u.table table table.constraints) test table.rows planned.changes (keeps sure)) (holds table there);
  }

-- ---- DELETE

module _ (reading : CheckReading) (c : Contents) (d : Delete) (table : Table) (there : get (database_of c) d.table ≡ Some table) where
  abbrev deleted : Evaluation (List (Bool × Row))
  deleted = deleted_rows (rows_in (database_of c)) table d

  deletion_is : changed reading (database_of c) (does.Delete d)
      ≡ unless_raised deleted (λ rows. with_rows reading (database_of c) d.table table (map (λ r. r.1) (filter (λ r. not r.0) rows)) (count_by (λ r. r.0) rows))
  deletion_is = ap (λ o. on_table (database_of c) o (delete_from reading (database_of c) d)) there

  pub deletion_meant : (planned : Planned) (test : Row → Bool) → planned.harmless ≡ true → planned.numbers ≡ map (λ (e : Entry). e.0) (filter (λ (e : Entry). test e.1) (entries_of (get c d.table)))
      → (found : List (Bool × Row)) → deleted ≡ Ok found → AreDeletions table (spread test table.rows planned.changes) found → length planned.changes ≤ length (filter test table.rows)
      → planned.gone ≡ rows_gone (filter test table.rows) planned.changes → IsMeant reading c (does.Delete d) d.table planned
  deletion_meant planned test sure numbered found e are few left_out = record {
    table = table;
    there = there;
    all = spread test table.rows planned.changes;
    made_so = made_sparsely c d.table table there planned test numbered;
    short = every-spread (IsShort table.indexes) test table.rows planned.changes are.short;
    left = map (λ r. r.1) (filter (λ r. not r.0) found);
    count = count_by (λ r. r.0) found;
    touched = sym (count-spread test table.rows planned.changes) ∙ are.as_many;
    are = are;
    others = staying table.rows (spread test table.rows planned.changes);
    before = went_from table test planned left_out;
    among =
        subst (λ (rows : List Row). Permutes (staying table.rows (spread test table.rows planned.changes) ++ rows_new planned.changes) rows) are.left_so
        (left-permutes test table.rows planned.changes few);
    means = deletion_is ∙ ap (λ x. unless_raised x (λ (rows : List (Bool × Row)). with_rows reading (database_of c) d.table table (map (λ r. r.1) (filter (λ r. not r.0) rows)) (count_by (λ r. r.0) rows))) e;
  }

  -- fewer rows violate no more
  pub deletion_harmless : (planned : Planned) (test : Row → Bool) → planned.harmless ≡ true
      → planned.numbers ≡ map (λ (e : Entry). e.0) (filter (λ (e : Entry). test e.1) (entries_of (get c d.table)))
      → (found : List (Bool × Row)) → deleted ≡ Ok found → AreDeletions table (spread test table.rows planned.changes) found → length planned.changes ≤ length (filter test table.rows)
      → planned.gone ≡ rows_gone (filter test table.rows) planned.changes → IsHarmless reading c (does.Delete d) d.table planned
  unfolding deletion_meant
  deletion_harmless planned test sure numbered found e are few left_out =
      let own : map (λ (r : Bool × Row). r.1) found ≡ table.rows = own-rows (is_touched (rows_in (database_of c)) d.filter) table.rows found e in record {
        meant = deletion_meant planned test sure numbered found e are few left_out;
        others_good = λ unsure holds. absurd (cc (sure, unsure));
        leaves_good = λ said holds. violates-no-more (λ (r : Bool × Row). not r.0) reading d.table table found
            (ap (λ (rows : List Row). violated_by reading d.table (record table { rows = rows })) own ∙ holds table there);
      }

  pub deletion_stopped : (s : Stop) → IsFaultOf (faults_in deleted) s → RefusesChange reading (database_of c) (does.Delete d) (refused_by s)
  deletion_stopped s h =
      stopped reading (database_of c) (does.Delete d) deleted (λ rows. with_rows reading (database_of c) d.table table (map (λ r. r.1) (filter (λ r. not r.0) rows)) (count_by (λ r. r.0) rows)) s deletion_is h
