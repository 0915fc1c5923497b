-- What a CREATE INDEX leaves of a store.
use Rattle.std.proofs.Common.{◌≡◌, ◌∙◌, refl, sym, ap, subst, ℕ, zero, suc, ◌+◌, ◌<◌, false, List, [], ◌∷◌, ◌++◌, Some, None, arith}
use Rattle.std.specs.Prelude.{Contains, flat_map}
use Rattle.std.specs.List.{list_any}
use Rattle.std.specs.FinMap.{get, insert}
use Rattle.refusals.specs.declared.refusal.Refusal.{Refusal}
use Rattle.sqlval.specs.declared.schema.Index.{Index}
use Rattle.sqlval.specs.declared.schema.Schema.{Schema}
use Rattle.sqlval.specs.declared.schema.Table as declared
use Rattle.sqlval.specs.CodedLength.{key_length}
use Rattle.sqlval.specs.Matching.{key_of}
use Rattle.sqlval.specs.Schema.{same_name}
use Rattle.sqlval.specs.Value.{Row}
use Rattle.typing.specs.declared.statement.Change.TheVariants as does
use Rattle.typing.specs.declared.statement.CreateIndex.{CreateIndex}
use Rattle.denote.specs.declared.fault.Fault.{Fault}
use Rattle.denote.specs.declared.fault.Stop.{Stop}
use Rattle.denote.specs.declared.fault.Stop.TheVariants as stop
use Rattle.denote.specs.Change.{Changed, changed, on_table, index_on, unless_raised, IsRaised}
use Rattle.denote.specs.Change.Changed.{Makes}
use Rattle.denote.specs.Database.{Table, Database, CheckReading, IndexDeclaration}
use Rattle.denote.specs.Evaluation.{unless}
use Rattle.denote.specs.SchemaOf.{IsSchemaOf, index_of}
use Rattle.denote.specs.Stop.{IsFaultOf}
use Rattle.denote.specs.StoredRow.{key_faults}
use Rattle.replies.specs.declared.reply.Reply.TheVariants as says
use Rattle.store.specs.Contents.{database_of, indexed, rows_of}
use Rattle.store.specs.declared.error.StoreLimit.{StoreLimit}
use Rattle.store.specs.Errors.{HasLongKey, ChangingReaches, IndexingReaches}
use Rattle.store.specs.Indexes.{entries_of}
use Rattle.store.specs.Stored.{Stored, marked_now, working_on}
use Rattle.transactions.specs.Refused.{TellsReached}
use Rattle.constraints.specs.Changed.{HasChanged, RefusesChange}
use Rattle.constraints.specs.Stopped.{refused_by}
use Rattle.constraints.proofs.Declared.{no_table}
use Rattle.constraints.proofs.Held.{held_as}
use Rattle.constraints.proofs.Limits.{tells_wider}
use Rattle.constraints.proofs.Short.{short_key, none_in}
use Rattle.table_changes.proofs.Made.{indexed-database}

-- no table has the name
pub unchanged : (reading : CheckReading) (old : Stored) (schema : Schema) (x : CreateIndex) → IsSchemaOf schema (database_of old.working)
    → list_any (λ (t : declared.Table). same_name t.name x.table) schema.tables ≡ false → HasChanged reading old (does.CreateIndex x) says.Unchanged old
unchanged reading old schema x h none = record {
  contents = old.working;
  marked = old.marked;
  count = Some 0;
  makes = ap (λ o. on_table (database_of old.working) o (index_on (database_of old.working) x)) (no_table schema (database_of old.working) x.table h none);
  says_so = refl;
  leaves = refl;
}

-- the faults of the keys of rows
abbrev pub faults_of : CreateIndex → List Row → List Fault
faults_of x rows = flat_map (λ row. key_faults row x.columns) rows

module _ (reading : CheckReading) (old : Stored) (x : CreateIndex) where
  abbrev pub rows_there : List Row
  rows_there = rows_of (entries_of (get old.working x.table))

  made_of : (table : Table) → get (database_of old.working) x.table ≡ Some table → table.rows ≡ rows_of (entries_of (get old.working x.table))
  made_of table there =
      let h = held_as old.working x.table table there in
      sym (ap (λ (t : Table). t.rows) h.2) ∙ sym (ap (λ o. rows_of (entries_of o)) h.1)

  changed_is : (table : Table) → get (database_of old.working) x.table ≡ Some table
      → changed reading (database_of old.working) (does.CreateIndex x)
      ≡ unless_raised (unless (faults_of x (rows_of (entries_of (get old.working x.table)))) (record { name = Some x.name; columns = x.columns }))
      (λ index. Makes (insert (database_of old.working) x.table (record table { indexes = table.indexes ++ index ∷ [] })) None)
  changed_is table there =
      ap (λ o. on_table (database_of old.working) o (index_on (database_of old.working) x)) there
      ∙ ap (λ rows. unless_raised (unless (faults_of x rows) (record { name = Some x.name; columns = x.columns })) (λ (index : IndexDeclaration). Makes (insert (database_of old.working) x.table (record table { indexes = table.indexes ++ index ∷ [] })) None))
      (made_of table there)

  -- without faults the index is made
  pub index_made : (mid new : Stored) (index : Index) (table : Table) → get (database_of old.working) x.table ≡ Some table → mid ≡ marked_now old → new ≡ working_on mid (indexed mid.working x.table index)
      → index.name ≡ Some x.name → index.columns ≡ x.columns → faults_of x (rows_of (entries_of (get old.working x.table))) ≡ [] → HasChanged reading old (does.CreateIndex x) says.Done new
  index_made mid new index table there m e name columns none =
      let same : index_of index ≡ record { name = Some x.name; columns = x.columns } = λ i. record { name = name i; columns = columns i } in
      record {
        contents = indexed old.working x.table index;
        marked = old.working;
        count = None;
        makes =
            changed_is table there
            ∙ ap (λ faults. unless_raised (unless faults (record { name = Some x.name; columns = x.columns })) (λ (index : IndexDeclaration). Makes (insert (database_of old.working) x.table (record table { indexes = table.indexes ++ index ∷ [] })) None)) none
            ∙ ap (λ (index : IndexDeclaration). Makes (insert (database_of old.working) x.table (record table { indexes = table.indexes ++ index ∷ [] })) None) (sym same)
            ∙ ap (λ (db : Database). Makes db None) (sym (indexed-database old.working x.table table index there));
        says_so = refl;
        leaves = e ∙ ap (λ (s : Stored). working_on s (indexed s.working x.table index)) m;
      }

  -- a table has the name, or nothing is to be made
  pub there_or_unchanged : (table : Table) → get (database_of old.working) x.table ≡ Some table → (s : Stop) → IsFaultOf (faults_of x (rows_of (entries_of (get old.working x.table)))) s
      → RefusesChange reading (database_of old.working) (does.CreateIndex x) (refused_by s)
  there_or_unchanged table there stop.Memory h = RefusesChange.withheld tt
  there_or_unchanged table there (stop.Fault fault) h =
      RefusesChange.raises fault refl
      (subst (λ (c : Changed). IsRaised c fault) (sym (changed_is table there)) (raised (faults_of x (rows_of (entries_of (get old.working x.table)))) h))
    where
      raised : (faults : List Fault) → Contains faults fault
          → IsRaised (unless_raised (unless faults (record { name = Some x.name; columns = x.columns })) (λ (index : IndexDeclaration). Makes (insert (database_of old.working) x.table (record table { indexes = table.indexes ++ index ∷ [] })) None)) fault
      raised [] h = absurd (let below = h.1 in omega (arith, below))
      raised (f ∷ faults) h = h

-- no key of these rows is too long for the index
pub no_long_key : (columns : List ℕ) (rows : List Row) (index : IndexDeclaration) → index.columns ≡ columns → flat_map (λ row. key_faults row columns) rows ≡ [] → HasLongKey (index ∷ []) rows → ⊥
no_long_key columns rows index e none long =
    let only : long.index ≡ index = one long.among in
    let same : long.index.columns ≡ columns = ap (λ (d : IndexDeclaration). d.columns) only ∙ e in
    let short = none_in (λ row. key_faults row columns) rows long.row none long.one in
    short_key long.row columns short (subst (λ (places : List ℕ). 600 < key_length (key_of places long.row) + 8) same long.long)
  where
    one : Contains (index ∷ []) long.index → long.index ≡ index
    one (zero, below, is) = sym is
    one (suc k, below, is) = absurd (omega (arith, below))

-- what it reaches, but for keys that are too long, is what the store counts
pub indexing_reaches : (counted : StoreLimit → Type 0) (rows : List Row) (index : IndexDeclaration) (r : Refusal) → TellsReached (IndexingReaches counted rows index) r → TellsReached (ChangingReaches counted) r
indexing_reaches counted rows index r h = tells_wider (IndexingReaches counted rows index) (ChangingReaches counted) (λ reached. reached) (λ reached. reached) (λ never. absurd never) r h
