-- Keys that are looked up one after another, and the table of the database to which rows come.
use Rattle.std.proofs.Common.{◌≡◌, ◌∙◌, sym, ap, subst, ℕ, suc, ◌+◌, ◌<◌, Bool, true, ◌||◌, List, [], ◌∷◌, map, drop, length, get_or, drop-cons, Option, Some, None, Ok, Err, IfOk, arith}
use Rattle.std.specs.Prelude.{Contains, Result}
use Rattle.std.specs.List.{list_all}
use Rattle.std.specs.Option.{option_map}
use Rattle.std.specs.FinMap.{get}
use Rattle.sqlval.specs.declared.schema.Column.{Column}
use Rattle.sqlval.specs.declared.schema.Constraint.{Constraint}
use Rattle.sqlval.specs.declared.schema.Schema.{Schema}
use Rattle.sqlval.specs.declared.schema.Table as declared
use Rattle.sqlval.specs.Matching.{key_of}
use Rattle.sqlval.specs.Value.{Row}
use Rattle.denote.specs.Database.{Name, Table, CheckReading, table_of, violated_by}
use Rattle.denote.specs.SchemaOf.{IsSchemaOf, index_of}
use Rattle.store.specs.Contents.{StoredTable, Contents, database_of, rows_of}
use Rattle.store.specs.Contents.{table_of as held}
use Rattle.store.specs.Indexes.{entries_of, sought}
use Rattle.store.proofs.Databases.{database-get}
use Rattle.constraints.specs.declared.foreseeing.Alone.TheVariants.{Violates, Keys}
use Rattle.constraints.specs.declared.foreseen.Foreseen.{Foreseen}
use Rattle.constraints.specs.declared.foreseen.Foreseen.TheVariants.{Open}
use Rattle.constraints.specs.declared.keys.Key.{Key}
use Rattle.constraints.specs.Alone.{IsAlone}
use Rattle.constraints.specs.Foreseen.{Comes, with_more, keys_asked, are_more, is_met, met_in, foreseen_at, foreseen_by, Foretells, IsSaid, is_over, columns_of_key, has_key_indexes}
use Rattle.constraints.proofs.Foretelling.{foretold, violated-alone}
use Rattle.constraints.proofs.Recounted.{retold, violated-among}
use Rattle.constraints.proofs.Said.{says-something}
use Rattle.constraints.proofs.Held.{held_as}
use Rattle.constraints.proofs.Violations.{same_some, table_read}

-- a property of what a call gives, which has a premise of the call
pub when : {X E : Type 0} (r : Result X E) (S : Type 0) (P Q : X → Type 0) → (S → IfOk r P) → ((x : X) → (S → P x) → Q x) → IfOk r Q
when (Ok x) S P Q h f = f x h
when (Err e) S P Q h f = tt

-- ---- one after another

-- the rows from one on are met where it is, or one of the others
pub met-next : (own : ℕ) (table now : Option StoredTable) (place : ℕ) (columns : List ℕ) (rows : List Row) (k : ℕ) (row : Row) (b : Bool) → now ≡ table → k < length rows → row ≡ get_or rows k row
    → b ≡ are_more own (sought now place (key_of columns row)) → is_met own table place columns (drop k rows) ≡ (b || is_met own table place columns (drop (k + 1) rows))
met-next own table now place columns rows k row b same below is found =
    let one : drop k rows ≡ row ∷ drop (suc k) rows = drop-cons rows k row below ∙ ap (λ (x : Row). x ∷ drop (suc k) rows) (sym is) in
    let more : suc k ≡ k + 1 = omega arith in
    let rest : drop k rows ≡ row ∷ drop (k + 1) rows = one ∙ ap (λ (n : ℕ). row ∷ drop n rows) more in
    ap (is_met own table place columns) rest
    ∙ ap (λ c. c || is_met own table place columns (drop (k + 1) rows)) (sym (found ∙ ap (λ (t : Option StoredTable). are_more own (sought t place (key_of columns row))) same))

-- the keys from one on
pub key-next : (own : ℕ) (table now : Option StoredTable) (rows : List Row) (keys rest : List Key) (key : Key) (place : ℕ) (b : Bool) → now ≡ table → keys ≡ key ∷ rest → key.place ≡ Some place
    → b ≡ is_met own now place key.columns rows → foreseen_by (met_in own table rows) keys ≡ foreseen_at (Some b) key.constraint (foreseen_by (met_in own table rows) rest)
key-next own table now rows keys rest key place b same all at found =
    ap (foreseen_by (met_in own table rows)) all
    ∙ ap (λ o. foreseen_at (option_map (λ (place : ℕ). is_met own table place key.columns rows) o) key.constraint (foreseen_by (met_in own table rows) rest)) at
    ∙ ap (λ c. foreseen_at (Some c) key.constraint (foreseen_by (met_in own table rows) rest)) (sym (found ∙ ap (λ (t : Option StoredTable). is_met own t place key.columns rows) same))

pub key-open : (own : ℕ) (table : Option StoredTable) (rows : List Row) (keys rest : List Key) (key : Key) → keys ≡ key ∷ rest → key.place ≡ None → foreseen_by (met_in own table rows) keys ≡ Open
key-open own table rows keys rest key all at =
    ap (foreseen_by (met_in own table rows)) all
    ∙ ap (λ o. foreseen_at (option_map (λ (place : ℕ). is_met own table place key.columns rows) o) key.constraint (foreseen_by (met_in own table rows) rest)) at

-- ---- the table

-- the table that is declared, as the database and the store hold it
record Stands (c : Contents) (name : Name) (d : declared.Table) (table : Table) : Type 0 where
  pub stored : StoredTable
  pub there : get c name ≡ Some stored
  pub table_is : table ≡ table_of d (rows_of stored.entries)
  pub indexes : map index_of d.indexes ≡ stored.indexes

module _ (c : Contents) (schema : Schema) (name : Name) (d : declared.Table) (of : IsSchemaOf schema (database_of c)) (inside : Contains schema.tables d)
    (named : d.name ≡ name) (table : Table) (there : get (database_of c) name ≡ Some table) where
  stands : Stands c name d table
  stands =
      let found = held_as c name table there in
      let read : get (database_of c) name ≡ Some (table_of d (rows_of found.0.entries)) =
      table_read c schema name d (rows_of found.0.entries) of inside named (ap (λ o. rows_of (entries_of o)) (sym found.1)) in
      let is : table ≡ table_of d (rows_of found.0.entries) = same_some table (table_of d (rows_of found.0.entries)) (sym there ∙ read) in
      record {
        stored = found.0;
        there = found.1;
        table_is = is;
        indexes = ap (λ (t : Table). t.indexes) (sym is) ∙ ap (λ (t : Table). t.indexes) (sym found.2);
      }

module _ (reading : CheckReading) (c : Contents) (schema : Schema) (name : Name) (d : declared.Table) (of : IsSchemaOf schema (database_of c)) (inside : Contains schema.tables d)
    (named : d.name ≡ name) (table : Table) (there : get (database_of c) name ≡ Some table) where
  it : Stands c name d table
  it = stands c schema name d of inside named table there

  -- what decides its CHECKs
  pub still_decides : (decides : Name → List Column → List Constraint → Type 0) → decides name table.columns table.constraints → decides name d.columns d.constraints
  still_decides decides h = let s = it in subst (λ (u : Table). decides name u.columns u.constraints) s.table_is h

  -- a table to which rows come, as the schema declares it
  abbrev Shown : StoredTable → List Row → ℕ → Table → Table → Type 0
  Shown stored rows own before whole = Comes (table_of d (rows_of stored.entries)) rows own before whole

  shown : (rows : List Row) (own : ℕ) (before whole : Table) → Comes table rows own before whole → Shown it.stored rows own before whole
  shown rows own before whole comes = subst (λ (u : Table). Comes u rows own before whole) it.table_is comes

  pub told_alone : (rows : List Row) (own : ℕ) (before whole : Table) (constraint : Name) → Comes table rows own before whole → IsAlone reading name d rows (Violates constraint)
      → Contains (violated_by reading name whole) constraint
  told_alone rows own before whole constraint comes one = by (shown rows own before whole comes)
    where
      by : Shown it.stored rows own before whole → Contains (violated_by reading name whole) constraint
      by (Comes.later own_is before_is whole_is) =
          subst (λ (u : Table). Contains (violated_by reading name u) constraint) (sym whole_is) (violated-alone reading name d it.stored rows it.indexes constraint one)
      by (Comes.already others own_is order before_is whole_is) =
          subst (λ (u : Table). Contains (violated_by reading name u) constraint) (sym whole_is) (violated-among reading name d it.stored others rows it.indexes order constraint one)

  pub told : (rows : List Row) (own : ℕ) (before whole : Table) (keys : List Key) (foreseen : Foreseen) → Comes table rows own before whole → IsAlone reading name d rows (Keys keys)
      → foreseen ≡ foreseen_by (met_in own (get c name) rows) keys
      → Foretells foreseen (violated_by reading name before ≡ [] → violated_by reading name whole ≡ []) (λ constraint. Contains (violated_by reading name whole) constraint)
  told rows own before whole keys foreseen comes alone is = by (shown rows own before whole comes)
    where
      met : (n : ℕ) → own ≡ n → foreseen ≡ foreseen_by (met_in n (Some it.stored) rows) (keys_asked d.indexes d.constraints)
      met n own_is =
          is ∙ ap (λ o. foreseen_by (met_in own o rows) keys) it.there ∙ ap (foreseen_by (met_in own (Some it.stored) rows)) alone.0
          ∙ ap (λ (m : ℕ). foreseen_by (met_in m (Some it.stored) rows) (keys_asked d.indexes d.constraints)) own_is

      both : (b w : Table) → before ≡ b → whole ≡ w
          → Foretells foreseen (violated_by reading name b ≡ [] → violated_by reading name w ≡ []) (λ constraint. Contains (violated_by reading name w) constraint)
          → Foretells foreseen (violated_by reading name before ≡ [] → violated_by reading name whole ≡ []) (λ constraint. Contains (violated_by reading name whole) constraint)
      both b w before_is whole_is h =
          subst (λ (u : Table). Foretells foreseen (violated_by reading name u ≡ [] → violated_by reading name whole ≡ []) (λ constraint. Contains (violated_by reading name whole) constraint)) (sym before_is)
          (subst (λ (u : Table). Foretells foreseen (violated_by reading name b ≡ [] → violated_by reading name u ≡ []) (λ constraint. Contains (violated_by reading name u) constraint)) (sym whole_is) h)

      by : Shown it.stored rows own before whole
          → Foretells foreseen (violated_by reading name before ≡ [] → violated_by reading name whole ≡ []) (λ constraint. Contains (violated_by reading name whole) constraint)
      by (Comes.later own_is before_is whole_is) =
          both (table_of d (rows_of it.stored.entries)) (with_more (table_of d (rows_of it.stored.entries)) rows) before_is whole_is
          (foretold reading name d it.stored rows it.indexes foreseen (met 0 own_is) alone.1)
      by (Comes.already others own_is order before_is whole_is) =
          both (table_of d others) (table_of d (rows_of it.stored.entries)) before_is whole_is
          (retold reading name d it.stored others rows it.indexes order foreseen (met 1 own_is) alone.1)

-- each key that a constraint asks for is looked up, where it has an index
pub said_of : (c : Contents) (schema : Schema) (name : Name) (d : declared.Table) → IsSchemaOf schema (database_of c) → Contains schema.tables d → d.name ≡ name
    → (own : ℕ) (table : StoredTable) (rows : List Row) (keys : List Key) (foreseen : Foreseen) → get c name ≡ Some table → keys ≡ keys_asked d.indexes d.constraints
    → foreseen ≡ foreseen_by (met_in own (get c name) rows) keys → has_key_indexes table ≡ true → IsSaid foreseen
said_of c schema name d of inside named own table rows keys foreseen is asked met indexed =
    let there : get (database_of c) name ≡ Some (held table) = database-get c name ∙ ap (option_map held) is in
    let s = stands c schema name d of inside named (held table) there in
    let same : table ≡ s.stored = same_some table s.stored (sym is ∙ s.there) in
    let indexes : map index_of d.indexes ≡ table.indexes = s.indexes ∙ ap (λ (t : StoredTable). t.indexes) (sym same) in
    let constraints : d.constraints ≡ table.constraints = ap (λ (t : Table). t.constraints) (sym s.table_is) in
    let all : list_all (λ (c : Constraint). is_over (columns_of_key c.rule) (map index_of d.indexes)) d.constraints ≡ true =
    (λ i. list_all (λ (c : Constraint). is_over (columns_of_key c.rule) (indexes i)) (constraints i)) ∙ indexed in
    subst IsSaid (sym (met ∙ ap (foreseen_by (met_in own (get c name) rows)) asked)) (says-something own (get c name) rows d.indexes d.constraints all)
