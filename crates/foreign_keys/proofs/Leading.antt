-- The tables that a schema declares are those that a reading shows: so are their indexes, and the
-- foreign keys that are asked are those of its tables.
use Rattle.std.proofs.Common.{◌≡◌, refl, ap, sym, ◌∙◌, subst, ℕ, Bool, true, false, ◌||◌, if◌then◌else◌, List, [], ◌∷◌, map, Option, Some, None, arith}
use Rattle.std.specs.Prelude.{All, Contains, slice_get, is_some}
use Rattle.std.specs.List.{list_any}
use Rattle.std.specs.Option.{option_map}
use Rattle.std.specs.FinMap.{get, keys, contains_key-keys}
use Rattle.std.proofs.lemmas.List.Elements.{All-weaker, Contains-append_right}
use Rattle.std.proofs.lemmas.Option.{slice_get-map}
use Rattle.sqlval.specs.declared.schema.Constraint.{Constraint}
use Rattle.sqlval.specs.declared.schema.Reference.{Reference}
use Rattle.sqlval.specs.declared.schema.Rule.{Rule}
use Rattle.sqlval.specs.declared.schema.Rule.TheVariants.{NotNull, PrimaryKey, Unique, Check, ForeignKey}
use Rattle.sqlval.specs.declared.schema.Schema.{Schema}
use Rattle.sqlval.specs.declared.schema.Table as declared
use Rattle.denote.specs.Database.{Name, IndexDeclaration, Table, rows_in}
use Rattle.denote.specs.Database.{rows_of as rows_found}
use Rattle.denote.specs.SchemaOf.{IsSchemaOf, index_of}
use Rattle.operator_laws.proofs.Orders.{list_any-permutes}
use Rattle.denote_laws.proofs.Maps.{is_name, is_name-equal}
use Rattle.store.specs.Contents.{Contents, StoredTable, database_of, table_of, rows_of}
use Rattle.store.specs.Indexes.{columns_at, entries_of}
use Rattle.store.specs.View.{Shown}
use Rattle.store.proofs.Databases.{database-get}
use Rattle.foreign_keys.specs.declared.asked.Asked.{Asked}
use Rattle.foreign_keys.specs.declared.ways.Way.{Way}
use Rattle.foreign_keys.specs.Asked.{Question, question_of, is_at_end, question_at, questions_of, questions_in, LeadsIn, HasWays}
use Rattle.foreign_keys.specs.Sources.{Leads, LeadsAt, rows_shown}
use Rattle.foreign_keys.proofs.Following.{some-still}
use Rattle.foreign_keys.proofs.Members.{same-some, mapped-in, of-mapped, filtered-in, of-filtered, joined-in, of-joined}

-- ---- the database and what is stored

-- a table of the database is held
held-as : (c : Contents) (name : Name) (table : Table) → get (database_of c) name ≡ Some table → (t : StoredTable) × (get c name ≡ Some t) × (table_of t ≡ table)
held-as c name table e = by (get c name) refl (sym (database-get c name) ∙ e)
  where
    by : (o : Option StoredTable) → get c name ≡ o → option_map table_of o ≡ Some table → (t : StoredTable) × (get c name ≡ Some t) × (table_of t ≡ table)
    by None is h = absurd (cc h)
    by (Some t) is h = (t, is, same-some (table_of t) table h)

-- the rows of a table are those that are shown
pub rows-held : (shown : Shown) (name : Name) → rows_in (database_of shown.contents) name ≡ rows_shown shown name
rows-held shown name = ap rows_found (database-get shown.contents name) ∙ by (get shown.contents name)
  where
    by : (o : Option StoredTable) → rows_found (option_map table_of o) ≡ rows_of (entries_of o)
    by None = refl
    by (Some t) = refl

-- a table of a name is declared
named-one : (name : Name) (tables : List declared.Table) → list_any (is_name name) (map (λ (d : declared.Table). d.name) tables) ≡ true
    → (d : declared.Table) × Contains tables d × (d.name ≡ name)
named-one name [] e = absurd (cc)
named-one name (t ∷ tables) e = by (is_name name t.name) refl e (named-one name tables)
  where
    by : (b : Bool) → is_name name t.name ≡ b → (b || list_any (is_name name) (map (λ (d : declared.Table). d.name) tables)) ≡ true
        → (list_any (is_name name) (map (λ (d : declared.Table). d.name) tables) ≡ true → (d : declared.Table) × Contains tables d × (d.name ≡ name))
        → (d : declared.Table) × Contains (t ∷ tables) d × (d.name ≡ name)
    by true is e rest = (t, (0, omega arith, refl), sym (is_name-equal name t.name is))
    by false is e rest = let one = rest e in (one.0, Contains-append_right (t ∷ []) tables one.0 one.1, one.2)

module _ (c : Contents) (schema : Schema) (of : IsSchemaOf schema (database_of c)) where
  pub declared-at : (name : Name) (table : Table) → get (database_of c) name ≡ Some table
      → (d : declared.Table) × Contains schema.tables d × (d.name ≡ name) × (d.constraints ≡ table.constraints)
  declared-at name table there =
      let keyed : list_any (is_name name) (keys (database_of c)) ≡ true = sym (contains_key-keys (database_of c) name) ∙ ap is_some there in
      let one = named-one name schema.tables (list_any-permutes (is_name name) (map (λ (d : declared.Table). d.name) schema.tables) (keys (database_of c)) of.names ∙ keyed) in
      let found = of.tables one.0 one.1 in
      let same : found.0 ≡ table = same-some found.0 table (sym found.1 ∙ ap (get (database_of c)) one.2 ∙ there) in
      (one.0, one.1, one.2, found.2.constraints ∙ ap (λ (t : Table). t.constraints) same)

  -- its indexes are those that are stored
  indexes-of : (name : Name) (d : declared.Table) → Contains schema.tables d → d.name ≡ name → (t : StoredTable) × (get c name ≡ Some t) × (map index_of d.indexes ≡ t.indexes)
  indexes-of name d inside named =
      let found = of.tables d inside in
      let there : get (database_of c) name ≡ Some found.0 = ap (get (database_of c)) (sym named) ∙ found.1 in
      let one = held-as c name found.0 there in
      (one.0, one.1, found.2.indexes ∙ ap (λ (t : Table). t.indexes) (sym one.2))

  leads-at : (name : Name) (from to : List ℕ) (way : Way) → LeadsIn schema name from to way → LeadsAt (get c name) from to way
  leads-at name from to way h =
      let one = indexes-of name h.0 h.1 h.2 in
      let there : slice_get one.0.indexes way.place ≡ Some (index_of h.3.index) =
      ap (λ (xs : List IndexDeclaration). slice_get xs way.place) (sym one.2) ∙ slice_get-map index_of h.0.indexes way.place ∙ ap (option_map index_of) h.3.there in
      record {
        columns = h.3.index.columns;
        over = ap (λ (t : Option StoredTable). columns_at t way.place) one.1 ∙ ap (option_map (λ (i : IndexDeclaration). i.columns)) there;
        pairs = h.3.pairs;
      }

-- the indexes of what is asked are those of the tables that are shown
pub leads-all : (shown : Shown) (schema : Schema) → IsSchemaOf schema (database_of shown.contents) → (asked : List Asked) → All (HasWays schema) asked → All (Leads shown) asked
leads-all shown schema of asked h = All-weaker (HasWays schema) (Leads shown) one asked h
  where
    leading : (name : Name) (from to : List ℕ) (way : Way) → LeadsIn schema name from to way → LeadsAt (get shown.contents name) from to way
    leading = leads-at shown.contents schema of

    one : (asked : Asked) → HasWays schema asked → Leads shown asked
    one asked ways =
        let r = asked.reference in
        record {
          matches = some-still (LeadsIn schema r.table r.columns r.referenced) (LeadsAt (get shown.contents r.table) r.columns r.referenced) asked.matches (leading r.table r.columns r.referenced) ways.matches;
          again = some-still (LeadsIn schema r.table r.referenced r.referenced) (LeadsAt (get shown.contents r.table) r.referenced r.referenced) asked.again (leading r.table r.referenced r.referenced) ways.again;
          referencing = some-still (LeadsIn schema asked.table r.referenced r.columns) (LeadsAt (get shown.contents asked.table) r.referenced r.columns) asked.referencing (leading asked.table r.referenced r.columns) ways.referencing;
        }

-- ---- what is asked

abbrev pub asking : Name → Name → Reference → Question
asking constraint table reference = record { constraint = constraint; table = table; reference = reference }

question-is : (name other constraint : Name) (rule : Rule) (q : Question) → question_at name other constraint rule ≡ Some q
    → (rule ≡ ForeignKey q.reference) × (constraint ≡ q.constraint) × (other ≡ q.table)
question-is name other constraint (NotNull column) q e = absurd (cc e)
question-is name other constraint (PrimaryKey columns) q e = absurd (cc e)
question-is name other constraint (Unique columns) q e = absurd (cc e)
question-is name other constraint (Check text) q e = absurd (cc e)
question-is name other constraint (ForeignKey reference) q e = by (is_at_end name other reference) e
  where
    by : (b : Bool) → (if b then Some (asking constraint other reference) else None) ≡ Some q → (ForeignKey reference ≡ ForeignKey q.reference) × (constraint ≡ q.constraint) × (other ≡ q.table)
    by true e =
        let same : asking constraint other reference ≡ q = same-some (asking constraint other reference) q e in
        (ap (λ (x : Question). ForeignKey x.reference) same, ap (λ (x : Question). x.constraint) same, ap (λ (x : Question). x.table) same)
    by false e = absurd (cc e)

module _ (schema : Schema) (name : Name) (asked : List Asked) (questions : map question_of asked ≡ questions_in schema name) where
  -- each foreign key with the table at one of its ends
  pub asked-for : (d : declared.Table) (k : Constraint) (reference : Reference) → Contains schema.tables d → Contains d.constraints k → k.rule ≡ ForeignKey reference
      → is_at_end name d.name reference ≡ true → (one : Asked) × Contains asked one × (question_of one ≡ asking k.name d.name reference)
  asked-for d k reference inside own is ends =
      let asks : Question = asking k.name d.name reference in
      let asked-so : question_at name d.name k.name k.rule ≡ Some asks = ap (question_at name d.name k.name) is ∙ ap (λ b. if b then Some asks else None) ends in
      let here = filtered-in (λ (x : Constraint). question_at name d.name x.name x.rule) d.constraints k asks own asked-so in
      let all = joined-in (λ (t : declared.Table). questions_of name t.name t.constraints) schema.tables d asks inside here in
      of-mapped question_of asked asks (subst (λ (qs : List Question). Contains qs asks) (sym questions) all)

  -- and nothing else
  pub asked-of : (one : Asked) → Contains asked one
      → (d : declared.Table) × Contains schema.tables d × (k : Constraint) × Contains d.constraints k × (k.rule ≡ ForeignKey one.reference) × (k.name ≡ one.constraint) × (d.name ≡ one.table)
  asked-of one inside =
      let all = subst (λ (qs : List Question). Contains qs (question_of one)) questions (mapped-in question_of asked one inside) in
      let d = of-joined (λ (t : declared.Table). questions_of name t.name t.constraints) schema.tables (question_of one) all in
      let k = of-filtered (λ (x : Constraint). question_at name d.0.name x.name x.rule) d.0.constraints (question_of one) d.2 in
      let parts = question-is name d.0.name k.0.name k.0.rule (question_of one) k.2 in
      (d.0, d.1, k.0, k.1, parts.0, parts.1, parts.2)
