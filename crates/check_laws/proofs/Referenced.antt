-- What the foreign keys of a CREATE TABLE reference is there, and no table that is dropped is
-- referenced by another one.
use Rattle.std.proofs.Common.{◌≡◌, ℕ, zero, suc, ◌+◌, ◌<◌, ◌≤◌, refl, sym, ap, ◌∙◌, subst, Bool, true, false, ◌&&◌, ◌||◌, List, [], ◌∷◌, ◌++◌, map, length, Ok, Err, Option, Some, None, arith, le_refl}
use Rattle.std.specs.Prelude.{Contains, slice_get, slice_index_or, not, is_some, is_none, cond, nat_eq, nat_lt, flat_map}
use Rattle.std.specs.List.{list_any, filter_map, cons_option, position_from, zip}
use Rattle.std.specs.Option.{option_map}
use Rattle.std.specs.Cmp.Lexicographic.{bytes_decides, nat_list_cmp_total}
use Rattle.std.specs.FinMap.{get, insert, keys, contains_key-keys, get-insert, slice_cmp-IsAntisymmetric, nat_cmp-IsAntisymmetric}
use Rattle.std.specs.Cmp.{eq_by_cmp_equiv}
use Rattle.std.specs.Ordering.{is_eq, eq_by_cmp}
use Rattle.std.specs.declared.cmp.Ordering.{Ordering}
use Rattle.std.specs.declared.cmp.Ordering.TheVariants.{Less, Equal, Greater}
use Rattle.std.proofs.lemmas.Bool.{eqb-true}
use Rattle.std.proofs.lemmas.List.Folds.{list_all-append}
use Rattle.refusals.specs.declared.limit.Limit.TheVariants as limit
use Rattle.refusals.specs.declared.reason.Reason.TheVariants as reason
use Rattle.sqlval.specs.Comparison.{text_order}
use Rattle.sqlval.specs.Schema.{same_name, table_place}
use Rattle.sqlval.specs.declared.schema.Column.{Column}
use Rattle.sqlval.specs.declared.schema.Constraint.{Constraint}
use Rattle.sqlval.specs.declared.schema.Reference.{Reference}
use Rattle.sqlval.specs.declared.schema.Rule.{Rule}
use Rattle.sqlval.specs.declared.schema.Rule.TheVariants.{NotNull, PrimaryKey, Unique, Check, ForeignKey}
use Rattle.sqlval.specs.declared.schema.Schema.{Schema}
use Rattle.sqlval.specs.declared.schema.Table as declared
use Rattle.ast.specs.declared.statement.ColumnConstraint.{ColumnConstraint}
use Rattle.ast.specs.declared.statement.ColumnDefinition.{ColumnDefinition}
use Rattle.ast.specs.declared.statement.ColumnRule.{ColumnRule}
use Rattle.ast.specs.declared.statement.ColumnRule.TheVariants as column_rule
use Rattle.ast.specs.declared.statement.CreateTable.{CreateTable as Tree}
use Rattle.ast.specs.declared.statement.References.{References}
use Rattle.ast.specs.declared.statement.TableElement.{TableElement}
use Rattle.ast.specs.declared.statement.TableElement.TheVariants as element
use Rattle.ast.specs.declared.statement.TableRule.{TableRule}
use Rattle.ast.specs.declared.statement.TableRule.TheVariants as table_rule
use Rattle.ast.specs.declared.tree.Condition.{Condition}
use Rattle.typing.specs.declared.known.Meant.{Meant}
use Rattle.typing.specs.declared.scope.Frame.{Frame}
use Rattle.typing.specs.declared.statement.CreateTable.{CreateTable}
use Rattle.typing.specs.Check.{check_found, check_rule}
use Rattle.typing.specs.Constraint.{Declared, are_allowed, column_keys, column_rule_at, constraints_found, declared_from, key_found, key_places, keys_from, named, names_from, table_keys, table_rule_of}
use Rattle.typing.specs.CreateTable.{columns_found, create_found, defined_frame, definitions, own_table}
use Rattle.typing.specs.Finding.{Finding, ◌>>=◌, also, each, invalid}
use Rattle.typing.specs.Index.{dropped_table, unreferenced}
use Rattle.typing.specs.Known.{Known, is_referenced, is_reference_to, known, known_key, known_table, place_in, references, table_at, table_of}
use Rattle.typing.specs.declared.known.KnownKey.{KnownKey}
use Rattle.typing.specs.declared.known.KnownTable.{KnownTable}
use Rattle.typing.specs.Printed.{printed}
use Rattle.typing.specs.References.{columns_referenced, count_matches, key_listed, matched, meant_by, primary_columns, reference_found, referenced_table, types_match}
use Rattle.typing.specs.Table.{as_found, at_most, distinct_found, is_new, places_named, table_found}
use Rattle.denote.specs.Bag.{Permutes, nothing, keeps, exchanges, goes_on}
use Rattle.denote.specs.Change.{created}
use Rattle.denote.specs.Database.{Database, Table, AreReferencesIn, HasReferenced, IsReferenceIn, NamesItsColumns, are_places, columns_named, constraint_columns}
use Rattle.denote.specs.SchemaOf.{IsSchemaOf}
use Rattle.check_laws.proofs.Places.{EveryFound, EveryOf, IfFound, columns-length, first_is, found-any, found-each, found-is, found-second, found-then, keys-among, known-one, named-among, one-among, placed, same_stored}

-- ---- what the foreign keys of a CREATE TABLE reference

abbrev AreAmongColumns : ℕ → List ℕ → Type 0
AreAmongColumns count places = are_places count places ≡ true

abbrev AreKeysAmong : ℕ → List KnownKey → Type 0
AreKeysAmong count keys = EveryOf (λ (k : KnownKey). AreAmongColumns count k.columns) keys

abbrev IsWell : KnownTable → Type 0
IsWell t = AreKeysAmong (length t.columns) t.keys

primary-among_keys : (count : ℕ) (keys : List KnownKey) → AreKeysAmong count keys → IfFound (AreAmongColumns count) (primary_columns keys)
primary-among_keys count [] h = tt
primary-among_keys count (k ∷ keys) h = at k.is_primary (primary-among_keys count keys h.1)
  where
    at : (b : Bool) → IfFound (AreAmongColumns count) (primary_columns keys) → IfFound (AreAmongColumns count) (cond b (Ok k.columns) (primary_columns keys))
    at true rest = h.0
    at false rest = rest

columns-among_table : (t : KnownTable) → IsWell t → (names : List (List ℕ)) → IfFound (AreAmongColumns (length t.columns)) (columns_referenced t names)
columns-among_table t h [] = primary-among_keys (length t.columns) t.keys h
columns-among_table t h (name ∷ names) =
    found-second (AreAmongColumns (length t.columns)) (distinct_found (name ∷ names)) (places_named t.columns (name ∷ names))
    (named-among (length t.columns) (place_in t.columns)
    (λ n p e. (let h : p < 0 + length t.columns = placed (λ column. same_name column.name n) 0 t.columns p e in omega (arith, h))) (name ∷ names))

-- ---- the table that is being made

found-append : {A : Type 0} (P : A → Type 0) (xs ys : List (Finding A)) → EveryFound P xs → EveryFound P ys → EveryFound P (xs ++ ys)
found-append P [] ys h k = k
found-append P (x ∷ xs) ys h k = (h.0, found-append P xs ys h.1 k)

module _ (count : ℕ) where
  abbrev IsKeyAmong : KnownKey → Type 0
  IsKeyAmong k = AreAmongColumns count k.columns

  key-among : (is_primary : Bool) (places : Finding (List ℕ)) → IfFound (AreAmongColumns count) places → IfFound IsKeyAmong (key_found is_primary places)
  key-among is_primary places h = found-then (AreAmongColumns count) IsKeyAmong places (λ p. Ok (record { is_primary = is_primary; columns = p })) h (λ p k. k)

  column_keys-among : (place : ℕ) → place < count → (r : ColumnRule) → EveryFound IsKeyAmong (column_keys place r)
  column_keys-among place h column_rule.NotNull = tt
  column_keys-among place h column_rule.PrimaryKey = (one-among count place h, tt)
  column_keys-among place h column_rule.Unique = (one-among count place h, tt)
  column_keys-among place h (column_rule.Check condition) = tt
  column_keys-among place h (column_rule.References x) = tt

  keys_of-among : (place : ℕ) → place < count → (cs : List ColumnConstraint) → EveryFound IsKeyAmong (flat_map (λ c. column_keys place c.rule) cs)
  keys_of-among place h [] = tt
  keys_of-among place h (c ∷ cs) =
      found-append IsKeyAmong (column_keys place c.rule) (flat_map (λ c. column_keys place c.rule) cs) (column_keys-among place h c.rule) (keys_of-among place h cs)

  table_keys-among : (ds : List ColumnDefinition) → length ds ≡ count → (r : TableRule) → EveryFound IsKeyAmong (table_keys ds r)
  table_keys-among ds is (table_rule.PrimaryKey names) = (key-among true (key_places ds names) (keys-among count ds is names), tt)
  table_keys-among ds is (table_rule.Unique names) = (key-among false (key_places ds names) (keys-among count ds is names), tt)
  table_keys-among ds is (table_rule.Check condition) = tt
  table_keys-among ds is (table_rule.ForeignKey x) = tt

  own_keys-among : (ds : List ColumnDefinition) → length ds ≡ count → (place : ℕ) (elements : List TableElement) → place + length (definitions elements) ≤ count
      → EveryFound IsKeyAmong (keys_from ds place elements)
  own_keys-among ds is place [] h = tt
  own_keys-among ds is place (element.Column d ∷ elements) h =
      let below : place < count = omega (arith, h) in
      let rest : place + 1 + length (definitions elements) ≤ count = omega (arith, h) in
      found-append IsKeyAmong (flat_map (λ c. column_keys place c.rule) d.constraints) (keys_from ds (place + 1) elements)
      (keys_of-among place below d.constraints) (own_keys-among ds is (place + 1) elements rest)
  own_keys-among ds is place (element.Constraint c ∷ elements) h =
      found-append IsKeyAmong (table_keys ds c.rule) (keys_from ds place elements) (table_keys-among ds is c.rule) (own_keys-among ds is place elements h)

-- it has as many columns as are defined, and its keys are of these
abbrev IsOwn : ℕ → KnownTable → Type 0
IsOwn count t = (length t.columns ≡ count) × IsWell t

own-well : (elements : List TableElement) → IfFound (IsOwn (length (definitions elements))) (own_table (definitions elements) elements)
own-well elements =
    at (columns_found ds) (each (keys_from ds 0 elements)) (columns-length ds)
    (found-each (IsKeyAmong (length ds)) (keys_from ds 0 elements)
    (own_keys-among (length ds) ds refl 0 elements (let whole : length ds ≤ length ds = le_refl (length ds) in omega (arith, whole))))
  where
    ds : List ColumnDefinition
    ds = definitions elements

    at : (columns : Finding (List Column)) (keys : Finding (List KnownKey)) → IfFound (λ cs. length cs ≡ length ds) columns → IfFound (AreKeysAmong (length ds)) keys
        → IfFound (IsOwn (length ds)) (also columns keys >>= (λ p. Ok (record { columns = p.0; keys = p.1; indexes = length p.1 })))
    at (Ok cs) (Ok ks) h k = (h, rw h k)
    at (Ok cs) (Err reasons) h k = tt
    at (Err reasons) keys h k = tt

-- ---- a table that is there

both-true : (a b : Bool) → (a && b) ≡ true → (a ≡ true) × (b ≡ true)
both-true true b e = (refl, e)
both-true false b e = absurd (cc e)

among-parts : (count : ℕ) (xs ys : List ℕ) → AreAmongColumns count (xs ++ ys) → AreAmongColumns count xs × AreAmongColumns count ys
among-parts count xs ys h = both-true (are_places count xs) (are_places count ys) (sym (list_all-append (λ place. nat_lt place count) xs ys) ∙ h)

keys-kept : (count : ℕ) (cs : List Constraint) → AreAmongColumns count (constraint_columns cs) → AreKeysAmong count (filter_map (λ c. known_key c.rule) cs)
keys-kept count [] h = tt
keys-kept count (c ∷ cs) h =
    let parts = among-parts count (columns_named c.rule) (constraint_columns cs) h in
    at c.rule parts.0 (keys-kept count cs parts.1)
  where
    at : (r : Rule) → AreAmongColumns count (columns_named r) → AreKeysAmong count (filter_map (λ c. known_key c.rule) cs)
        → AreKeysAmong count (cons_option (known_key r) (filter_map (λ c. known_key c.rule) cs))
    at (NotNull column) h k = k
    at (PrimaryKey columns) h k = (h, k)
    at (Unique columns) h k = (h, k)
    at (Check text) h k = k
    at (ForeignKey reference) h k = k

as-found-is : (o : Option KnownTable) (t : KnownTable) → as_found o ≡ Ok t → o ≡ Some t
as-found-is (Some u) t e = cc
as-found-is None t e = absurd (cc e)

-- the tables of a database name their columns
abbrev pub NamesColumns : Database → Type 0
NamesColumns db = (name : List ℕ) (table : Table) → get db name ≡ Some table → NamesItsColumns table

-- a stored table that is known, as it is in the database
record IsStored (db : Database) (name : List ℕ) (t : KnownTable) : Type 0 where
  table : Table
  there : get db name ≡ Some table
  columns : table.columns ≡ t.columns
  well : IsWell t

stored-well : (schema : Schema) (db : Database) → IsSchemaOf schema db → NamesColumns db → (name : List ℕ) (t : KnownTable) → table_found (known schema) name ≡ Ok t
    → IsStored db name t
stored-well schema db of names name t e =
    let (d, one, called, is) = known-one name schema t (as-found-is (table_of schema name) t e) in
    let (u, there, declares) = of.tables d one in
    let here : get db name ≡ Some u = ap (get db) (sym called) ∙ there in
    let among : are_places (length u.columns) (constraint_columns u.constraints) ≡ true = (names name u here).in_constraints in
    let kept : are_places (length d.columns) (constraint_columns d.constraints) ≡ true = (λ i. are_places (length (declares.columns i)) (constraint_columns (declares.constraints i))) ∙ among in
    record {
      table = u;
      there = here;
      columns = sym declares.columns ∙ ap (λ (v : KnownTable). v.columns) is;
      well = subst IsWell is (keys-kept (length d.columns) d.constraints kept);
    }

-- ---- one foreign key

found-last : {A B : Type 0} (P : B → Type 0) (x : Finding A) (y : Finding B) → IfFound P y → IfFound (λ (p : A × B). P p.1) (also x y)
found-last P (Ok a) (Ok b) h = h
found-last P (Ok a) (Err reasons) h = tt
found-last P (Err reasons) y h = tt

abbrev counted_by : Bool → Finding (Unit {0})
counted_by b = cond b (Ok tt) (invalid reason.Columns)

abbrev all_of : Finding (Unit {0}) → Finding (Unit {0}) → Finding (Unit {0}) → Finding (Unit {0})
all_of key count types = also key (also count types) >>= (λ p. Ok tt)

matched-counts : (columns : List Column) (places : List ℕ) (table : KnownTable) (others : List ℕ)
    → IfFound (λ _. length places ≡ length others) (matched columns places table others)
matched-counts columns places table others = at (key_listed table.keys others) (nat_eq (length places) (length others)) refl (types_match columns table.columns places others)
  where
    at : (key : Finding (Unit {0})) (b : Bool) → nat_eq (length places) (length others) ≡ b → (types : Finding (Unit {0}))
        → IfFound (λ (_ : Unit {0}). length places ≡ length others) (all_of key (counted_by b) types)
    at (Ok u) true e (Ok v) = eqb-true (length places) (length others) e
    at (Ok u) true e (Err reasons) = tt
    at (Ok u) false e types = tt
    at (Err reasons) b e types = tt

every-join : {A : Type 0} (P : A → Type 0) (xs ys : List A) → EveryOf P xs → EveryOf P ys → EveryOf P (xs ++ ys)
every-join P [] ys h k = k
every-join P (x ∷ xs) ys h k = (h.0, every-join P xs ys h.1 k)

module _ (k : Known) (own_name : List ℕ) (own : Finding KnownTable) where
  abbrev table-of : List ℕ → Finding KnownTable
  table-of name = referenced_table k own_name own name

  -- the table is found, and these are as many of its columns as there are own ones
  record IsThere (reference : Reference) : Type 0 where
    table : KnownTable
    found : referenced_table k own_name own reference.table ≡ Ok table
    places : AreAmongColumns (length table.columns) reference.referenced
    count : length reference.referenced ≡ length reference.columns

  abbrev IsThereRule : Rule → Type 0
  IsThereRule (NotNull column) = Unit {0}
  IsThereRule (PrimaryKey columns) = Unit {0}
  IsThereRule (Unique columns) = Unit {0}
  IsThereRule (Check text) = Unit {0}
  IsThereRule (ForeignKey reference) = IsThere reference

  module _ (well : (name : List ℕ) (t : KnownTable) → referenced_table k own_name own name ≡ Ok t → IsWell t) where
    abbrev IsMeant : List ℕ → Meant → Type 0
    IsMeant name m = (table-of name ≡ Ok m.table) × AreAmongColumns (length m.table.columns) m.columns

    meant-there : (name : List ℕ) (names : List (List ℕ)) → IfFound (IsMeant name) (meant_by (table-of name) names)
    meant-there name names = at (table-of name) refl
      where
        at : (o : Finding KnownTable) → table-of name ≡ o → IfFound (IsMeant name) (meant_by o names)
        at (Ok t) e = found-then (AreAmongColumns (length t.columns)) (IsMeant name) (columns_referenced t names)
            (λ places. Ok (record { table = t; columns = places })) (columns-among_table t (well name t e) names) (λ places h. (e, h))
        at (Err reasons) e = tt

    reference-there : (places : Finding (List ℕ)) (x : References) → IfFound IsThereRule (reference_found k own_name own places x)
    reference-there places x =
        found-then (λ (p : (KnownTable × List ℕ) × Meant). IsMeant x.table p.1) IsThereRule (also (also own places) (meant_by (table-of x.table) x.columns))
        (λ p. matched ((p.0).0).columns (p.0).1 (p.1).table (p.1).columns >>= (λ u.
        Ok (ForeignKey (record { columns = (p.0).1; table = x.table; referenced = (p.1).columns }))))
        (found-last (IsMeant x.table) (also own places) (meant_by (table-of x.table) x.columns) (meant-there x.table x.columns))
        (λ p h. found-then (λ _. length (p.0).1 ≡ length (p.1).columns) IsThereRule (matched ((p.0).0).columns (p.0).1 (p.1).table (p.1).columns)
        (λ u. Ok (ForeignKey (record { columns = (p.0).1; table = x.table; referenced = (p.1).columns })))
        (matched-counts ((p.0).0).columns (p.0).1 (p.1).table (p.1).columns)
        (λ u e. record { table = (p.1).table; found = h.0; places = h.1; count = sym e }))

    -- ---- all constraints

    check-there : (frame : Frame) (condition : Condition) → IfFound IsThereRule (check_rule frame condition)
    check-there frame condition =
        found-then (λ _. Unit {0}) IsThereRule (also (at_most 800 limit.Check (length (printed condition))) (check_found frame condition)) (λ p. Ok (Check (printed condition)))
        (found-any (also (at_most 800 limit.Check (length (printed condition))) (check_found frame condition))) (λ p u. tt)

    column-there : (frame : Frame) (place : ℕ) (name : Option (List ℕ)) (r : ColumnRule) → IfFound IsThereRule (column_rule_at frame (reference_found k own_name own) place name r).rule
    column-there frame place name column_rule.NotNull = tt
    column-there frame place name column_rule.PrimaryKey = tt
    column-there frame place name column_rule.Unique = tt
    column-there frame place name (column_rule.Check condition) = check-there frame condition
    column-there frame place name (column_rule.References x) = reference-there (Ok (place ∷ [])) x

    table-there : (frame : Frame) (ds : List ColumnDefinition) (name : Option (List ℕ)) (r : TableRule) → IfFound IsThereRule (table_rule_of frame (reference_found k own_name own) ds name r).rule
    table-there frame ds name (table_rule.PrimaryKey names) =
        found-then (λ _. Unit {0}) IsThereRule (key_places ds names) (λ places. Ok (PrimaryKey places)) (found-any (key_places ds names)) (λ places u. tt)
    table-there frame ds name (table_rule.Unique names) =
        found-then (λ _. Unit {0}) IsThereRule (key_places ds names) (λ places. Ok (Unique places)) (found-any (key_places ds names)) (λ places u. tt)
    table-there frame ds name (table_rule.Check condition) = check-there frame condition
    table-there frame ds name (table_rule.ForeignKey x) = reference-there (key_places ds x.columns) x.references

    abbrev IsThereDeclared : Declared → Type 0
    IsThereDeclared d = IfFound IsThereRule d.rule

    columns-there : (frame : Frame) (place : ℕ) (cs : List ColumnConstraint)
        → EveryOf IsThereDeclared (map (λ c. column_rule_at frame (reference_found k own_name own) place c.name c.rule) cs)
    columns-there frame place [] = tt
    columns-there frame place (c ∷ cs) = (column-there frame place c.name c.rule, columns-there frame place cs)

    declared-there : (frame : Frame) (ds : List ColumnDefinition) (place : ℕ) (elements : List TableElement)
        → EveryOf IsThereDeclared (declared_from frame (reference_found k own_name own) ds place elements)
    declared-there frame ds place [] = tt
    declared-there frame ds place (element.Column d ∷ elements) =
        every-join IsThereDeclared (map (λ c. column_rule_at frame (reference_found k own_name own) place c.name c.rule) d.constraints)
        (declared_from frame (reference_found k own_name own) ds (place + 1) elements) (columns-there frame place d.constraints) (declared-there frame ds (place + 1) elements)
    declared-there frame ds place (element.Constraint c ∷ elements) = (table-there frame ds c.name c.rule, declared-there frame ds place elements)

-- ---- a whole CREATE TABLE

module _ (P : Rule → Type 0) where
  named-have : (names : List (List ℕ)) (rules : List Rule) → EveryOf P rules → EveryOf (λ (c : Constraint). P c.rule) (map named (zip names rules))
  named-have [] rules h = tt
  named-have (name ∷ names) [] h = tt
  named-have (name ∷ names) (r ∷ rules) h = (h.0, named-have names rules h.1)

  rules-have : (ds : List Declared) → EveryOf (λ (d : Declared). IfFound P d.rule) ds → EveryFound P (map (λ d. d.rule) ds)
  rules-have [] h = tt
  rules-have (d ∷ ds) h = (h.0, rules-have ds h.1)

  constraints-have : (ds : List Declared) → EveryOf (λ (d : Declared). IfFound P d.rule) ds
      → IfFound (λ cs. EveryOf (λ (c : Constraint). P c.rule) cs) (constraints_found ds)
  constraints-have ds h = at (are_allowed ds) (each (map (λ d. d.rule) ds)) (found-each P (map (λ d. d.rule) ds) (rules-have ds h))
    where
      at : (allowed : Finding (Unit {0})) (rules : Finding (List Rule)) → IfFound (EveryOf P) rules
          → IfFound (λ cs. EveryOf (λ (c : Constraint). P c.rule) cs) (also allowed rules >>= (λ p. Ok (map named (zip (names_from 1 ds) p.1))))
      at (Ok u) (Ok rules) k = named-have (names_from 1 ds) rules k
      at (Ok u) (Err reasons) k = tt
      at (Err reasons) rules k = tt

-- what is found of a CREATE TABLE, part by part
record IsMade (k : Known) (tree : Tree) (c : CreateTable) : Type 0 where
  name : c.name ≡ tree.table
  free : k.table tree.table ≡ None
  columns : columns_found (definitions tree.elements) ≡ Ok c.columns
  constraints : constraints_found (declared_from (defined_frame tree.table (definitions tree.elements))
      (reference_found k tree.table (own_table (definitions tree.elements) tree.elements)) (definitions tree.elements) 0 tree.elements) ≡ Ok c.constraints

made : (k : Known) (tree : Tree) (c : CreateTable) → create_found k tree ≡ Ok c → IsMade k tree c
made k tree c e =
    at (k.table tree.table) refl (columns_found ds) refl (constraints_found all) refl e
  where
    ds : List ColumnDefinition
    ds = definitions tree.elements

    all : List Declared
    all = declared_from (defined_frame tree.table ds) (reference_found k tree.table (own_table ds tree.elements)) ds 0 tree.elements

    same_ok : {A : Type 0} (x y : A) → ◌≡◌ {A = Finding A} (Ok x) (Ok y) → x ≡ y
    same_ok x y f = cc

    at : (o : Option KnownTable) → k.table tree.table ≡ o → (columns : Finding (List Column)) → columns_found ds ≡ columns
        → (constraints : Finding (List Constraint)) → constraints_found all ≡ constraints
        → (also (is_new (not (is_none o))) (also columns constraints) >>= (λ p. Ok (record { name = tree.table; columns = (p.1).0; constraints = (p.1).1 }))) ≡ Ok c
        → IsMade k tree c
    at None f (Ok cs) g (Ok ks) h e =
        let is : ◌≡◌ {A = CreateTable} (record { name = tree.table; columns = cs; constraints = ks }) c = same_ok (record { name = tree.table; columns = cs; constraints = ks }) c e in
        record {
          name = sym (ap (λ (x : CreateTable). x.name) is);
          free = f;
          columns = g ∙ ap (λ (x : CreateTable). Ok x.columns) is;
          constraints = h ∙ ap (λ (x : CreateTable). Ok x.constraints) is;
        }
    at None f (Ok cs) g (Err reasons) h e = absurd (cc e)
    at None f (Err reasons) g ks h e = absurd (cc e)
    at (Some t) f cs g ks h e = absurd (cc e)

-- ---- names

is-same : (name : List ℕ) → eq_by_cmp text_order name name ≡ true
is-same name = (eq_by_cmp_equiv nat_list_cmp_total).refl name

equal-order : (o : Ordering) → is_eq o ≡ true → o ≡ Equal
equal-order Less e = absurd (cc e)
equal-order Equal e = refl
equal-order Greater e = absurd (cc e)

one-name : (name other : List ℕ) → eq_by_cmp text_order name other ≡ true → name ≡ other
one-name name other e = slice_cmp-IsAntisymmetric nat_cmp-IsAntisymmetric name other (equal-order (text_order name other) e)

false-true : (b : Bool) → b ≡ false → b ≡ true → ⊥
false-true b e f = absurd (cc (e, f))

other-name : (one other : List ℕ) → same_name one other ≡ false → eq_by_cmp text_order one other ≡ false
other-name one other e = at (eq_by_cmp text_order one other) refl
  where
    at : (b : Bool) → eq_by_cmp text_order one other ≡ b → b ≡ false
    at true is = absurd (false-true (same_name one other) e ((bytes_decides one other).1 (one-name one other is)))
    at false is = refl

-- ---- the whole

module _ (schema : Schema) (db : Database) (of : IsSchemaOf schema db) (names : NamesColumns db) (tree : Tree) (c : CreateTable)
    (found : create_found (known schema) tree ≡ Ok c) where
  abbrev own : Finding KnownTable
  own = own_table (definitions tree.elements) tree.elements

  abbrev new : Database
  new = insert db c.name (created c)

  is : IsMade (known schema) tree c
  is = made (known schema) tree c found

  every-well : (name : List ℕ) (t : KnownTable) → referenced_table (known schema) tree.table own name ≡ Ok t → IsWell t
  every-well name t e = at (same_name name tree.table) e
    where
      at : (b : Bool) → cond b own (table_found (known schema) name) ≡ Ok t → IsWell t
      at true f = (found-is (IsOwn (length (definitions tree.elements))) own t (own-well tree.elements) f).1
      at false f = (stored-well schema db of names name t f).well

  own-count : (t : KnownTable) → own ≡ Ok t → length t.columns ≡ length c.columns
  own-count t f =
      (found-is (IsOwn (length (definitions tree.elements))) own t (own-well tree.elements) f).0
      ∙ sym (found-is (λ cs. length cs ≡ length (definitions tree.elements)) (columns_found (definitions tree.elements)) c.columns (columns-length (definitions tree.elements)) is.columns)

  looked : (name : List ℕ) → get new name ≡ cond (eq_by_cmp text_order name c.name) (Some (created c)) (get db name)
  looked name = get-insert nat_list_cmp_total db c.name (created c) name

  one-referenced : (reference : Reference) → IsThere (known schema) tree.table own reference → HasReferenced new reference
  one-referenced reference there = at (same_name reference.table tree.table) refl there.found
    where
      at : (b : Bool) → same_name reference.table tree.table ≡ b → cond b own (table_found (known schema) reference.table) ≡ Ok there.table → HasReferenced new reference
      at true same f =
          let here : eq_by_cmp text_order reference.table c.name ≡ true = subst (λ n. eq_by_cmp text_order n c.name ≡ true) (is.name ∙ sym ((bytes_decides reference.table tree.table).0 same)) (is-same c.name) in
          record {
            table = created c;
            there = looked reference.table ∙ ap (λ b. cond b (Some (created c)) (get db reference.table)) here;
            places = subst (λ n. are_places n reference.referenced ≡ true) (own-count there.table f) there.places;
            count = there.count;
          }
      at false same f =
          let stored = stored-well schema db of names reference.table there.table f in
          let apart : eq_by_cmp text_order reference.table c.name ≡ false = other-name reference.table c.name (ap (same_name reference.table) is.name ∙ same) in
          record {
            table = stored.table;
            there = looked reference.table ∙ ap (λ b. cond b (Some (created c)) (get db reference.table)) apart ∙ stored.there;
            places = subst (λ (cs : List Column). are_places (length cs) reference.referenced ≡ true) (sym stored.columns) there.places;
            count = there.count;
          }

  rule-referenced : (r : Rule) → IsThereRule (known schema) tree.table own r → IsReferenceIn new r
  rule-referenced (NotNull column) h = tt
  rule-referenced (PrimaryKey columns) h = tt
  rule-referenced (Unique columns) h = tt
  rule-referenced (Check text) h = tt
  rule-referenced (ForeignKey reference) h = one-referenced reference h

  all-referenced : (cs : List Constraint) → EveryOf (λ (x : Constraint). IsThereRule (known schema) tree.table own x.rule) cs → AreReferencesIn new cs
  all-referenced [] h = tt
  all-referenced (x ∷ cs) h = (rule-referenced x.rule h.0, all-referenced cs h.1)

  pub references-there : AreReferencesIn new c.constraints
  references-there =
      let frame = defined_frame tree.table (definitions tree.elements) in
      let ds = declared_from frame (reference_found (known schema) tree.table own) (definitions tree.elements) 0 tree.elements in
      all-referenced c.constraints
      (found-is (λ cs. EveryOf (λ (x : Constraint). IsThereRule (known schema) tree.table own x.rule) cs) (constraints_found ds) c.constraints
      (constraints-have (IsThereRule (known schema) tree.table own) ds (declared-there (known schema) tree.table own every-well frame (definitions tree.elements) 0 tree.elements)) is.constraints)

-- ---- the tables of a database, in its schema

any-permutes : {X : Type 0} (p : X → Bool) (xs ys : List X) → Permutes xs ys → list_any p xs ≡ list_any p ys
any-permutes p _ _ nothing = refl
any-permutes p _ _ (keeps x {xs} {ys} h) = ap (λ b. p x || b) (any-permutes p xs ys h)
any-permutes p _ _ (exchanges x y xs) = swap (p x) (p y) (list_any p xs)
  where
    swap : (a b c : Bool) → (a || (b || c)) ≡ (b || (a || c))
    swap true true c = refl
    swap true false c = refl
    swap false b c = refl
any-permutes p _ _ (goes_on {xs} {ys} {zs} h g) = any-permutes p xs ys h ∙ any-permutes p ys zs g

-- one of these passes
any-one : {X : Type 0} (p : X → Bool) (xs : List X) → list_any p xs ≡ true → (x : X) × Contains xs x × (p x ≡ true)
any-one p [] e = absurd (cc e)
any-one {X = X} p (x ∷ xs) e = at (p x) refl e (λ later. any-one p xs later)
  where
    at : (b : Bool) → p x ≡ b → (b || list_any p xs) ≡ true → (list_any p xs ≡ true → (y : X) × Contains xs y × (p y ≡ true))
        → (y : X) × Contains (x ∷ xs) y × (p y ≡ true)
    at true so f rest = (x, (0, omega arith, refl), so)
    at false so f rest = let (y, (i, less, same), passes) = rest f in (y, (suc i, omega (arith, less), same), passes)

any-mapped : {A B : Type 0} (p : B → Bool) (f : A → B) (xs : List A) → list_any p (map f xs) ≡ list_any (λ x. p (f x)) xs
any-mapped p f [] = refl
any-mapped p f (x ∷ xs) = ap (λ b. p (f x) || b) (any-mapped p f xs)

-- a table of a database is declared in its schema
declared-of : (schema : Schema) (db : Database) → IsSchemaOf schema db → (name : List ℕ) (t : Table) → get db name ≡ Some t
    → (d : declared.Table) × Contains schema.tables d × (d.name ≡ name)
declared-of schema db of name t e =
    let among : list_any (eq_by_cmp text_order name) (keys db) ≡ true = sym (contains_key-keys db name) ∙ ap is_some e in
    let there : list_any (λ (d : declared.Table). eq_by_cmp text_order name d.name) schema.tables ≡ true =
    sym (any-mapped (eq_by_cmp text_order name) (λ (d : declared.Table). d.name) schema.tables)
    ∙ any-permutes (eq_by_cmp text_order name) (map (λ (d : declared.Table). d.name) schema.tables) (keys db) of.names ∙ among in
    let (d, one, passes) = any-one (λ (d : declared.Table). eq_by_cmp text_order name d.name) schema.tables there in
    (d, one, sym (one-name name d.name passes))

-- none of those that do not pass is found
none-passes : {X : Type 0} (p : X → Bool) (xs : List X) (x : X) → list_any p xs ≡ false → Contains xs x → p x ≡ false
none-passes p [] x e (i, less, same) = absurd (omega (arith, less))
none-passes {X = X} p (y ∷ xs) x e (i, less, same) = at i less same (neither (p y) (list_any p xs) e) (λ later one. none-passes p xs x later one)
  where
    neither : (a b : Bool) → (a || b) ≡ false → (a ≡ false) × (b ≡ false)
    neither true b e = absurd (cc e)
    neither false b e = (refl, e)

    at : (j : ℕ) → j < length (y ∷ xs) → slice_index_or (y ∷ xs) j x ≡ x → (p y ≡ false) × (list_any p xs ≡ false)
        → (list_any p xs ≡ false → Contains xs x → p x ≡ false) → p x ≡ false
    at zero less same h rest = subst (λ z. p z ≡ false) same h.0
    at (suc j) less same h rest = rest h.1 (j, omega (arith, less), same)

some-passes : {X : Type 0} (p : X → Bool) (xs : List X) (x : X) → Contains xs x → p x ≡ true → list_any p xs ≡ true
some-passes p xs x one passes = at (list_any p xs) refl
  where
    at : (b : Bool) → list_any p xs ≡ b → b ≡ true
    at true e = refl
    at false e = absurd (false-true (p x) (none-passes p xs x e one) passes)

first-there : {X : Type 0} (p : X → Bool) (at : ℕ) (xs : List X) → list_any p xs ≡ true → is_none (position_from p at xs) ≡ false
first-there p at [] e = absurd (cc e)
first-there p at (x ∷ xs) e = go (p x) e (first-there p (at + 1) xs)
  where
    go : (b : Bool) → (b || list_any p xs) ≡ true → (list_any p xs ≡ true → is_none (position_from p (at + 1) xs) ≡ false)
        → is_none (cond b (Some at) (position_from p (at + 1) xs)) ≡ false
    go true f rest = refl
    go false f rest = rest f

-- a name of which the schema knows no table is free
pub name-free : (schema : Schema) (db : Database) → IsSchemaOf schema db → (name : List ℕ) → table_of schema name ≡ None → get db name ≡ None
name-free schema db of name none = at (get db name) refl
  where
    test : declared.Table → Bool
    test table = same_name table.name name

    go : (place : Option ℕ) → position_from test 0 schema.tables ≡ place → is_none place ≡ false → option_map known_table (table_at schema place) ≡ None → ⊥
    go None is some e = absurd (cc some)
    go (Some p) is some e =
        let (k, same, (x, found, passes, among)) = first_is test 0 schema.tables p is in
        let here : slice_get schema.tables p ≡ Some x = subst (λ q. slice_get schema.tables q ≡ Some x) (omega (arith, same)) found in
        absurd (let both : Some (known_table x) ≡ None = sym (ap (option_map known_table) here) ∙ e in cc both)

    at : (o : Option Table) → get db name ≡ o → o ≡ None
    at None e = refl
    at (Some t) e =
        let (d, one, called) = declared-of schema db of name t e in
        absurd (go (position_from test 0 schema.tables) refl
        (first-there test 0 schema.tables (some-passes test schema.tables d one ((bytes_decides d.name name).1 called))) none)

pub created-free : (schema : Schema) (db : Database) (tree : Tree) (c : CreateTable) → IsSchemaOf schema db → create_found (known schema) tree ≡ Ok c → get db c.name ≡ None
created-free schema db tree c of e = let m = made (known schema) tree c e in ap (get db) m.name ∙ name-free schema db of tree.table m.free

-- ---- DROP TABLE

pub nothing-references : (schema : Schema) (db : Database) (name dropped : List ℕ) → IsSchemaOf schema db → dropped_table (known schema) name ≡ Ok dropped
    → (other : List ℕ) (t : Table) → get db other ≡ Some t → same_name other dropped ≡ false → references dropped t.constraints ≡ false
nothing-references schema db name dropped of found other t e apart = at (table_found (known schema) name) (is_referenced schema name) refl found
  where
    same_ok : (x y : List ℕ) → ◌≡◌ {A = Finding (List ℕ)} (Ok x) (Ok y) → x ≡ y
    same_ok x y f = cc

    under : is_referenced schema dropped ≡ false → references dropped t.constraints ≡ false
    under none =
        let (d, one, called) = declared-of schema db of other t e in
        let (u, is, declares) = of.tables d one in
        let same : u ≡ t = same_stored (sym is ∙ ap (get db) called ∙ e) in
        let away = none-passes (λ (table : declared.Table). not (same_name table.name dropped) && references dropped table.constraints) schema.tables d none one in
        let other_one : same_name d.name dropped ≡ false = ap (λ n. same_name n dropped) called ∙ apart in
        ap (references dropped) (sym (declares.constraints ∙ ap (λ (v : Table). v.constraints) same))
        ∙ sym (ap (λ b. not b && references dropped d.constraints) other_one) ∙ away

    at : (table : Finding KnownTable) (b : Bool) → is_referenced schema name ≡ b → (table >>= (λ _. cond b (invalid reason.Reference) (Ok name))) ≡ Ok dropped
        → references dropped t.constraints ≡ false
    at (Ok table) true is f = absurd (cc f)
    at (Ok table) false is f = under (subst (λ n. is_referenced schema n ≡ false) (same_ok name dropped f) is)
    at (Err reasons) b is f = absurd (cc f)
