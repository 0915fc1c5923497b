-- The columns that constraints and indexes of typed statements name by their places are columns of
-- their table.
use Rattle.std.proofs.Common.{◌≡◌, ℕ, suc, ◌+◌, ◌<◌, ◌≤◌, refl, sym, ap, ◌∙◌, subst, Bool, true, false, List, [], ◌∷◌, ◌++◌, map, length, Ok, Err, Option, Some, None, arith, lt-ltb, le_refl}
use Rattle.std.specs.Prelude.{Contains, slice_get, not, is_none, cond, nat_lt}
use Rattle.std.specs.List.{position_from, zip}
use Rattle.std.specs.Cmp.Lexicographic.{bytes_decides}
use Rattle.std.proofs.lemmas.List.Folds.{list_all-append}
use Rattle.sqlval.specs.Schema.{same_name, table_place}
use Rattle.ast.specs.declared.statement.ColumnConstraint.{ColumnConstraint}
use Rattle.sqlval.specs.declared.schema.Column.{Column}
use Rattle.sqlval.specs.declared.schema.Constraint.{Constraint}
use Rattle.sqlval.specs.declared.schema.Rule.{Rule}
use Rattle.sqlval.specs.declared.schema.Rule.TheVariants.{Check, ForeignKey}
use Rattle.ast.specs.declared.statement.ColumnDefinition.{ColumnDefinition}
use Rattle.ast.specs.declared.statement.TableElement.{TableElement}
use Rattle.ast.specs.declared.statement.TableElement.TheVariants as element
use Rattle.ast.specs.declared.statement.CreateTable.{CreateTable as Tree}
use Rattle.ast.specs.declared.statement.CreateIndex.{CreateIndex as IndexTree}
use Rattle.typing.specs.declared.statement.CreateTable.{CreateTable}
use Rattle.typing.specs.declared.statement.CreateIndex.{CreateIndex}
use Rattle.typing.specs.declared.scope.Frame.{Frame}
use Rattle.ast.specs.declared.statement.ColumnRule.{ColumnRule}
use Rattle.ast.specs.declared.statement.ColumnRule.TheVariants as column_rule
use Rattle.ast.specs.declared.statement.References.{References}
use Rattle.ast.specs.declared.statement.TableRule.{TableRule}
use Rattle.ast.specs.declared.statement.TableRule.TheVariants as table_rule
use Rattle.denote.specs.Database.{Database, Table, columns_named, constraint_columns, are_places}
use Rattle.typing.specs.Finding.{Finding, ◌>>=◌, also, before, each}
use Rattle.typing.specs.Known.{Known, place_in, table_of, table_at, known_table, known}
use Rattle.typing.specs.declared.known.KnownTable.{KnownTable}
use Rattle.denote.specs.SchemaOf.{IsSchemaOf}
use Rattle.sqlval.specs.declared.schema.Table as declared
use Rattle.sqlval.specs.declared.schema.Schema.{Schema}
use Rattle.std.specs.FinMap.{get}
use Rattle.std.specs.Option.{option_map}
use Rattle.typing.specs.Table.{as_found, places_named, at_most, distinct_found, is_new}
use Rattle.typing.specs.Check.{check_found}
use Rattle.typing.specs.Printed.{printed}
use Rattle.refusals.specs.declared.limit.Limit.TheVariants as limit
use Rattle.typing.specs.Constraint.{Declared, Referencing, primary_key, unique, column_rule_at, defined_place, key_places, table_rule_of, declared_from, constraints_found, are_allowed, named, names_from}
use Rattle.typing.specs.CreateTable.{definitions, defined_frame, columns_found, column_found, own_table, create_found}
use Rattle.typing.specs.declared.known.Meant.{Meant}
use Rattle.typing.specs.References.{meant_by, matched, reference_found, referenced_table}
use Rattle.typing.specs.Index.{index_found, room_for_one}

-- what is known of what is found
abbrev pub IfFound : {A : Type 0} → (A → Type 0) → Finding A → Type 0
IfFound P (Ok x) = P x
IfFound P (Err reasons) = Unit {0}

abbrev pub EveryOf : {A : Type 0} → (A → Type 0) → List A → Type 0
EveryOf P [] = Unit {0}
EveryOf P (x ∷ xs) = P x × EveryOf P xs

abbrev pub EveryFound : {A : Type 0} → (A → Type 0) → List (Finding A) → Type 0
EveryFound P xs = EveryOf (IfFound P) xs

pub found-then : {A B : Type 0} (P : A → Type 0) (Q : B → Type 0) (x : Finding A) (next : A → Finding B) → IfFound P x → ((a : A) → P a → IfFound Q (next a)) → IfFound Q (x >>= next)
found-then P Q (Ok a) next h k = k a h
found-then P Q (Err reasons) next h k = tt

pub found-is : {A : Type 0} (P : A → Type 0) (x : Finding A) (a : A) → IfFound P x → x ≡ Ok a → P a
found-is P x a h e = subst (IfFound P) e h

pub found-second : {A B : Type 0} (P : B → Type 0) (x : Finding A) (y : Finding B) → IfFound P y → IfFound P (also x y >>= (λ p. Ok p.1))
found-second P (Ok a) (Ok b) h = h
found-second P (Ok a) (Err reasons) h = tt
found-second P (Err reasons) y h = tt

pub found-any : {A : Type 0} (x : Finding A) → IfFound (λ _. Unit {0}) x
found-any (Ok a) = tt
found-any (Err reasons) = tt

found-between : {A B C : Type 0} (P : B → Type 0) (x : Finding A) (y : Finding B) (z : Finding C) → IfFound P y
    → IfFound (λ (p : (A × B) × C). P (p.0).1) (also (also x y) z)
found-between P (Ok a) (Ok b) (Ok c) h = h
found-between P (Ok a) (Ok b) (Err reasons) h = tt
found-between P (Ok a) (Err reasons) z h = tt
found-between P (Err reasons) y z h = tt

-- each of these, where it is found, has a property; so have all of them
pub found-each : {A : Type 0} (P : A → Type 0) (xs : List (Finding A)) → EveryFound P xs → IfFound (EveryOf P) (each xs)
found-each P [] h = tt
found-each {A = A} P (x ∷ xs) (h, k) = at x h (each xs) (found-each P xs k)
  where
    at : (x : Finding A) → IfFound P x → (others : Finding (List A)) → IfFound (EveryOf P) others → IfFound (EveryOf P) (before x others)
    at (Ok a) h (Ok others) k = (h, k)
    at (Ok a) h (Err reasons) k = tt
    at (Err reasons) h others k = tt

-- ---- places

abbrev is_none_type : {A : Type 0} → Option A → Type 0
is_none_type None = Unit {0}
is_none_type (Some x) = ⊥

abbrev given_or : ℕ → Option ℕ → ℕ
given_or n None = n
given_or n (Some p) = p

none_some : {p : ℕ} → None ≡ Some p → ⊥
none_some e = subst (λ (o : Option ℕ). is_none_type o) e tt

same_some : {p q : ℕ} → Some p ≡ Some q → p ≡ q
same_some {p} e = ap (given_or p) e

-- a place that is found lies among the elements
pub placed : {A : Type 0} (test : A → Bool) (at : ℕ) (xs : List A) (p : ℕ) → position_from test at xs ≡ Some p → p < at + length xs
placed test at [] p e = absurd (none_some e)
placed test at (x ∷ xs) p e = go (test x) (placed test (at + 1) xs p) e
  where
    go : (b : Bool) → (position_from test (at + 1) xs ≡ Some p → p < at + 1 + length xs) → cond b (Some at) (position_from test (at + 1) xs) ≡ Some p → p < at + suc (length xs)
    go true later f = let is : at ≡ p = same_some f in omega (arith, is)
    go false later f = let h : p < at + 1 + length xs = later f in omega (arith, h)

-- of what is looked for by name, each is among so many
pub named-among : (count : ℕ) (find : List ℕ → Option ℕ) → ((name : List ℕ) (p : ℕ) → find name ≡ Some p → p < count) → (names : List (List ℕ))
    → IfFound (λ places. are_places count places ≡ true) (each (map (λ name. as_found (find name)) names))
named-among count find h [] = refl
named-among count find h (name ∷ names) = at (find name) refl (each (map (λ n. as_found (find n)) names)) (named-among count find h names)
  where
    at : (found : Option ℕ) → find name ≡ found → (others : Finding (List ℕ)) → IfFound (λ places. are_places count places ≡ true) others
        → IfFound (λ places. are_places count places ≡ true) (before (as_found found) others)
    at None e others k = tt
    at (Some p) e (Ok places) k = rw (lt-ltb p count (h name p e), k) refl
    at (Some p) e (Err reasons) k = tt

module _ (count : ℕ) where
  abbrev Among : Rule → Type 0
  Among r = are_places count (columns_named r) ≡ true

  abbrev IsDeclared : Declared → Type 0
  IsDeclared d = IfFound Among d.rule

  printed-among : {A : Type 0} (text : List ℕ) (x : Finding A) → IfFound Among (x >>= (λ a. Ok (Check text)))
  printed-among text (Ok a) = refl
  printed-among text (Err reasons) = tt

  primary-among : (name : Option (List ℕ)) (key : Finding (List ℕ)) → IfFound (λ places. are_places count places ≡ true) key → IsDeclared (primary_key name key)
  primary-among name key h = found-then (λ places. are_places count places ≡ true) Among key _ h (λ places k. k)

  unique-among : (name : Option (List ℕ)) (key : Finding (List ℕ)) → IfFound (λ places. are_places count places ≡ true) key → IsDeclared (unique name key)
  unique-among name key h = found-then (λ places. are_places count places ≡ true) Among key _ h (λ places k. k)

  -- where the columns of a foreign key are among these, what is found of it names no others
  abbrev KeepsAmong : Referencing → Type 0
  KeepsAmong referencing = (places : Finding (List ℕ)) → IfFound (λ ps. are_places count ps ≡ true) places
      → (x : References) → IfFound Among (referencing places x)

  references-among : (known : Known) (name : List ℕ) (own : Finding KnownTable) → KeepsAmong (reference_found known name own)
  references-among known name own places h x =
      let meant : Finding Meant = meant_by (referenced_table known name own x.table) x.columns in
      found-then (λ (p : (KnownTable × List ℕ) × Meant). are_places count (p.0).1 ≡ true) Among (also (also own places) meant)
      (λ p. matched ((p.0).0).columns (p.0).1 (p.1).table (p.1).columns >>= (λ u.
      Ok (ForeignKey (record { columns = (p.0).1; table = x.table; referenced = (p.1).columns }))))
      (found-between (λ ps. are_places count ps ≡ true) own places meant h)
      (λ p k. found-then (λ _. Unit {0}) Among (matched ((p.0).0).columns (p.0).1 (p.1).table (p.1).columns)
      (λ u. Ok (ForeignKey (record { columns = (p.0).1; table = x.table; referenced = (p.1).columns })))
      (found-any (matched ((p.0).0).columns (p.0).1 (p.1).table (p.1).columns)) (λ u v. k))

  pub one-among : (place : ℕ) → place < count → are_places count (place ∷ []) ≡ true
  one-among place h = rw (lt-ltb place count h) refl

  column-among : (frame : Frame) (referencing : Referencing) → KeepsAmong referencing → (place : ℕ) (name : Option (List ℕ)) (r : ColumnRule) → place < count → IsDeclared (column_rule_at frame referencing place name r)
  column-among frame referencing keeps place name column_rule.NotNull h = one-among place h
  column-among frame referencing keeps place name column_rule.PrimaryKey h = primary-among name (Ok (place ∷ [])) (one-among place h)
  column-among frame referencing keeps place name column_rule.Unique h = unique-among name (Ok (place ∷ [])) (one-among place h)
  column-among frame referencing keeps place name (column_rule.Check condition) h = printed-among (printed condition) (also (at_most 800 limit.Check (length (printed condition))) (check_found frame condition))
  column-among frame referencing keeps place name (column_rule.References x) h = keeps (Ok (place ∷ [])) (one-among place h) x

  pub keys-among : (ds : List ColumnDefinition) → length ds ≡ count → (names : List (List ℕ)) → IfFound (λ places. are_places count places ≡ true) (key_places ds names)
  keys-among ds is names =
      let below : (name : List ℕ) (p : ℕ) → defined_place ds name ≡ Some p → p < count = λ name p e. (let h : p < 0 + length ds = placed (λ d. same_name d.column name) 0 ds p e in omega (arith, h, is)) in
      found-second (λ places. are_places count places ≡ true) (also (at_most 4 limit.KeyColumns (length names)) (distinct_found names)) (each (map (λ name. as_found (defined_place ds name)) names))
      (named-among count (defined_place ds) below names)

  table-among : (frame : Frame) (referencing : Referencing) → KeepsAmong referencing → (ds : List ColumnDefinition) → length ds ≡ count → (name : Option (List ℕ)) (r : TableRule) → IsDeclared (table_rule_of frame referencing ds name r)
  table-among frame referencing keeps ds is name (table_rule.PrimaryKey names) = primary-among name (key_places ds names) (keys-among ds is names)
  table-among frame referencing keeps ds is name (table_rule.Unique names) = unique-among name (key_places ds names) (keys-among ds is names)
  table-among frame referencing keeps ds is name (table_rule.Check condition) = printed-among (printed condition) (also (at_most 800 limit.Check (length (printed condition))) (check_found frame condition))
  table-among frame referencing keeps ds is name (table_rule.ForeignKey x) = keeps (key_places ds x.columns) (keys-among ds is x.columns) x.references

  every-append : {A : Type 0} (P : A → Type 0) (xs ys : List A) → EveryOf P xs → EveryOf P ys → EveryOf P (xs ++ ys)
  every-append P [] ys h k = k
  every-append P (x ∷ xs) ys (h, hs) k = (h, every-append P xs ys hs k)

  columns-among : (frame : Frame) (referencing : Referencing) → KeepsAmong referencing → (place : ℕ) → place < count → (cs : List ColumnConstraint) → EveryOf IsDeclared (map (λ c. column_rule_at frame referencing place c.name c.rule) cs)
  columns-among frame referencing keeps place h [] = tt
  columns-among frame referencing keeps place h (c ∷ cs) = (column-among frame referencing keeps place c.name c.rule h, columns-among frame referencing keeps place h cs)

  declared-among : (frame : Frame) (referencing : Referencing) → KeepsAmong referencing → (ds : List ColumnDefinition) → length ds ≡ count → (place : ℕ) (elements : List TableElement) → place + length (definitions elements) ≤ count
      → EveryOf IsDeclared (declared_from frame referencing ds place elements)
  declared-among frame referencing keeps ds is place [] h = tt
  declared-among frame referencing keeps ds is place (element.Column definition ∷ elements) h =
      let below : place < count = omega (arith, h) in
      let rest : place + 1 + length (definitions elements) ≤ count = omega (arith, h) in
      every-append IsDeclared (map (λ c. column_rule_at frame referencing place c.name c.rule) definition.constraints) (declared_from frame referencing ds (place + 1) elements)
      (columns-among frame referencing keeps place below definition.constraints) (declared-among frame referencing keeps ds is (place + 1) elements rest)
  declared-among frame referencing keeps ds is place (element.Constraint c ∷ elements) h = (table-among frame referencing keeps ds is c.name c.rule, declared-among frame referencing keeps ds is place elements h)

  among-append : (xs ys : List ℕ) → are_places count xs ≡ true → are_places count ys ≡ true → are_places count (xs ++ ys) ≡ true
  among-append xs ys h k = rw (list_all-append (λ place. nat_lt place count) xs ys, h, k) refl

  named-rules : (names : List (List ℕ)) (rules : List Rule) → EveryOf Among rules → are_places count (constraint_columns (map named (zip names rules))) ≡ true
  named-rules [] rules h = refl
  named-rules (name ∷ names) [] h = refl
  named-rules (name ∷ names) (r ∷ rules) (h, hs) = among-append (columns_named r) (constraint_columns (map named (zip names rules))) h (named-rules names rules hs)

  rules-of : (ds : List Declared) → EveryOf IsDeclared ds → EveryFound Among (map (λ c. c.rule) ds)
  rules-of [] h = tt
  rules-of (d ∷ ds) (h, hs) = (h, rules-of ds hs)

  abbrev AreAmong : List Constraint → Type 0
  AreAmong constraints = are_places count (constraint_columns constraints) ≡ true

  constraints-among : (ds : List Declared) → EveryOf IsDeclared ds → IfFound AreAmong (constraints_found ds)
  constraints-among ds h = at (are_allowed ds) (each (map (λ c. c.rule) ds)) (found-each Among (map (λ c. c.rule) ds) (rules-of ds h))
    where
      at : (allowed : Finding (Unit {0})) (rules : Finding (List Rule)) → IfFound (EveryOf Among) rules
          → IfFound AreAmong (also allowed rules >>= (λ p. Ok (map named (zip (names_from 1 ds) p.1))))
      at (Ok u) (Ok rules) k = named-rules (names_from 1 ds) rules k
      at (Ok u) (Err reasons) k = tt
      at (Err reasons) rules k = tt

-- ---- the columns of CREATE TABLE

each-length : {A B : Type 0} (f : A → Finding B) (xs : List A) → IfFound (λ ys. length ys ≡ length xs) (each (map f xs))
each-length f [] = refl
each-length {A = A} {B = B} f (x ∷ xs) = at (f x) (each (map f xs)) (each-length f xs)
  where
    at : (one : Finding B) (others : Finding (List B)) → IfFound (λ ys. length ys ≡ length xs) others → IfFound (λ ys. length ys ≡ suc (length xs)) (before one others)
    at (Ok y) (Ok ys) h = ap suc h
    at (Ok y) (Err reasons) h = tt
    at (Err reasons) others h = tt

pub columns-length : (columns : List ColumnDefinition) → IfFound (λ cs. length cs ≡ length columns) (columns_found columns)
columns-length columns = found-second (λ cs. length cs ≡ length columns)
    (also (at_most 32 limit.Columns (length columns)) (distinct_found (map (λ definition. definition.column) columns))) (each (map column_found columns))
    (each-length column_found columns)

abbrev pub created_among : CreateTable → Type 0
created_among c = are_places (length c.columns) (constraint_columns c.constraints) ≡ true

created-found : (known : Known) (tree : Tree) → IfFound created_among (create_found known tree)
created-found known tree =
    let columns = definitions tree.elements in
    let own = own_table columns tree.elements in
    let declared = declared_from (defined_frame tree.table columns) (reference_found known tree.table own) columns 0 tree.elements in
    at (is_new (not (is_none (known.table tree.table)))) (columns_found columns) (constraints_found declared) (columns-length columns)
    (constraints-among (length columns) declared (declared-among (length columns) (defined_frame tree.table columns)
    (reference_found known tree.table own) (references-among (length columns) known tree.table own) columns refl 0 tree.elements (let whole : length columns ≤ length columns = le_refl (length columns) in omega (arith, whole))))
  where
    at : (new : Finding (Unit {0})) (columns : Finding (List Column)) (constraints : Finding (List Constraint))
        → IfFound (λ cs. length cs ≡ length (definitions tree.elements)) columns → IfFound (AreAmong (length (definitions tree.elements))) constraints
        → IfFound created_among (also new (also columns constraints) >>= (λ p. Ok (record { name = tree.table; columns = (p.1).0; constraints = (p.1).1 })))
    at (Ok u) (Ok cs) (Ok ks) h k = rw h k
    at (Ok u) (Ok cs) (Err reasons) h k = tt
    at (Ok u) (Err reasons) ks h k = tt
    at (Err reasons) cs ks h k = tt

pub created-places : (known : Known) (tree : Tree) (c : CreateTable) → create_found known tree ≡ Ok c → created_among c
created-places known tree c e = found-is created_among (create_found known tree) c (created-found known tree) e

-- ---- the columns of CREATE INDEX

-- the table is known, and these are places of its columns
abbrev AreIn : Known → List ℕ → List ℕ → Type 0
AreIn known name places = (table : KnownTable) × (known.table name ≡ Some table) × (are_places (length table.columns) places ≡ true)

index-found : (known : Known) (tree : IndexTree) → IfFound (λ (c : CreateIndex). AreIn known c.table c.columns) (index_found known tree)
index-found known tree = at (also (is_new (known.has_index tree.index)) (also (at_most 4 limit.KeyColumns (length tree.columns)) (distinct_found tree.columns))) (known.table tree.table) refl
  where
    places : (new : Finding (Unit {0} × (Unit {0} × Unit {0}))) (table : KnownTable) → known.table tree.table ≡ Some table
        → (room : Finding (Unit {0})) (named : Finding (List ℕ)) → IfFound (λ ps. are_places (length table.columns) ps ≡ true) named
        → IfFound (λ (c : CreateIndex). AreIn known c.table c.columns) (also new (also room named) >>= (λ p. Ok (record { name = tree.index; table = tree.table; columns = (p.1).1 })))
    places (Ok u) table is (Ok v) (Ok ps) h = (table, is, h)
    places (Ok u) table is (Ok v) (Err reasons) h = tt
    places (Ok u) table is (Err reasons) named h = tt
    places (Err reasons) table is room named h = tt

    at : (new : Finding (Unit {0} × (Unit {0} × Unit {0}))) (found : Option KnownTable) → known.table tree.table ≡ found
        → IfFound (λ (c : CreateIndex). AreIn known c.table c.columns)
        (also new (as_found found >>= (λ table. also (room_for_one table) (places_named table.columns tree.columns))) >>= (λ p. Ok (record { name = tree.index; table = tree.table; columns = (p.1).1 })))
    at (Ok u) None is = tt
    at (Err reasons) None is = tt
    at new (Some table) is = places new table is (room_for_one table) (places_named table.columns tree.columns)
        (named-among (length table.columns) (place_in table.columns)
        (λ name p e. (let h : p < 0 + length table.columns = placed (λ column. same_name column.name name) 0 table.columns p e in omega (arith, h))) tree.columns)

-- ---- the tables that a schema knows

abbrev known_or : KnownTable → Option KnownTable → KnownTable
known_or t None = t
known_or t (Some table) = table

same_known : {t u : KnownTable} → Some t ≡ Some u → t ≡ u
same_known {t} e = ap (known_or t) e

pub none_known : {t : KnownTable} → None ≡ Some t → ⊥
none_known e = subst (λ (o : Option KnownTable). is_none_type o) e tt

abbrev stored_or : Table → Option Table → Table
stored_or t None = t
stored_or t (Some table) = table

pub same_stored : {t u : Table} → Some t ≡ Some u → t ≡ u
same_stored {t} e = ap (stored_or t) e

-- what a place that is found gives
abbrev pub IsFirst : {A : Type 0} → (A → Bool) → ℕ → List A → ℕ → Type 0
IsFirst {A} test at xs p = (k : ℕ) × (p ≡ at + k) × ((x : A) × (slice_get xs k ≡ Some x) × (test x ≡ true) × Contains xs x)

pub first_is : {A : Type 0} (test : A → Bool) (at : ℕ) (xs : List A) (p : ℕ) → position_from test at xs ≡ Some p → IsFirst test at xs p
first_is test at [] p e = absurd (none_some e)
first_is {A = A} test at (x ∷ xs) p e = go (test x) refl (first_is test (at + 1) xs p) e
  where
    further : IsFirst test (at + 1) xs p → IsFirst test at (x ∷ xs) p
    further (k, is, (y, found, passes, (j, less, same))) =
        let next : p ≡ at + suc k = omega (arith, is) in
        let within : suc j < length (x ∷ xs) = omega (arith, less) in
        (suc k, next, (y, found, passes, (suc j, within, same)))

    go : (b : Bool) → test x ≡ b → (position_from test (at + 1) xs ≡ Some p → IsFirst test (at + 1) xs p)
        → cond b (Some at) (position_from test (at + 1) xs) ≡ Some p → IsFirst test at (x ∷ xs) p
    go true is later f =
        let here : at ≡ p = same_some f in
        let next : p ≡ at + 0 = omega (arith, here) in
        let within : 0 < length (x ∷ xs) = omega (arith) in
        (0, next, (x, refl, is, (0, within, refl)))
    go false is later f = further (later f)

-- a table that a schema knows is one of its tables, of that name
pub known-one : (name : List ℕ) (schema : Schema) (t : KnownTable) → table_of schema name ≡ Some t
    → (d : declared.Table) × Contains schema.tables d × (d.name ≡ name) × (known_table d ≡ t)
known-one name schema t e = go (table_place name schema) refl e
  where
    at : (p : ℕ) → IsFirst (λ (table : declared.Table). same_name table.name name) 0 schema.tables p → option_map known_table (slice_get schema.tables p) ≡ Some t
        → (d : declared.Table) × Contains schema.tables d × (d.name ≡ name) × (known_table d ≡ t)
    at p (k, is, (d, found, passes, among)) f =
        let same : p ≡ k = omega (arith, is) in
        let here : slice_get schema.tables p ≡ Some d = subst (λ q. slice_get schema.tables q ≡ Some d) (sym same) found in
        (d, among, (bytes_decides d.name name).0 passes, same_known (sym (ap (option_map known_table) here) ∙ f))

    go : (place : Option ℕ) → table_place name schema ≡ place → option_map known_table (table_at schema place) ≡ Some t
        → (d : declared.Table) × Contains schema.tables d × (d.name ≡ name) × (known_table d ≡ t)
    go None is f = absurd (none_known f)
    go (Some p) is f = at p (first_is (λ (table : declared.Table). same_name table.name name) 0 schema.tables p is) f

known-declared : (name : List ℕ) (schema : Schema) (t : KnownTable) → table_of schema name ≡ Some t
    → (d : declared.Table) × Contains schema.tables d × (d.name ≡ name) × (d.columns ≡ t.columns)
known-declared name schema t e =
    let (d, one, called, is) = known-one name schema t e in
    (d, one, called, ap (λ (u : KnownTable). u.columns) is)

-- the places that a typed CREATE INDEX names are those of columns of its table
pub index-places : (schema : Schema) (db : Database) (tree : IndexTree) (c : CreateIndex) (table : Table) → IsSchemaOf schema db → index_found (known schema) tree ≡ Ok c
    → get db c.table ≡ Some table → are_places (length table.columns) c.columns ≡ true
index-places schema db tree c table of found e =
    let (t, known_as, among) = found-is (λ (i : CreateIndex). AreIn (known schema) i.table i.columns) (index_found (known schema) tree) c (index-found (known schema) tree) found in
    let (d, one, called, columns) = known-declared c.table schema t known_as in
    let (u, is, declares) = of.tables d one in
    let same : u ≡ table = same_stored (sym is ∙ ap (get db) called ∙ e) in
    subst (λ (cs : List Column). are_places (length cs) c.columns ≡ true) (sym columns ∙ declares.columns ∙ ap (λ (v : Table). v.columns) same) among
