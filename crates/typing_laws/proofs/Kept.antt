-- What INSERT and UPDATE give for a column has its type.
use Rattle.std.proofs.Common.{◌≡◌, refl, sym, ap, ◌∙◌, subst, ℕ, zero, suc, Bool, true, false, true≢false, List, [], ◌∷◌, map, length, drop, Option, Some, None, Ok, Err, IfOk, All, Contains, slice_get, option_map, inl, inr, arith, eqb-true}
use Rattle.std.specs.Prelude.{◌==◌, position, option_and_then, if◌then◌else◌, take}
use Rattle.std.proofs.lemmas.List.Elements.{All-contains, All-contains_itself, All-head, All-tail, All-weaker}
use Rattle.std.proofs.lemmas.List.Quantifiers.{position-Some}
use Rattle.std.proofs.lemmas.Option.{none-some, same_Some, slice_get-get_or, slice_get-map}
use Rattle.sqlval.specs.declared.code.Code.TheVariants.{TextTooLong}
use Rattle.sqlval.specs.declared.schema.Column.{Column}
use Rattle.sqlval.specs.declared.storing.ColumnType.{ColumnType}
use Rattle.sqlval.specs.declared.storing.ColumnType.TheVariants.{Integer, Varchar}
use Rattle.sqlval.specs.declared.value.Value.{Value}
use Rattle.sqlval.specs.declared.value.Value.TheVariants.{Null, Int, Text}
use Rattle.sqlval.specs.declared.value.ValueType.{ValueType}
use Rattle.sqlval.specs.declared.value.ValueType.TheVariants as type
use Rattle.sqlval.specs.Storing.{is_spaces, stored}
use Rattle.sqlval.specs.Value.{Row, is_null}
use Rattle.typing.specs.declared.statement.Assignment.{Assignment}
use Rattle.typing.specs.declared.statement.Insert.{Insert}
use Rattle.typing.specs.declared.statement.InsertSource.{InsertSource}
use Rattle.typing.specs.declared.statement.InsertSource.TheVariants as from
use Rattle.typing.specs.declared.statement.Update.{Update}
use Rattle.typing.specs.declared.typed.Expression.{Expression}
use Rattle.typing.specs.Known.{Known}
use Rattle.typing.specs.Table.{type_in}
use Rattle.denote.specs.Evaluation.{Env, Evaluation}
use Rattle.denote.specs.Meaning.{Tables, query_outcome, value_of}
use Rattle.denote.specs.StoredRow.{given_for}
use Rattle.typing_laws.specs.Statements.{IsAssignmentWell, IsInsertWell, IsStoredAs, IsUpdateWell}
use Rattle.typing_laws.specs.WellTyped.{HaveTypes, Rows, column_types}
use Rattle.typing_laws.specs.WellTyped as typed
use Rattle.typing_laws.specs.Stored.{AreGiven, IsKeptBy}
use Rattle.typing_laws.specs.Types.{HasTypes, HoldsTypes, IsOfType, SeesRows}
use Rattle.typing_laws.proofs.ValueTrees.{query-typed, value-typed}

-- ---- what a column keeps

-- whether this is the type of integers
abbrev is_integer : Option ValueType → Bool
is_integer None = false
is_integer (Some type.Integer) = true
is_integer (Some type.Text) = false

-- what a column of this type holds of a value is null where the value is null, and nowhere else
abbrev Keeps : Value → ColumnType → Type 0
Keeps value column = IfOk (stored value column) (λ held. is_null held ≡ is_null value)

keeps : (value : Value) (column : ColumnType) → IsOfType (type_in column) value → Keeps value column
keeps Null Integer h = refl
keeps Null (Varchar n) h = refl
keeps (Int x) Integer h = refl
keeps (Int x) (Varchar n) (inl e) = absurd (true≢false (sym (ap is_null e)))
keeps (Int x) (Varchar n) (inr e) = absurd (true≢false (ap is_integer e))
keeps (Text codes) Integer (inl e) = absurd (true≢false (sym (ap is_null e)))
keeps (Text codes) Integer (inr e) = absurd (true≢false (sym (ap is_integer e)))
keeps (Text codes) (Varchar n) h = at (is_spaces (drop n codes))
  where
    at : (b : Bool) → IfOk (if b then Ok (Text (take n codes)) else Err TextTooLong) (λ held. is_null held ≡ false)
    at true = refl
    at false = tt

kept-by : (column : Column) (value : Evaluation Value) → IfOk value (IsOfType (type_in column.column_type)) → IfOk value (IsKeptBy column)
kept-by column (Ok x) h = record { typed = h; kept = keeps x column.column_type h }
kept-by column (Err faults) h = tt

-- ---- what is given for the column at a place

-- evaluations whose values, where they have some, are of these types, one each
abbrev GivesTypes : List ValueType → List (Evaluation Value) → Type 0
GivesTypes [] [] = Unit {0}
GivesTypes (t ∷ types) (x ∷ given) = IfOk x (IsOfType t) × GivesTypes types given
GivesTypes _ _ = ⊥

given_at : (types : List ValueType) (given : List (Evaluation Value)) (k : ℕ) (t : ValueType) (x : Evaluation Value) → GivesTypes types given → slice_get types k ≡ Some t → slice_get given k ≡ Some x → IfOk x (IsOfType t)
given_at [] given k t x h e f = absurd (none-some t e)
given_at (u ∷ types) [] k t x h e f = absurd h
given_at (u ∷ types) (y ∷ given) zero t x h e f = subst (λ z. IfOk z (IsOfType t)) (same_Some y x f) (subst (λ v. IfOk y (IsOfType v)) (same_Some u t e) h.0)
given_at (u ∷ types) (y ∷ given) (suc k) t x h e f = given_at types given k t x h.1 e f

-- the item that stands where a place stands among places
abbrev IsGivenAt : {A : Type 0} → ℕ → List ℕ → List A → A → Type 0
IsGivenAt place places items x = (k : ℕ) × (slice_get places k ≡ Some place) × (slice_get items k ≡ Some x)

given-at : {A : Type 0} (place : ℕ) (places : List ℕ) (items : List A) (x : A) → given_for place places items ≡ Some x → IsGivenAt place places items x
given-at {A} place places items x e = go (position (λ p. p == place) places) refl e
  where
    go : (o : Option ℕ) → position (λ p. p == place) places ≡ o → option_and_then (slice_get items) o ≡ Some x → IsGivenAt place places items x
    go None is f = absurd (none-some x f)
    go (Some k) is f =
        let found = position-Some (λ p. p == place) places k 0 is in
        (k, slice_get-get_or places k 0 found.0 ∙ ap Some (eqb-true _ place found.1), f)

-- the type of the column at a place that stands among the places of an INSERT
type_at : (from : List ValueType) (places : List ℕ) (types : List ValueType) → map (slice_get from) places ≡ map Some types → (k place : ℕ) (t : ValueType) → slice_get places k ≡ Some place → slice_get from place ≡ Some t
    → slice_get types k ≡ Some t
type_at from [] types e k place t at there = absurd (none-some place at)
type_at from (p ∷ places) [] e k place t at there = absurd (omega (arith, ap length e))
type_at from (p ∷ places) (u ∷ types) e zero place t at there = sym (same_Some (slice_get from p) (Some u) (ap (λ l. slice_get l 0) e)) ∙ ap (slice_get from) (same_Some p place at) ∙ there
type_at from (p ∷ places) (u ∷ types) e (suc k) place t at there = type_at from places types (ap (drop 1) e) k place t at there

column_type_at : (columns : List Column) (place : ℕ) (column : Column) → slice_get columns place ≡ Some column → slice_get (column_types columns) place ≡ Some (type_in column.column_type)
column_type_at columns place column e = slice_get-map (λ (c : Column). type_in c.column_type) columns place ∙ ap (option_map (λ (c : Column). type_in c.column_type)) e

row-gives : (types : List ValueType) (row : Row) → HasTypes types row → GivesTypes types (map Ok row)
row-gives [] [] h = tt
row-gives [] (v ∷ row) h = absurd h
row-gives (t ∷ types) [] h = absurd h
row-gives (t ∷ types) (v ∷ row) h = (h.0, row-gives types row h.1)

module _ (known : Known) (tables : Tables) (holds : HoldsTypes known tables) where
  sources-give : {rows : Rows} {xs : List Expression} {types : List ValueType} → HaveTypes known rows xs types → (env : Env) → SeesRows rows env → GivesTypes types (map (λ x. value_of tables x env) xs)
  sources-give typed.none env sees = tt
  sources-give (typed.one h hs) env sees = (value-typed known tables holds h env sees, sources-give hs env sees)

  source-gives : (types : List ValueType) (source : InsertSource) (given : List (Evaluation Value)) → IsStoredAs known types source → AreGiven tables source given → GivesTypes types given
  source-gives types (from.Values rows) given stored (sources, among, is) = subst (GivesTypes types) (sym is) (sources-give (stored sources among) [] tt)
  source-gives types (from.Query query) given stored (row, among, is) =
      subst (GivesTypes types) (sym is) (row-gives types row (All-contains (HasTypes types) (query_outcome tables query []).rows row (query-typed known tables holds stored [] tt) among))

  pub inserted-kept : (insert : Insert) (well : IsInsertWell known insert) (given : List (Evaluation Value)) → AreGiven tables insert.source given
      → (place : ℕ) (column : Column) (value : Evaluation Value) → slice_get well.table.columns place ≡ Some column → given_for place insert.columns given ≡ Some value → IfOk value (IsKeptBy column)
  inserted-kept insert well given are place column value there e =
      let (k, at, here) = given-at place insert.columns given value e in
      kept-by column value
      (given_at well.types given k (type_in column.column_type) value (source-gives well.types insert.source given well.stored are)
      (type_at (column_types well.table.columns) insert.columns well.types well.columns k place (type_in column.column_type) at (column_type_at well.table.columns place column there)) here)

  -- an assignment that stands at a place among others
  assigned_at : (from : List ValueType) (row : Row) → HasTypes from row → (assignments : List Assignment) → All (IsAssignmentWell known from) assignments → (k place : ℕ) (t : ValueType) (x : Evaluation Value)
      → slice_get (map (λ a. a.column) assignments) k ≡ Some place → slice_get (map (λ a. value_of tables a.source (row ∷ [])) assignments) k ≡ Some x → slice_get from place ≡ Some t → IfOk x (IsOfType t)
  assigned_at from row has [] all k place t x at here there = absurd (none-some place at)
  assigned_at from row has (a ∷ assignments) all zero place t x at here there =
      let well = All-head (IsAssignmentWell known from) a assignments all in
      let same : well.column_type ≡ t = same_Some well.column_type t (sym well.column ∙ ap (slice_get from) (same_Some a.column place at) ∙ there) in
      subst (λ z. IfOk z (IsOfType t)) (same_Some (value_of tables a.source (row ∷ [])) x here)
      (subst (λ u. IfOk (value_of tables a.source (row ∷ [])) (IsOfType u)) same (value-typed known tables holds well.source (row ∷ []) (has, tt)))
  assigned_at from row has (a ∷ assignments) all (suc k) place t x at here there =
      assigned_at from row has assignments (All-tail (IsAssignmentWell known from) a assignments all) k place t x at here there

  pub updated-kept : (update : Update) (well : IsUpdateWell known update) (row : Row) → Contains (tables update.table) row
      → (place : ℕ) (column : Column) (value : Evaluation Value) → slice_get well.table.columns place ≡ Some column
      → given_for place (map (λ a. a.column) update.assignments) (map (λ a. value_of tables a.source (row ∷ [])) update.assignments) ≡ Some value → IfOk value (IsKeptBy column)
  updated-kept update well row among place column value there e =
      let has = All-contains (HasTypes (column_types well.table.columns)) (tables update.table) row (holds update.table well.table well.is_there) among in
      let (k, at, here) = given-at place (map (λ (a : Assignment). a.column) update.assignments) (map (λ (a : Assignment). value_of tables a.source (row ∷ [])) update.assignments) value e in
      kept-by column value
      (assigned_at (column_types well.table.columns) row has update.assignments
      (All-weaker (Contains update.assignments) (IsAssignmentWell known (column_types well.table.columns)) well.assignments update.assignments (All-contains_itself update.assignments))
      k place (type_in column.column_type) value at here (column_type_at well.table.columns place column there))
