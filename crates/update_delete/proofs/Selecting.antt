-- What an index finds by the key of a condition are candidates; so are all rows.
use Rattle.std.proofs.Common.{◌≡◌, ◌∙◌, refl, sym, ap, subst, ℕ, Bool, true, false, List, [], ◌∷◌, map, Option, Some, None, Ok, Err}
use Rattle.std.specs.Prelude.{slice_get}
use Rattle.std.specs.Option.{option_map}
use Rattle.std.specs.FinMap.{get}
use Rattle.std.proofs.lemmas.Option.{slice_get-map}
use Rattle.sqlval.specs.declared.schema.Index.{Index}
use Rattle.sqlval.specs.declared.schema.Schema.{Schema}
use Rattle.sqlval.specs.declared.truth.Truth.{Truth}
use Rattle.sqlval.specs.declared.truth.Truth.TheVariants.{True, False, Unknown}
use Rattle.sqlval.specs.declared.value.Value.{Value}
use Rattle.sqlval.specs.Matching.{matches}
use Rattle.sqlval.specs.Truth.{same_truth}
use Rattle.sqlval.specs.Value.{Row}
use Rattle.algebra.specs.declared.tree.Condition.{Condition}
use Rattle.algebra.specs.Listing.{truth_listing}
use Rattle.algebra.specs.Raising.{NeverRaises}
use Rattle.algebra.specs.TreeOutcome.{tree_truth}
use Rattle.algebra_laws.specs.Shown.{Shows}
use Rattle.algebra_laws.proofs.Trees.{conditions-show}
use Rattle.denote.specs.Database.{Name, Table, IndexDeclaration}
use Rattle.denote.specs.Evaluation.{Env, Evaluation, ◌>>=◌}
use Rattle.denote.specs.Meaning.{Tables}
use Rattle.denote.specs.SchemaOf.{IsSchemaOf, index_of}
use Rattle.store.specs.declared.rows.Numbered.{Numbered}
use Rattle.store.specs.Contents.{Entry, StoredTable, Contents, database_of}
use Rattle.store.specs.Indexes.{entries_of, columns_at, matching, sought}
use Rattle.store.specs.View.{AreEntries}
use Rattle.constraints.proofs.Declared.{table_there}
use Rattle.constraints.proofs.Held.{held_as}
use Rattle.key_lookups.specs.Sought.{key_sought}
use Rattle.update_delete.specs.declared.candidates.LookUp.{LookUp}
use Rattle.update_delete.specs.Candidates.{AreCandidates, AsksIn}
use Rattle.update_delete.specs.Given.{touched_given}
use Rattle.update_delete.proofs.Sparse.{all-pass}

-- a condition that is not true touches nothing
pub not_true : (x y : Evaluation Truth) (t : Truth) (b : Bool) → Shows x y → y ≡ Ok t → (y ≡ Ok True → b ≡ true) → b ≡ false → (x >>= (λ t. Ok (same_truth t True))) ≡ Ok false
not_true (Ok True) (Ok y) t b shown is only none =
    let passes : b ≡ true = only (ap (λ (t : Truth). Ok t) (sym shown)) in absurd (cc (passes, none))
not_true (Ok False) (Ok y) t b shown is only none = refl
not_true (Ok Unknown) (Ok y) t b shown is only none = refl
not_true (Ok x) (Err faults) t b shown is only none = absurd shown
not_true (Err shown_faults) (Ok y) t b shown is only none = absurd shown
not_true (Err shown_faults) (Err faults) t b shown is only none = absurd (cc is)

abbrev pub Quiet : Type 0
Quiet = (tables : Tables) (condition : Condition) (columns : List ℕ) (key : List Value) → key_sought columns condition ≡ Some key → NeverRaises (tree_truth tables condition)

abbrev pub Matching : Type 0
Matching = (tables : Tables) (condition : Condition) (columns : List ℕ) (key : List Value) (row : Row) (outer : Env) → key_sought columns condition ≡ Some key
    → tree_truth tables condition (row ∷ outer) ≡ Ok True → matches columns key row ≡ true

-- where the columns of a row are not the key, the row is not touched
untouched : Quiet → Matching → (condition : Condition) (columns : List ℕ) (key : List Value) → key_sought columns condition ≡ Some key → (tables : Tables) (row : Row)
    → matches columns key row ≡ false → touched_given tables (Some condition) row ≡ Ok false
untouched quiet match condition columns key asked tables row none =
    let value = quiet tables condition columns key asked (row ∷ []) in
    not_true (truth_listing tables condition (row ∷ [])) (tree_truth tables condition (row ∷ [])) value.0 (matches columns key row) (conditions-show tables condition (row ∷ [])) value.1
    (λ h. match tables condition columns key row [] asked h) none

pub index_over : (columns : List ℕ) (indexes : List Index) (table : StoredTable) (place : ℕ) → option_map (λ (index : Index). index.columns) (slice_get indexes place) ≡ Some columns
    → map index_of indexes ≡ table.indexes → columns_at (Some table) place ≡ Some columns
index_over columns indexes table place e declares =
    ap (λ (is : List IndexDeclaration). option_map (λ (i : IndexDeclaration). i.columns) (slice_get is place)) (sym declares)
    ∙ ap (option_map (λ (i : IndexDeclaration). i.columns)) (slice_get-map index_of indexes place)
    ∙ mapped (slice_get indexes place)
    ∙ e
  where
    mapped : (o : Option Index) → option_map (λ (i : IndexDeclaration). i.columns) (option_map index_of o) ≡ option_map (λ (i : Index). i.columns) o
    mapped None = refl
    mapped (Some i) = refl

-- what is found by the key
pub sought_candidates : Quiet → Matching → (c : Contents) (schema : Schema) (name : Name) (tree : Option Condition) (look_up : LookUp) (found : Numbered) → IsSchemaOf schema (database_of c)
    → AsksIn schema name tree look_up → AreEntries found (sought (get c name) look_up.place look_up.key) → AreCandidates (get c name) tree found
sought_candidates quiet match c schema name tree look_up found of asked are =
    let t = table_there schema (database_of c) name asked.table of asked.inside asked.named in
    let held = held_as c name t.0 t.1 in
    let declares : map index_of asked.table.indexes ≡ held.0.indexes = t.2.indexes ∙ ap (λ (u : Table). u.indexes) (sym held.2) in
    let columns : columns_at (get c name) look_up.place ≡ Some asked.asks.columns =
    ap (λ o. columns_at o look_up.place) held.1 ∙ index_over asked.asks.columns asked.table.indexes held.0 look_up.place asked.asks.over declares in
    record {
      test = matches asked.asks.columns look_up.key;
      others = λ tables row none.
          subst (λ (o : Option Condition). touched_given tables o row ≡ Ok false) (sym asked.is)
          (untouched quiet match asked.condition asked.asks.columns look_up.key asked.asks.sought tables row none);
      are = subst (λ (es : List Entry). AreEntries found es) (ap (λ o. matching o look_up.key (entries_of (get c name))) columns) are;
    }

-- all rows
pub all_candidates : (table : Option StoredTable) (tree : Option Condition) (found : Numbered) → AreEntries found (entries_of table) → AreCandidates table tree found
all_candidates table tree found are = record {
  test = λ row. true;
  others = λ tables row none. absurd (cc none);
  are = subst (λ (es : List Entry). AreEntries found es) (all-pass (entries_of table)) are;
}
