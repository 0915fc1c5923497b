-- The indexes that a plan's tables are known to have, and those of the store.
use Rattle.std.proofs.Common.{◌≡◌, refl, sym, ap, ◌∙◌, subst, arith, ℕ, suc, ◌+◌, Bool, true, false, List, [], ◌∷◌, Option, Some, None}
use Rattle.std.specs.Prelude.{slice_get, Contains, if◌then◌else◌}
use Rattle.std.specs.Cmp.Lexicographic.{bytes_decides}
use Rattle.std.specs.FinMap.{get}
use Rattle.std.specs.List.{position_from}
use Rattle.std.proofs.lemmas.Option.{slice_get-map}
use Rattle.algebra.specs.declared.tree.StoredTable.{StoredTable}
use Rattle.algebra.specs.declared.tree.Tree.{Tree}
use Rattle.store.specs.Contents as stored
use Rattle.store.specs.Indexes.{columns_at}
use Rattle.places.specs.Indexes.{HasIndexes, index_columns, index_place, same_columns, sought_in}

-- what is found by its columns has these columns
found_at : (indexes : List (List ℕ)) (columns : List ℕ) (at place : ℕ)
    → position_from (λ index. same_columns index columns) at indexes ≡ Some place
    → (k : ℕ) × (place ≡ at + k) × (slice_get indexes k ≡ Some columns)
found_at [] columns at place e = absurd (cc)
found_at (index ∷ indexes) columns at place e = go (same_columns index columns) refl e
    (found_at indexes columns (at + 1) place)
  where
    value : {a b : ℕ} → Some a ≡ Some b → a ≡ b
    value {a = a} p = ap (λ o. elim o [ None ↦ a | Some z ↦ z ]) p

    go : (b : Bool) → same_columns index columns ≡ b
        → (if b then Some at else position_from (λ other. same_columns other columns) (at + 1) indexes) ≡ Some place
        → (position_from (λ other. same_columns other columns) (at + 1) indexes ≡ Some place
        → (k : ℕ) × (place ≡ (at + 1) + k) × (slice_get indexes k ≡ Some columns))
        → (k : ℕ) × (place ≡ at + k) × (slice_get (index ∷ indexes) k ≡ Some columns)
    go true same h next = let e : at ≡ place =
        value h in (0, omega (arith, e), ap (λ c. Some c) ((bytes_decides index columns).0 same))
    go false same h next = let found = next h in let e = found.1 in (suc found.0, omega (arith, e), found.2)

-- the index at a place has the columns that are known of it
known_columns : (table : Option stored.StoredTable) (indexes : List (List ℕ)) (place : ℕ) (columns : List ℕ)
    → index_columns table ≡ indexes
    → slice_get indexes place ≡ Some columns → columns_at table place ≡ Some columns
known_columns None indexes place columns same is =
    let e : None ≡ Some columns = ap (λ known. slice_get known place) same ∙ is in absurd (cc)
known_columns (Some table) indexes place columns same is =
    sym (slice_get-map (λ index. index.columns) table.indexes place) ∙ ap (λ known. slice_get known place) same ∙ is

-- the index that a node of a plan finds is one of the stored table, over these columns
pub found_columns : (contents : stored.Contents) (tree : Tree) (table : StoredTable) (columns : List ℕ) (place : ℕ)
    → HasIndexes contents tree
    → Contains (sought_in tree) table → index_place table columns ≡ Some place
    → columns_at (get contents table.name) place ≡ Some columns
found_columns contents tree table columns place has among e =
    let found = found_at table.indexes columns 0 place e in
    let same : found.0 ≡ place = sym (found.1 ∙ omega arith) in
    known_columns (get contents table.name) table.indexes place columns (has table among)
    (subst (λ k. slice_get table.indexes k ≡ Some columns) same found.2)
