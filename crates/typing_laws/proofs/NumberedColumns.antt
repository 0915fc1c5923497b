-- A column that is named stands within the key, or in the row of a SELECT further outwards.
use Rattle.std.proofs.Common.{◌≡◌, ◌≤◌, ◌<◌, ◌⊎◌, inl, inr, refl, ◌∙◌, subst, ℕ, zero, suc, ◌+◌, Bool, true, false, cond, List, [], ◌∷◌, length, Ok, Err, Option, Some, None, arith}
use Rattle.std.specs.Prelude.{◌==◌, flat_map, if◌then◌else◌}
use Rattle.std.specs.List.{position_from}
use Rattle.std.proofs.lemmas.Bool.{lt-ltb}
use Rattle.refusals.specs.declared.limit.Limit.TheVariants as limit
use Rattle.ast.specs.declared.operator.Column.{Column}
use Rattle.sqlval.specs.declared.value.ValueType.{ValueType}
use Rattle.typing.specs.declared.scope.Frame.{Frame}
use Rattle.typing.specs.declared.scope.Found.{Found}
use Rattle.typing.specs.declared.scope.Matches.{Matches}
use Rattle.typing.specs.declared.scope.Matches.TheVariants.{Nothing, One, Several}
use Rattle.typing.specs.declared.scope.Offer.{Offer}
use Rattle.typing.specs.declared.scope.ShownItem.{ShownItem}
use Rattle.typing.specs.declared.scope.TypedExpression.{TypedExpression}
use Rattle.typing.specs.Finding.{Finding, ◌>>=◌, also, each}
use Rattle.typing.specs.Scope.{Located, Scope, as_matches, column_in, has_table, in_key, located, located_from, meant, seen_in}
use Rattle.typing.specs.Select.{all_columns, columns_from, limited, shown_item}
use Rattle.typing.specs.Table.{at_most}
use Rattle.typing_laws.specs.Placed.{past_key, places_in}
use Rattle.typing_laws.proofs.FunctionFitting.{Fits, before-fits, typed_places}
use Rattle.typing_laws.proofs.Places.{at_column}

-- ---- where a column is found

abbrev WhereFound : {A : Type 0} → (A → Type 0) → Finding A → Type 0
WhereFound P (Ok x) = P x
WhereFound P (Err reasons) = Unit {0}

either : {A : Type 0} (P : A → Type 0) (b : Bool) (x y : Finding A) → WhereFound P x → WhereFound P y → WhereFound P (if b then x else y)
either P true x y h k = h
either P false x y h k = k

abbrev IsOutside : Located → Type 0
IsOutside l = 1 ≤ l.depth

deep : (column : Column) (scope : Scope) (depth : ℕ) → 1 ≤ depth → WhereFound IsOutside (located_from depth column scope)
deep column [] depth h = tt
deep column (frame ∷ outer) depth h = at (as_matches (meant column 0 frame.columns)) refl (deep column outer (depth + 1) (omega arith))
  where
    at : (m : Matches) → as_matches (meant column 0 frame.columns) ≡ m → WhereFound IsOutside (located_from (depth + 1) column outer) → WhereFound IsOutside (located_from depth column (frame ∷ outer))
    at Nothing e outwards = rw e (either IsOutside (has_table column.table frame) _ _ tt outwards)
    at (One x) e outwards = rw e h
    at Several e outwards = rw e tt

abbrev IsHereOrOutside : Frame → Located → Type 0
IsHereOrOutside frame l = ((l.depth ≡ 0) × (l.frame ≡ frame)) ⊎ (1 ≤ l.depth)

outwards_is : (frame : Frame) (x : Finding Located) → WhereFound IsOutside x → WhereFound (IsHereOrOutside frame) x
outwards_is frame (Ok l) h = inr h
outwards_is frame (Err reasons) h = tt

here : (column : Column) (frame : Frame) (outer : Scope) → WhereFound (IsHereOrOutside frame) (located column (frame ∷ outer))
here column frame outer = at (as_matches (meant column 0 frame.columns)) refl (outwards_is frame (located_from (0 + 1) column outer) (deep column outer (0 + 1) (omega arith)))
  where
    at : (m : Matches) → as_matches (meant column 0 frame.columns) ≡ m → WhereFound (IsHereOrOutside frame) (located_from (0 + 1) column outer) → WhereFound (IsHereOrOutside frame) (located_from 0 column (frame ∷ outer))
    at Nothing e outwards = rw e (either (IsHereOrOutside frame) (has_table column.table frame) _ _ tt outwards)
    at (One x) e outwards = rw e (inl (refl, refl))
    at Several e outwards = rw e tt

-- ---- places within a key

abbrev Below : ℕ → Option ℕ → Type 0
Below n None = Unit {0}
Below n (Some place) = place < n

chosen : (n : ℕ) (b : Bool) (x y : Option ℕ) → Below n x → Below n y → Below n (cond b x y)
chosen n true x y h k = h
chosen n false x y h k = k

below : (test : ℕ → Bool) (at : ℕ) (xs : List ℕ) → Below (at + length xs) (position_from test at xs)
below test at [] = tt
below test at (x ∷ xs) =
    let e : (at + 1) + length xs ≡ at + length (x ∷ xs) = omega arith in
    chosen (at + length (x ∷ xs)) (test x) (Some at) (position_from test (at + 1) xs) (omega arith) (subst (λ n. Below n (position_from test (at + 1) xs)) e (below test (at + 1) xs))

module _ (frame : Frame) (outer : Scope) (key : List ℕ) (is : frame.key ≡ Some key) where
  abbrev places : TypedExpression → List ℕ
  places x = typed_places (length key) x

  within : (value_type : ValueType) (place : Option ℕ) → Below (length key) place → Fits places (in_key value_type 0 place) []
  within value_type None h = tt
  within value_type (Some place) h = at_column (length key) 0 place ∙ inside
    where
      inside : past_key (length key) 0 place ≡ []
      inside = rw (lt-ltb place (length key) h) refl

  own : (x : Found) → Fits places (seen_in frame.key 0 x) []
  own x = rw is (within x.value_type (position_from (λ place. place == x.place) 0 key) (subst (λ n. Below n (position_from (λ place. place == x.place) 0 key)) (zero-plus (length key)) (below (λ place. place == x.place) 0 key)))
    where
      zero-plus : (n : ℕ) → 0 + n ≡ n
      zero-plus n = omega arith

  outside_key : (value_type : ValueType) (depth : ℕ) (place : Option ℕ) → Fits places (in_key value_type (suc depth) place) []
  outside_key value_type depth None = tt
  outside_key value_type depth (Some place) = at_column (length key) (suc depth) place

  outside : (k : Option (List ℕ)) (depth : ℕ) (x : Found) → 1 ≤ depth → Fits places (seen_in k depth x) []
  outside k zero x h = absurd (omega (arith, h))
  outside None (suc depth) x h = at_column (length key) (suc depth) x.place
  outside (Some k) (suc depth) x h = outside_key x.value_type depth (position_from _ 0 k)

  seen : (l : Located) → IsHereOrOutside frame l → Fits places (seen_in l.frame.key l.depth l.column) []
  seen l (inl h) = rw (h.0, h.1) (own l.column)
  seen l (inr h) = outside l.frame.key l.depth l.column h

  pub columns-fit : (column : Column) → Fits places (column_in column (frame ∷ outer)) []
  columns-fit column = by (located column (frame ∷ outer)) (here column frame outer)
    where
      by : (x : Finding Located) → WhereFound (IsHereOrOutside frame) x → Fits places (x >>= (λ l. seen_in l.frame.key l.depth l.column)) []
      by (Ok l) h = seen l h
      by (Err reasons) h = tt

  -- ---- `*`

  abbrev pub item_places : ShownItem → List ℕ
  item_places item = places_in (length key) item.expression

  named : (name : Option (List ℕ)) (x : Finding TypedExpression) → Fits places x [] → Fits item_places (x >>= (λ x. Ok (shown_item name x))) []
  named name (Ok x) h = h
  named name (Err reasons) h = tt

  from_at : (at : ℕ) (offers : List Offer) → Fits (flat_map item_places) (each (columns_from frame.key at offers)) []
  from_at at [] = refl
  from_at at (offer ∷ offers) =
      let found : Found = record { place = at; value_type = offer.value_type } in
      before-fits item_places (seen_in frame.key 0 found >>= (λ x. Ok (shown_item offer.name x))) (each (columns_from frame.key (at + 1) offers)) [] [] (named offer.name (seen_in frame.key 0 found) (own found)) (from_at (at + 1) offers)

  pub limited-fits : (items : List (Finding ShownItem)) (all : List ℕ) → Fits (flat_map item_places) (each items) all → Fits (flat_map item_places) (limited items) all
  limited-fits items all h = by (at_most 256 limit.Columns (length items)) (each items) h
    where
      by : (x : Finding (Unit {0})) (y : Finding (List ShownItem)) → Fits (flat_map item_places) y all → Fits (flat_map item_places) (also x y >>= (λ p. Ok p.1)) all
      by (Ok x) (Ok y) h = h
      by (Ok x) (Err reasons) h = tt
      by (Err reasons) y h = tt

  pub all-fit : Fits (flat_map item_places) (limited (all_columns (frame ∷ outer))) []
  all-fit = limited-fits (columns_from frame.key 0 frame.columns) [] (from_at 0 frame.columns)
