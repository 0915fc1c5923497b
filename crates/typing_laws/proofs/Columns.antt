-- A column that is found is there, and has the type that is found of it.
use Rattle.std.proofs.Common.{◌≡◌, refl, ap, sym, ◌∙◌, subst, ℕ, zero, suc, ◌+◌, Bool, true, false, cond, List, [], ◌∷◌, ◌++◌, map, Ok, Err, Option, Some, None, IfOk, IfSome, slice_get, option_map, arith, eqb-true}
use Rattle.std.specs.Prelude.{◌==◌, if◌then◌else◌}
use Rattle.std.specs.List.{AllByRecursion, position_from}
use Rattle.std.proofs.lemmas.Option.{none-some, same_Some, slice_get-map}
use Rattle.sqlval.specs.declared.value.ValueType.{ValueType}
use Rattle.ast.specs.declared.operator.Column.{Column}
use Rattle.typing.specs.declared.typed.Expression.TheVariants as expression
use Rattle.typing.specs.declared.scope.Frame.{Frame}
use Rattle.typing.specs.declared.scope.Found.{Found}
use Rattle.typing.specs.declared.scope.Matches.{Matches}
use Rattle.typing.specs.declared.scope.Matches.TheVariants.{Nothing, One, Several}
use Rattle.typing.specs.declared.scope.Offer.{Offer}
use Rattle.typing.specs.declared.scope.ShownItem.{ShownItem}
use Rattle.typing.specs.declared.scope.TypedExpression.{TypedExpression}
use Rattle.typing.specs.Finding.{Finding, ◌>>=◌}
use Rattle.typing.specs.Known.{Known}
use Rattle.typing.specs.Scope.{Located, Scope, as_matches, column_at, column_in, has_table, in_key, is_meant, located, located_from, meant, only_own, own_column, seen_in}
use Rattle.typing.specs.Select.{all_columns, columns_from, shown_item}
use Rattle.typing_laws.specs.Scopes.{AreRowsOf, BeginsWithKey, IsRowBy, IsRowOf, offered_types}
use Rattle.typing_laws.specs.WellTyped.{HasType, Rows}
use Rattle.typing_laws.specs.WellTyped as typed
use Rattle.typing_laws.proofs.ColumnFindings.{either, goes_on}

-- ---- elements of lists

in_front : {A : Type 0} (xs ys : List A) (k : ℕ) (x : A) → slice_get xs k ≡ Some x → slice_get (xs ++ ys) k ≡ Some x
in_front [] ys k x e = absurd (none-some x e)
in_front (y ∷ xs) ys zero x e = e
in_front (y ∷ xs) ys (suc k) x e = in_front xs ys k x e

only_some : {A : Type 0} (o : Option A) (a : A) → option_map Some o ≡ Some (Some a) → o ≡ Some a
only_some None a e = absurd (none-some (Some a) e)
only_some (Some b) a e = same_Some (Some b) (Some a) e

-- the type of a key's column
key_type : (from : List ValueType) (key : List ℕ) (types : List ValueType) → map (slice_get from) key ≡ map Some types → (j p : ℕ) (t : ValueType) → slice_get key j ≡ Some p → slice_get from p ≡ Some t
    → slice_get types j ≡ Some t
key_type from key types is j p t at there =
    only_some (slice_get types j) t
    (sym (slice_get-map Some types j) ∙ ap (λ l. slice_get l j) (sym is) ∙ slice_get-map (slice_get from) key j ∙ ap (option_map (slice_get from)) at ∙ ap Some there)

-- ---- the place where a list passes a test

abbrev IsAt : {A : Type 0} → (A → Bool) → ℕ → List A → ℕ → Type 0
IsAt {A} test at xs p = (j : ℕ) × (p ≡ at + j) × (x : A) × (slice_get xs j ≡ Some x) × (test x ≡ true)

position : {A : Type 0} (test : A → Bool) (at : ℕ) (xs : List A) → IfSome (position_from test at xs) (IsAt test at xs)
position test at [] = tt
position {A} test at (x ∷ xs) = go (test x) refl (position_from test (at + 1) xs) (position test (at + 1) xs)
  where
    later : (p : ℕ) → IsAt test (at + 1) xs p → IsAt test at (x ∷ xs) p
    later p (j, is, y, there, passes) = (suc j, omega (arith, is), y, there, passes)

    go : (b : Bool) → test x ≡ b → (rest : Option ℕ) → IfSome rest (IsAt test (at + 1) xs) → IfSome (cond b (Some at) rest) (IsAt test at (x ∷ xs))
    go true passes rest h = (zero, omega arith, x, refl, passes)
    go false fails None h = tt
    go false fails (Some p) h = later p h

-- ---- where a name is found

-- a column of these, of which the first has the place `at`
abbrev IsOffered : ℕ → List Offer → Found → Type 0
IsOffered at offers found = (j : ℕ) × (found.place ≡ at + j) × (slice_get (offered_types offers) j ≡ Some found.value_type)

further : (at : ℕ) (offer : Offer) (offers : List Offer) (found : List Found) → AllByRecursion (IsOffered (at + 1) offers) found → AllByRecursion (IsOffered at (offer ∷ offers)) found
further at offer offers [] h = tt
further at offer offers (x ∷ found) ((j, is, there), h) = ((suc j, omega (arith, is), there), further at offer offers found h)

meant-offered : (column : Column) (at : ℕ) (offers : List Offer) → AllByRecursion (IsOffered at offers) (meant column at offers)
meant-offered column at [] = tt
meant-offered column at (offer ∷ offers) = go (is_meant column offer) (further at offer offers (meant column (at + 1) offers) (meant-offered column (at + 1) offers))
  where
    go : (b : Bool) → AllByRecursion (IsOffered at (offer ∷ offers)) (meant column (at + 1) offers)
        → AllByRecursion (IsOffered at (offer ∷ offers)) (if b then record { place = at; value_type = offer.value_type } ∷ meant column (at + 1) offers else meant column (at + 1) offers)
    go true h = ((zero, omega arith, refl), h)
    go false h = h

abbrev IfOne : (Found → Type 0) → Matches → Type 0
IfOne P Nothing = Unit {0}
IfOne P (One found) = P found
IfOne P Several = Unit {0}

matched : (P : Found → Type 0) (found : List Found) → AllByRecursion P found → IfOne P (as_matches found)
matched P [] h = tt
matched P (x ∷ []) h = h.0
matched P (x ∷ y ∷ found) h = tt

-- a column of the FROM that stands so far outwards
abbrev pub IsLocated : ℕ → Scope → Located → Type 0
IsLocated depth scope l = (k : ℕ) × (l.depth ≡ depth + k) × (slice_get scope k ≡ Some l.frame) × (slice_get (offered_types l.frame.columns) l.column.place ≡ Some l.column.value_type)

outwards : (depth : ℕ) (frame : Frame) (outer : Scope) (x : Finding Located) → IfOk x (IsLocated (depth + 1) outer) → IfOk x (IsLocated depth (frame ∷ outer))
outwards depth frame outer (Ok l) (k, is, there, has) = (suc k, omega (arith, is), there, has)
outwards depth frame outer (Err reasons) h = tt

located_from-is : (column : Column) (scope : Scope) (depth : ℕ) → IfOk (located_from depth column scope) (IsLocated depth scope)
located_from-is column [] depth = tt
located_from-is column (frame ∷ outer) depth =
    at (as_matches (meant column 0 frame.columns)) refl (matched (IsOffered 0 frame.columns) (meant column 0 frame.columns) (meant-offered column 0 frame.columns))
    (outwards depth frame outer (located_from (depth + 1) column outer) (located_from-is column outer (depth + 1)))
  where
    here : (x : Found) → IsOffered 0 frame.columns x → IsLocated depth (frame ∷ outer) (record { depth = depth; frame = frame; column = x })
    here x (j, is, there) = (zero, omega arith, refl, ap (slice_get (offered_types frame.columns)) (let e : x.place ≡ j = omega (arith, is) in e) ∙ there)

    at : (m : Matches) → as_matches (meant column 0 frame.columns) ≡ m → IfOne (IsOffered 0 frame.columns) m → IfOk (located_from (depth + 1) column outer) (IsLocated depth (frame ∷ outer))
        → IfOk (located_from depth column (frame ∷ outer)) (IsLocated depth (frame ∷ outer))
    at Nothing e h outer_ones = rw e (either (IsLocated depth (frame ∷ outer)) (has_table column.table frame) _ _ tt outer_ones)
    at (One x) e h outer_ones = rw e (here x h)
    at Several e h outer_ones = rw e tt

pub located-is : (column : Column) (scope : Scope) → IfOk (located column scope) (IsLocated 0 scope)
located-is column scope = located_from-is column scope 0

-- ---- the row of a FROM

pub row_at : (scope : Scope) (rows : Rows) → AreRowsOf scope rows → (k : ℕ) (frame : Frame) → slice_get scope k ≡ Some frame → (row : List ValueType) × (slice_get rows k ≡ Some row) × IsRowOf frame row
row_at [] rows h k frame e = absurd (none-some frame e)
row_at (f ∷ scope) [] h k frame e = absurd h
row_at (f ∷ scope) (row ∷ rows) h zero frame e = (row, refl, subst (λ (g : Frame). IsRowOf g row) (same_Some f frame e) h.0)
row_at (f ∷ scope) (row ∷ rows) h (suc k) frame e = row_at scope rows h.1 k frame e

-- ---- columns of the SELECT's own FROM

-- a column of the first FROM
abbrev pub IsOwn : Scope → Found → Type 0
IsOwn scope x = (frame : Frame) × (slice_get scope 0 ≡ Some frame) × (slice_get (offered_types frame.columns) x.place ≡ Some x.value_type)

own : (scope : Scope) (l : Located) (depth : ℕ) → l.depth ≡ depth → IsLocated 0 scope l → IfOk (only_own depth l.column) (IsOwn scope)
own scope l (suc depth) e h = tt
own scope l zero e (k, is, there, has) =
    let first : k ≡ 0 = omega (arith, is, e) in
    (l.frame, ap (slice_get scope) (sym first) ∙ there, has)

pub own-is : (column : Column) (scope : Scope) → IfOk (own_column column scope) (IsOwn scope)
own-is column scope = goes_on (IsLocated 0 scope) (IsOwn scope) (located column scope) (λ l. only_own l.depth l.column) (located-is column scope) (λ l h. own scope l l.depth refl h)

-- where the rows of the first FROM are seen, and no groups
abbrev pub IsUngrouped : Scope → Type 0
IsUngrouped scope = (frame : Frame) → slice_get scope 0 ≡ Some frame → frame.key ≡ None

module _ (known : Known) where
  -- an expression has the type that is found of it
  abbrev pub Gives : Rows → TypedExpression → Type 0
  Gives rows x = HasType known rows x.expression x.value_type

  keyed : (key : List ℕ) (from row : List ValueType) (rows : Rows) (depth : ℕ) (x : Found) → slice_get rows depth ≡ Some row → BeginsWithKey from key row → slice_get from x.place ≡ Some x.value_type
      → (p : Option ℕ) → IfSome p (IsAt (λ place. place == x.place) 0 key) → IfOk (in_key x.value_type depth p) (Gives rows)
  keyed key from row rows depth x there begins has None h = tt
  keyed key from row rows depth x there begins has (Some p) (j, is, place, at, same) =
      let placed : place ≡ x.place = eqb-true place x.place same in
      let e : p ≡ j = omega (arith, is) in
      let in_key_at : slice_get key p ≡ Some x.place = ap (slice_get key) e ∙ at ∙ ap Some placed in
      let type : slice_get begins.types p ≡ Some x.value_type = key_type from key begins.types begins.columns p x.place x.value_type in_key_at has in
      typed.column depth p row there (ap (λ l. slice_get l p) begins.is ∙ in_front begins.types begins.values p x.value_type type)

  -- a column of a row of a FROM or of a group, as it is seen there
  pub seen : (key : Option (List ℕ)) (from row : List ValueType) (rows : Rows) (depth : ℕ) (x : Found) → slice_get rows depth ≡ Some row → IsRowBy key from row → slice_get from x.place ≡ Some x.value_type
      → IfOk (seen_in key depth x) (Gives rows)
  seen None from row rows depth x there is has = typed.column depth x.place row there (ap (λ l. slice_get l x.place) is ∙ has)
  seen (Some key) from row rows depth x there is has = keyed key from row rows depth x there is has (position_from (λ place. place == x.place) 0 key) (position (λ place. place == x.place) 0 key)

  pub columns-typed : (column : Column) (scope : Scope) (rows : Rows) → AreRowsOf scope rows → IfOk (column_in column scope) (Gives rows)
  columns-typed column scope rows h = goes_on (IsLocated 0 scope) (Gives rows) (located column scope) (λ l. seen_in l.frame.key l.depth l.column) (located-is column scope) found
    where
      found : (l : Located) → IsLocated 0 scope l → IfOk (seen_in l.frame.key l.depth l.column) (Gives rows)
      found l (k, is, there, has) =
          let (row, at, of) = row_at scope rows h k l.frame there in
          let e : l.depth ≡ k = omega (arith, is) in
          seen l.frame.key (offered_types l.frame.columns) row rows l.depth l.column (ap (slice_get rows) e ∙ at) of has

  -- ---- columns of the SELECT's own FROM

  pub own-typed : (column : Column) (scope : Scope) (rows : Rows) → AreRowsOf scope rows → IsUngrouped scope → IfOk (own_column column scope >>= (λ x. Ok (column_at x.value_type 0 x.place))) (Gives rows)
  own-typed column scope rows h plain = goes_on (IsOwn scope) (Gives rows) (own_column column scope) (λ x. Ok (column_at x.value_type 0 x.place)) (own-is column scope) found
    where
      found : (x : Found) → IsOwn scope x → HasType known rows (expression.Column 0 x.place) x.value_type
      found x (frame, first, has) =
          let (row, at, of) = row_at scope rows h 0 frame first in
          let same : row ≡ offered_types frame.columns = subst (λ key. IsRowBy key (offered_types frame.columns) row) (plain frame first) of in
          typed.column 0 x.place row at (ap (λ l. slice_get l x.place) same ∙ has)

  -- ---- `*`

  abbrev pub Shows : Rows → ShownItem → Type 0
  Shows rows x = HasType known rows x.expression x.value_type

  from_at : (key : Option (List ℕ)) (from row : List ValueType) (rows : Rows) → slice_get rows 0 ≡ Some row → IsRowBy key from row → (at : ℕ) (offers : List Offer)
      → ((j : ℕ) (t : ValueType) → slice_get (offered_types offers) j ≡ Some t → slice_get from (at + j) ≡ Some t) → AllByRecursion (λ x. IfOk x (Shows rows)) (columns_from key at offers)
  from_at key from row rows first is at [] h = tt
  from_at key from row rows first is at (offer ∷ offers) h =
      let here : at ≡ at + 0 = omega arith in
      let x : Found = record { place = at; value_type = offer.value_type } in (
        goes_on (Gives rows) (Shows rows) (seen_in key 0 x) (λ y. Ok (shown_item offer.name y)) (seen key from row rows 0 x first is (ap (slice_get from) here ∙ h 0 offer.value_type refl)) (λ y k. k),
        from_at key from row rows first is (at + 1) offers (λ j t e. (let next : at + 1 + j ≡ at + suc j = omega arith in ap (slice_get from) next ∙ h (suc j) t e)),
      )

  pub all-shown : (scope : Scope) (rows : Rows) → AreRowsOf scope rows → AllByRecursion (λ x. IfOk x (Shows rows)) (all_columns scope)
  all-shown [] rows h = tt
  all-shown (frame ∷ outer) [] h = absurd h
  all-shown (frame ∷ outer) (row ∷ rows) h =
      from_at frame.key (offered_types frame.columns) row (row ∷ rows) refl h.0 0 frame.columns (λ j t e. (let same : 0 + j ≡ j = omega arith in ap (slice_get (offered_types frame.columns)) same ∙ e))
