-- What is found of a SELECT is well typed, where what is found of its parts is.
use Rattle.std.proofs.Common.{◌≡◌, refl, ap, sym, ◌∙◌, subst, ℕ, zero, suc, ◌+◌, Bool, true, false, true≢false, List, [], ◌∷◌, ◌++◌, map, length, Ok, Err, Option, Some, None, IfOk, is_none, slice_get, rules, eqb-true, arith, append_assoc, length-append}
use Rattle.std.specs.Prelude.{◌==◌, ◌&&◌, not}
use Rattle.std.specs.List.{AllByRecursion}
use Rattle.std.proofs.lemmas.List.{length-map}
use Rattle.std.proofs.lemmas.Option.{same_Some}
use Rattle.sqlval.specs.declared.value.ValueType.{ValueType}
use Rattle.refusals.specs.declared.limit.Limit.TheVariants as limit
use Rattle.ast.specs.declared.operator.Alias.{Alias}
use Rattle.ast.specs.declared.operator.Column.{Column}
use Rattle.typing.specs.declared.typed.Condition.{Condition}
use Rattle.typing.specs.declared.typed.Expression.{Expression, the_lemmas}
use Rattle.typing.specs.declared.typed.Grouping.{Grouping, Grouping-F, out-Grouping, roll-Grouping}
use Rattle.typing.specs.declared.typed.Item.{Item, Item-F, out-Item, roll-Item}
use Rattle.typing.specs.declared.typed.Query.{Query}
use Rattle.typing.specs.declared.typed.Query.TheVariants as query
use Rattle.typing.specs.declared.typed.Select.{Select, Select-F, out-Select, roll-Select}
use Rattle.typing.specs.declared.typed.SetFunction.{SetFunction}
use Rattle.typing.specs.declared.typed.Source.{Source}
use Rattle.typing.specs.declared.scope.Frame.{Frame}
use Rattle.typing.specs.declared.scope.Groups.{Groups}
use Rattle.typing.specs.declared.scope.Offer.{Offer}
use Rattle.typing.specs.declared.scope.Settled.{Settled}
use Rattle.typing.specs.declared.scope.ShownItem.{ShownItem}
use Rattle.typing.specs.declared.scope.TypedExpression.{TypedExpression}
use Rattle.typing.specs.Finding.{Finding, ◌>>=◌, also, before, each}
use Rattle.typing.specs.From.{frame_over}
use Rattle.typing.specs.Known.{Known}
use Rattle.typing.specs.Part.{FunctionFinding, Part, Plain, Shown, View, if_written}
use Rattle.typing.specs.Scope.{Scope, own_column}
use Rattle.typing.specs.Select.{Clauses, all_columns, clauses_found, column_of, functions_found, grouping_columns, groups_found, is_grouped, item_name, key_found, limited, named_item, select_list, settled_over, shown, shown_item, tables_found, typed_item, typed_select, width}
use Rattle.typing.specs.SetOperator.{types_of}
use Rattle.typing.specs.Table.{at_most}
use Rattle.typing_laws.specs.Scopes.{AreRowsOf, BeginsWithKey, offered_types}
use Rattle.typing_laws.specs.WellTyped.{FunctionHasType, FunctionsHaveTypes, HasColumns, HasResult, HasType, HaveTypes, IsSeen, IsWellTyped, Rows, item_values, key_places}
use Rattle.typing_laws.specs.WellTyped as typed
use Rattle.typing_laws.proofs.Columns.{Gives, IsOwn, Shows, all-shown, own-is}
use Rattle.typing_laws.proofs.ColumnFindings.{all, beside, goes_on, mapped_any, second}
use Rattle.typing_laws.proofs.ColumnFitting.{IsResult}
use Rattle.typing_laws.proofs.Froms.{Asks, IfBoth, IsTypedFrom, Offers}
use Rattle.typing_laws.proofs.ColumnParts.{AreFunctions, IfThere, IfWritten, IsTyped, IsTypedQuery, StandFrom, every, followed, none, two, written-typed}

-- ---- nodes opened again

abbrev GroupingLayer : Type 0
GroupingLayer = Grouping-F Condition Expression Query SetFunction Source Grouping Item Select

abbrev ItemLayer : Type 0
ItemLayer = Item-F Condition Expression Query SetFunction Source Grouping Item Select

abbrev SelectLayer : Type 0
SelectLayer = Select-F Condition Expression Query SetFunction Source Grouping Item Select

opened_grouping : (g : GroupingLayer) → out-Grouping (roll-Grouping g) ≡ g
opened_grouping g = search (rules, the_lemmas)

opened_item : (x : ItemLayer) → out-Item (roll-Item x) ≡ x
opened_item x = search (rules, the_lemmas)

opened_select : (s : SelectLayer) → out-Select (roll-Select s) ≡ s
opened_select s = search (rules, the_lemmas)

-- ---- the values of set functions behind a key

stand_behind : (key values : List ValueType) (rows : Rows) (first : ℕ) → first ≡ length key → StandFrom first values ((key ++ values) ∷ rows)
stand_behind key values rows first is = go key values first is
  where
    past : (xs ys : List ValueType) (t : ValueType) (n : ℕ) → n ≡ length xs → slice_get (xs ++ t ∷ ys) n ≡ Some t
    past [] ys t zero e = refl
    past [] ys t (suc n) e = absurd (omega (arith, e))
    past (x ∷ xs) ys t zero e = absurd (omega (arith, e))
    past (x ∷ xs) ys t (suc n) e = past xs ys t n (let f : n ≡ length xs = omega (arith, e) in f)

    go : (xs ys : List ValueType) (n : ℕ) → n ≡ length xs → StandFrom n ys ((xs ++ ys) ∷ rows)
    go xs [] n e = tt
    go xs (y ∷ ys) n e = ((xs ++ y ∷ ys, refl, past xs ys y n e), subst (λ l. StandFrom (n + 1) ys (l ∷ rows)) (append_assoc xs (y ∷ []) ys) (go (xs ++ y ∷ []) ys (n + 1) (let f : n + 1 ≡ length (xs ++ y ∷ []) = omega (arith, e, length-append xs (y ∷ [])) in f)))

module _ (known : Known) where
  -- ---- the select list

  abbrev pub AllShown : Rows → List ShownItem → Type 0
  AllShown rows items = AllByRecursion (Shows known rows) items

  pub item-typed : (alias : Option Alias) (value : Part TypedExpression) → IsTyped known (Gives known) value → IsTyped known (Shows known) (named_item alias value)
  item-typed alias value h = followed known (Gives known) (Shows known) (λ x. Ok (shown_item (item_name alias value.name) x)) value (λ rows x k. k) h

  limited-typed : (rows : Rows) (items : List (Finding ShownItem)) → AllByRecursion (λ x. IfOk x (Shows known rows)) items → IfOk (limited items) (AllShown rows)
  limited-typed rows items h =
      goes_on (λ (p : Unit {0} × List ShownItem). AllShown rows p.1) (AllShown rows) (also (at_most 256 limit.Columns (length items)) (each items)) (λ p. Ok p.1)
      (second (AllShown rows) (at_most 256 limit.Columns (length items)) (each items) (all (Shows known rows) items h)) (λ p k. k)

  abbrev pub IfItems : Option (List (Part ShownItem)) → Type 0
  IfItems None = Unit {0}
  IfItems (Some items) = AllByRecursion (IsTyped known (Shows known)) items

  select_list-typed : (items : Option (List (Part ShownItem))) → IfItems items → IsTyped known AllShown (select_list items)
  select_list-typed None h = none known AllShown (λ view. limited (all_columns view.scope)) (λ view rows are. limited-typed rows (all_columns view.scope) (all-shown known view.scope rows are))
  select_list-typed (Some items) h = every known (Shows known) AllShown limited (λ rows found k. limited-typed rows found k) items h

  abbrev IfAsked : Rows → Option Condition → Type 0
  IfAsked rows c = IfThere known (Asks known) rows c

  abbrev BothShown : Rows → List ShownItem × Option Condition → Type 0
  BothShown rows p = AllShown rows p.0 × IfAsked rows p.1

  -- the parts of a SELECT
  pub record AreTyped (select : Clauses) : Type 0 where
    pub items : IfItems select.items
    pub from : IsTypedFrom known select.from
    pub filter : IfWritten known (Asks known) select.filter
    pub having : IfWritten known (Asks known) select.having

  shown-typed : (select : Clauses) → AreTyped select → IsTyped known BothShown (shown select)
  shown-typed select h =
      two known AllShown IfAsked BothShown also (select_list select.items) (if_written select.having) (λ rows f g k l. beside (AllShown rows) (IfAsked rows) f g k l)
      (select_list-typed select.items h.items) (written-typed known (Asks known) select.having h.having)

  -- ---- groups

  -- these columns of FROM's row have these types
  abbrev AreKeys : List ValueType → List ℕ → List ValueType → Type 0
  AreKeys from places types = map (slice_get from) places ≡ map Some types

  place_found : (column : Column) (frame : Frame) (outer : Scope) → IfOk (own_column column (frame ∷ outer) >>= (λ found. Ok found.place)) (λ place. (t : ValueType) × (slice_get (offered_types frame.columns) place ≡ Some t))
  place_found column frame outer =
      goes_on (IsOwn (frame ∷ outer)) (λ place. (t : ValueType) × (slice_get (offered_types frame.columns) place ≡ Some t)) (own_column column (frame ∷ outer)) (λ found. Ok found.place) (own-is column (frame ∷ outer))
      (λ x k. (x.value_type, subst (λ (f : Frame). slice_get (offered_types f.columns) x.place ≡ Some x.value_type) (sym (same_Some frame k.0 k.1)) k.2))

  abbrev HaveKeys : List ValueType → List ℕ → Type 0
  HaveKeys from places = (types : List ValueType) × AreKeys from places types

  keys_of : (from : List ValueType) (places : List ℕ) → AllByRecursion (λ place. (t : ValueType) × (slice_get from place ≡ Some t)) places → HaveKeys from places
  keys_of from [] h = ([], refl)
  keys_of from (place ∷ places) ((t, is), h) = let (types, are) = keys_of from places h in (t ∷ types, ap (λ o. o ∷ map (slice_get from) places) is ∙ ap (λ l. Some t ∷ l) are)

  places_found : (groups : List Column) (frame : Frame) (outer : Scope)
      → IfOk (each (map (λ column. own_column column (frame ∷ outer) >>= (λ found. Ok found.place)) groups)) (λ places. HaveKeys (offered_types frame.columns) places × (key_places (grouping_columns groups places) ≡ places))
  places_found [] frame outer = (([], refl), refl)
  places_found (column ∷ columns) frame outer =
      weaken (each (map (λ column. own_column column (frame ∷ outer) >>= (λ found. Ok found.place)) (column ∷ columns)))
      (mapped_any (λ place. (t : ValueType) × (slice_get (offered_types frame.columns) place ≡ Some t)) (λ column. own_column column (frame ∷ outer) >>= (λ found. Ok found.place)) (λ column. place_found column frame outer) (column ∷ columns))
    where
      weaken : (x : Finding (List ℕ)) → IfOk x (AllByRecursion (λ place. (t : ValueType) × (slice_get (offered_types frame.columns) place ≡ Some t)))
          → IfOk x (λ places. HaveKeys (offered_types frame.columns) places × (key_places (grouping_columns (column ∷ columns) places) ≡ places))
      weaken (Ok places) h = (keys_of (offered_types frame.columns) places h, refl)
      weaken (Err reasons) h = tt

  -- what is known of the key: without one there are so many set functions as none
  abbrev IsKey : List Column → List ValueType → ℕ → Option (List ℕ) → Type 0
  IsKey groups from functions None = functions ≡ 0
  IsKey groups from functions (Some places) = HaveKeys from places × (key_places (grouping_columns groups places) ≡ places)

  key_found-is : (is_grouped : Bool) (groups : List Column) (frame : Frame) (outer : Scope) (functions : ℕ) → (is_grouped ≡ false → functions ≡ 0)
      → IfOk (key_found is_grouped groups (frame ∷ outer)) (IsKey groups (offered_types frame.columns) functions)
  key_found-is false groups frame outer functions h = h refl
  key_found-is true groups frame outer functions h =
      goes_on (λ places. HaveKeys (offered_types frame.columns) places × (key_places (grouping_columns groups places) ≡ places)) (IsKey groups (offered_types frame.columns) functions)
      (each (map (λ column. own_column column (frame ∷ outer) >>= (λ found. Ok found.place)) groups)) (λ places. Ok (Some places)) (places_found groups frame outer) (λ places k. k)

  none_of : (a b : Bool) (n : ℕ) → not (a && b && n == 0) ≡ false → n ≡ 0
  none_of true true n e = at (n == 0) refl e
    where
      at : (d : Bool) → (n == 0) ≡ d → not d ≡ false → n ≡ 0
      at true is f = eqb-true n 0 is
      at false is f = absurd (true≢false f)
  none_of true false n e = absurd (true≢false e)
  none_of false true n e = absurd (true≢false e)
  none_of false false n e = absurd (true≢false e)

  no_functions : (select : Clauses) → is_grouped select ≡ false → length (shown select).functions ≡ 0
  no_functions select e = none_of (length select.groups == 0) (is_none select.having) (length (shown select).functions) e

  -- what the select list and HAVING see, and that they are well typed there
  abbrev AreSeenBy : List Column → Rows → List ValueType → List ValueType → Option (List ℕ) → List ShownItem → Option Condition → Type 0
  AreSeenBy groups rows from values None items having = AllShown (from ∷ rows) items
  AreSeenBy groups rows from values (Some places) items having =
      (types : List ValueType) × AreKeys from (key_places (grouping_columns groups places)) types × AllShown ((types ++ values) ∷ rows) items × IfAsked ((types ++ values) ∷ rows) having

  abbrev AreSeen : List Column → Rows → List ValueType → List ValueType → Groups → Type 0
  AreSeen groups rows from values g = AreSeenBy groups rows from values g.key g.items g.having

  empty : (values : List ValueType) → length values ≡ 0 → values ≡ []
  empty [] e = refl
  empty (x ∷ xs) e = absurd (omega (arith, e))

  same_length : (from : List ValueType) (places : List ℕ) (types : List ValueType) → AreKeys from places types → length places ≡ length types
  same_length from places types e = sym (length-map places (slice_get from)) ∙ ap length e ∙ length-map types Some

  module _ (select : Clauses) (h : AreTyped select) (columns : List Offer) (outer : Scope) (rows : Rows) (are : AreRowsOf outer rows) where
    abbrev from_types : List ValueType
    from_types = offered_types columns

    abbrev frame : Frame
    frame = frame_over select.from.names columns

    -- the types of the set functions
    abbrev values : List ValueType
    values = (shown-typed select h).types (frame ∷ outer)

    abbrev view_of : Option (List ℕ) → View
    view_of key = record { scope = record frame { key = key } ∷ outer; clause = Shown (width key) }

    seen_by : (key : Option (List ℕ)) → IsKey select.groups from_types (length (shown select).functions) key
        → IfOk ((shown select).found (view_of key)) (λ p. AreSeenBy select.groups rows from_types values key p.0 p.1)
    seen_by None e =
        let no_values : values ≡ [] = empty values ((shown-typed select h).count (frame ∷ outer) ∙ e) in
        weaken ((shown select).found (view_of None)) ((shown-typed select h).found (view_of None) (from_types ∷ rows) (refl, are) (subst (λ l. StandFrom 0 l (from_types ∷ rows)) (sym no_values) tt))
      where
        weaken : (x : Finding (List ShownItem × Option Condition)) → IfOk x (BothShown (from_types ∷ rows)) → IfOk x (λ p. AllShown (from_types ∷ rows) p.0)
        weaken (Ok p) k = k.0
        weaken (Err reasons) k = tt
    seen_by (Some places) ((types, keys), same) =
        let begins : BeginsWithKey from_types places (types ++ values) = record { types = types; values = values; columns = keys; is = refl } in
        weaken ((shown select).found (view_of (Some places)))
        ((shown-typed select h).found (view_of (Some places)) ((types ++ values) ∷ rows) (begins, are) (stand_behind types values rows (length places) (same_length from_types places types keys)))
      where
        weaken : (x : Finding (List ShownItem × Option Condition)) → IfOk x (BothShown ((types ++ values) ∷ rows)) → IfOk x (λ p. AreSeenBy select.groups rows from_types values (Some places) p.0 p.1)
        weaken (Ok p) k = (types, ap (map (slice_get from_types)) same ∙ keys, k.0, k.1)
        weaken (Err reasons) k = tt

    groups-seen : IfOk (groups_found select frame outer) (AreSeen select.groups rows from_types values)
    groups-seen =
        goes_on (IsKey select.groups from_types (length (shown select).functions)) (AreSeen select.groups rows from_types values) (key_found (is_grouped select) select.groups (frame ∷ outer))
        (λ key. (shown select).found (view_of key) >>= (λ p. Ok (record { key = key; items = p.0; having = p.1 })))
        (key_found-is (is_grouped select) select.groups frame outer (length (shown select).functions) (no_functions select))
        (λ key k. goes_on (λ p. AreSeenBy select.groups rows from_types values key p.0 p.1) (AreSeen select.groups rows from_types values) ((shown select).found (view_of key))
        (λ p. Ok (record { key = key; items = p.0; having = p.1 })) (seen_by key k) (λ p m. m))

    -- ---- the set functions

    functions_have : (fs : List FunctionFinding) (types : List ValueType) → AreFunctions known (from_types ∷ rows) (frame ∷ outer) fs types
        → IfOk (each (map (λ function. function (frame ∷ outer)) fs)) (λ found. FunctionsHaveTypes known (from_types ∷ rows) found types)
    functions_have [] [] k = typed.no_functions
    functions_have [] (t ∷ types) k = absurd k
    functions_have (f ∷ fs) [] k = absurd k
    functions_have (f ∷ fs) (t ∷ types) k = ahead_of (f (frame ∷ outer)) (each (map (λ function. function (frame ∷ outer)) fs)) k.0 (functions_have fs types k.1)
      where
        ahead_of : (x : Finding SetFunction) (xs : Finding (List SetFunction)) → IfOk x (λ a. FunctionHasType known (from_types ∷ rows) a t) → IfOk xs (λ found. FunctionsHaveTypes known (from_types ∷ rows) found types)
            → IfOk (before x xs) (λ found. FunctionsHaveTypes known (from_types ∷ rows) found (t ∷ types))
        ahead_of (Ok a) (Ok more) m n = typed.one_function m n
        ahead_of (Ok a) (Err reasons) m n = tt
        ahead_of (Err reasons) xs m n = tt

    functions-typed : IfOk (functions_found select (frame ∷ outer)) (λ found. FunctionsHaveTypes known (from_types ∷ rows) found values)
    functions-typed = functions_have (shown select).functions values ((shown-typed select h).functions (frame ∷ outer) (from_types ∷ rows) (refl, are))

    -- ---- what depends on the columns of FROM

    abbrev IsSettled : Settled → Type 0
    IsSettled s = IfAsked (from_types ∷ rows) s.filter × FunctionsHaveTypes known (from_types ∷ rows) s.functions values × AreSeen select.groups rows from_types values s.groups

    settled-typed : IfOk (settled_over select outer columns) IsSettled
    settled-typed =
        settle ((if_written select.filter).found (record { scope = frame ∷ outer; clause = Plain })) (functions_found select (frame ∷ outer)) (groups_found select frame outer)
        ((written-typed known (Asks known) select.filter h.filter).found (record { scope = frame ∷ outer; clause = Plain }) (from_types ∷ rows) (refl, are) tt) functions-typed groups-seen
      where
        settle : (x : Finding (Option Condition)) (y : Finding (List SetFunction)) (z : Finding Groups) → IfOk x (IfAsked (from_types ∷ rows)) → IfOk y (λ found. FunctionsHaveTypes known (from_types ∷ rows) found values)
            → IfOk z (AreSeen select.groups rows from_types values) → IfOk (also x (also y z) >>= (λ p. Ok (record { filter = p.0; functions = (p.1).0; groups = (p.1).1 }))) IsSettled
        settle (Ok x) (Ok y) (Ok z) k l m = (k, l, m)
        settle (Ok x) (Ok y) (Err reasons) k l m = tt
        settle (Ok x) (Err reasons) z k l m = tt
        settle (Err reasons) y z k l m = tt

    -- ---- the typed SELECT

    items_have : (row : Rows) (items : List ShownItem) → AllShown row items → HaveTypes known row (item_values (map typed_item items)) (types_of (map column_of items))
    items_have row [] k = typed.none
    items_have row (x ∷ xs) k =
        typed.one (subst (λ e. HasType known row e x.value_type) (sym (ap (λ (l : ItemLayer). l.expression) (opened_item (record { expression = x.expression; name = x.name })))) k.0) (items_have row xs k.1)

    grouped-rolled : (g : GroupingLayer) (types : List ValueType) → AreKeys from_types (key_places g.columns) types → FunctionsHaveTypes known (from_types ∷ rows) g.functions values → IfAsked ((types ++ values) ∷ rows) g.having
        → IsSeen known rows from_types (Some (roll-Grouping g)) (types ++ values)
    grouped-rolled g types k l m =
        let e = sym (opened_grouping g) in
        typed.grouped (roll-Grouping g) types values (subst (λ (d : GroupingLayer). AreKeys from_types (key_places d.columns) types) e k)
        (subst (λ (d : GroupingLayer). FunctionsHaveTypes known (from_types ∷ rows) d.functions values) e l) (subst (λ (d : GroupingLayer). IfAsked ((types ++ values) ∷ rows) d.having) e m)

    select-rolled : (s : SelectLayer) (seen types : List ValueType) → HasColumns known rows s.from from_types → IfAsked (from_types ∷ rows) s.filter → IsSeen known rows from_types s.grouping seen
        → HaveTypes known (seen ∷ rows) (item_values s.items) types → HasResult known rows (query.Select (roll-Select s)) types
    select-rolled s seen types k l m n =
        let e = sym (opened_select s) in
        typed.select (roll-Select s) from_types seen (subst (λ (d : SelectLayer). HasColumns known rows d.from from_types) e k) (subst (λ (d : SelectLayer). IfAsked (from_types ∷ rows) d.filter) e l)
        (subst (λ (d : SelectLayer). IsSeen known rows from_types d.grouping seen) e m) (subst (λ (d : SelectLayer). HaveTypes known (seen ∷ rows) (item_values d.items) types) e n)

    select-typed : (source : Source) (filter : Option Condition) (functions : List SetFunction) (key : Option (List ℕ)) (items : List ShownItem) (having : Option Condition)
        → HasColumns known rows source from_types → IfAsked (from_types ∷ rows) filter → FunctionsHaveTypes known (from_types ∷ rows) functions values → AreSeenBy select.groups rows from_types values key items having
        → IsResult known rows (typed_select select source (record { filter = filter; functions = functions; groups = record { key = key; items = items; having = having } }))
    select-typed source filter functions None items having k l m n =
        select-rolled (record { distinct = select.is_distinct; items = map typed_item items; from = source; filter = filter; grouping = None }) from_types (types_of (map column_of items)) k l typed.as_it_is (items_have (from_types ∷ rows) items n)
    select-typed source filter functions (Some places) items having k l m (types, keys, shown_there, asked) =
        let g : GroupingLayer = record { columns = grouping_columns select.groups places; functions = functions; having = having } in
        select-rolled (record { distinct = select.is_distinct; items = map typed_item items; from = source; filter = filter; grouping = Some (roll-Grouping g) }) (types ++ values) (types_of (map column_of items)) k l
        (grouped-rolled g types keys m asked) (items_have ((types ++ values) ∷ rows) items shown_there)

  pub clauses-typed : (select : Clauses) → AreTyped select → IsTypedQuery known (clauses_found select)
  clauses-typed select h outer rows are =
      whole (tables_found select.from.names) (select.from.source outer) (select.from.columns outer) (h.from outer rows are)
    where
      made : (source : Source) (columns : List Offer) (x : Finding Settled) → Offers known rows columns source → IfOk x (IsSettled select h columns outer rows are)
          → IfOk (also (Ok source) x >>= (λ p. Ok (typed_select select p.0 p.1))) (IsResult known rows)
      made source columns (Ok s) k m = select-typed select h columns outer rows are source s.filter s.functions s.groups.key s.groups.items s.groups.having k m.0 m.1 m.2
      made source columns (Err reasons) k m = tt

      whole : (t : Finding (Unit {0} × Unit {0})) (s : Finding Source) (c : Finding (List Offer)) → IfBoth (Offers known rows) c s
          → IfOk (also t (also s (c >>= settled_over select outer)) >>= (λ p. Ok (typed_select select (p.1).0 (p.1).1))) (IsResult known rows)
      whole (Ok t) (Ok source) (Ok columns) k = beside_tables t (also (Ok source) (settled_over select outer columns)) (made source columns (settled_over select outer columns) k (settled-typed select h columns outer rows are))
        where
          beside_tables : (t : Unit {0} × Unit {0}) (x : Finding (Source × Settled)) → IfOk (x >>= (λ p. Ok (typed_select select p.0 p.1))) (IsResult known rows)
              → IfOk (also (Ok t) x >>= (λ p. Ok (typed_select select (p.1).0 (p.1).1))) (IsResult known rows)
          beside_tables t (Ok p) m = m
          beside_tables t (Err reasons) m = tt
      whole (Ok t) (Ok source) (Err reasons) k = tt
      whole (Ok t) (Err reasons) c k = tt
      whole (Err reasons) s c k = tt
