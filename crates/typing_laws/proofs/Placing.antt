-- The values of a SELECT's set functions stand in its select list and in HAVING in the order of the
-- text.
use Rattle.std.proofs.Common.{◌≡◌, refl, sym, ap, ◌∙◌, subst, ℕ, suc, Bool, true, false, List, [], ◌∷◌, ◌++◌, map, length, Ok, Err, Option, Some, None, append-nil, arith, rules}
use Rattle.std.specs.Prelude.{flat_map}
use Rattle.std.specs.List.{AllByRecursion, range_with_len}
use Rattle.std.specs.Option.{option_map}
use Rattle.std.proofs.lemmas.List.{length-map}
use Rattle.ast.specs.declared.operator.Column.{Column}
use Rattle.ast.specs.declared.tree.Condition.{Condition}
use Rattle.ast.specs.declared.tree.Expression.{Expression as Written}
use Rattle.ast.specs.declared.tree.Primary.{Primary}
use Rattle.ast.specs.declared.tree.Select.{Select as Tree, out-Select as out-Tree}
use Rattle.ast.specs.declared.tree.SelectItem.{SelectItem}
use Rattle.ast.specs.Parts.{Node}
use Rattle.ast.specs.Parts as node
use Rattle.typing.specs.declared.typed.Condition.{Condition as Typed, the_lemmas}
use Rattle.typing.specs.declared.typed.Grouping.{Grouping, Grouping-F, out-Grouping, roll-Grouping}
use Rattle.typing.specs.declared.typed.Item.{Item, Item-F, out-Item, roll-Item}
use Rattle.typing.specs.declared.typed.Expression.{Expression}
use Rattle.typing.specs.declared.typed.Query.{Query}
use Rattle.typing.specs.declared.typed.Select.{Select}
use Rattle.typing.specs.declared.typed.SetFunction.{SetFunction}
use Rattle.typing.specs.declared.typed.Source.{Source}
use Rattle.typing.specs.declared.scope.Frame.{Frame}
use Rattle.typing.specs.declared.scope.Groups.{Groups}
use Rattle.typing.specs.declared.scope.Offer.{Offer}
use Rattle.typing.specs.declared.scope.Settled.{Settled}
use Rattle.typing.specs.declared.scope.ShownItem.{ShownItem}
use Rattle.typing.specs.declared.scope.TypedExpression.{TypedExpression}
use Rattle.typing.specs.declared.scope.TypedQuery.{TypedQuery}
use Rattle.typing.specs.Finding.{Finding, ◌>>=◌, also, before, each}
use Rattle.typing.specs.From.{frame_over}
use Rattle.typing.specs.Known.{Known}
use Rattle.typing.specs.Part.{FunctionFinding, Plain, Shown, if_written}
use Rattle.typing.specs.Scope.{Scope}
use Rattle.typing.specs.Select.{Clauses, all_columns, clauses_found, functions_found, grouping_columns, grouping_of, groups_found, is_grouped, key_found, limited, select_list, settled_over, shown, tables_found, typed_item, typed_select, width}
use Rattle.typing.specs.Typing.{condition_part, expression_part, item_part, select_found}
use Rattle.typing.proofs.Nodes.{select_at}
use Rattle.typing_laws.specs.Listed.{Lists}
use Rattle.typing_laws.specs.Numbered.{functions_grouped, functions_of}
use Rattle.typing_laws.specs.Placed.{IsConditionPlaced, IsExpressionPlaced, IsPlaced, key_width, places_asked, places_if, places_in, places_over, value_places, width_over}
use Rattle.typing_laws.proofs.NumberedColumns.{all-fit, limited-fits}
use Rattle.typing_laws.proofs.FunctionFitting.{Fits}
use Rattle.typing_laws.proofs.Numbers.{beside, bound, clauses_of, opened_query, opened_select, same_ok}
use Rattle.typing_laws.proofs.Standing.{InPlace, conditions-stand, expressions-stand, items-stand, shown as shown_places}
use Rattle.typing_laws.proofs.Turns.{every, none, two, written}
use Rattle.typing_laws.proofs.Walk.{all_at, listed-are}

-- ---- what is found of the clauses of a SELECT

record IsMade (select : Clauses) (outer : Scope) (found : TypedQuery) : Type 0 where
  pub columns : List Offer
  pub source : Source
  pub settled : Settled
  pub over : settled_over select outer columns ≡ Ok settled
  pub made : typed_select select source settled ≡ found

clauses_made : (select : Clauses) (outer : Scope) (found : TypedQuery) → clauses_found select outer ≡ Ok found → IsMade select outer found
clauses_made select outer found e =
    let tables = tables_found select.from.names in
    let source = select.from.source outer in
    let settled = select.from.columns outer >>= settled_over select outer in
    let p = bound (also tables (also source settled)) (λ p. Ok (typed_select select (p.1).0 (p.1).1)) found e in
    let two = beside tables (also source settled) p.0 p.1 in
    let three = beside source settled (p.0).1 two.1 in
    let offered = bound (select.from.columns outer) (settled_over select outer) ((p.0).1).1 three.1 in
    record {
      columns = offered.0;
      source = ((p.0).1).0;
      settled = ((p.0).1).1;
      over = offered.2;
      made = same_ok (typed_select select ((p.0).1).0 ((p.0).1).1) found p.2;
    }

-- the set functions and the groups
record IsOver (select : Clauses) (frame : Frame) (outer : Scope) (listed : List SetFunction) (groups : Groups) : Type 0 where
  pub functions : functions_found select (frame ∷ outer) ≡ Ok listed
  pub key : key_found (is_grouped select) select.groups (frame ∷ outer) ≡ Ok groups.key
  pub seen : (shown select).found (record { scope = record frame { key = groups.key } ∷ outer; clause = Shown (width groups.key) }) ≡ Ok (groups.items, groups.having)

groups_are : (select : Clauses) (frame : Frame) (outer : Scope) (functions : List SetFunction) (groups : Groups) → functions_found select (frame ∷ outer) ≡ Ok functions → groups_found select frame outer ≡ Ok groups
    → IsOver select frame outer functions groups
groups_are select frame outer functions groups listed e =
    let keyed = bound (key_found (is_grouped select) select.groups (frame ∷ outer)) (λ key. (shown select).found (record { scope = record frame { key = key } ∷ outer; clause = Shown (width key) }) >>= (λ p.
    Ok (record { key = key; items = p.0; having = p.1 }))) groups e in
    let made = bound ((shown select).found (record { scope = record frame { key = keyed.0 } ∷ outer; clause = Shown (width keyed.0) })) (λ p. Ok (record { key = keyed.0; items = p.0; having = p.1 })) groups keyed.2 in
    let same : record { key = keyed.0; items = (made.0).0; having = (made.0).1 } ≡ groups = same_ok (record { key = keyed.0; items = (made.0).0; having = (made.0).1 }) groups made.2 in
    record {
      functions = listed;
      key = keyed.1 ∙ ap (λ (g : Groups). Ok g.key) same;
      seen = subst (λ (g : Groups). (shown select).found (record { scope = record frame { key = g.key } ∷ outer; clause = Shown (width g.key) }) ≡ Ok (g.items, g.having)) same made.1;
    }

settled_is : (select : Clauses) (outer : Scope) (columns : List Offer) (settled : Settled) → settled_over select outer columns ≡ Ok settled
    → IsOver select (frame_over select.from.names columns) outer settled.functions settled.groups
settled_is select outer columns settled e =
    let frame = frame_over select.from.names columns in
    let filter = (if_written select.filter).found (record { scope = frame ∷ outer; clause = Plain }) in
    let functions = functions_found select (frame ∷ outer) in
    let groups = groups_found select frame outer in
    let p = bound (also filter (also functions groups)) (λ p. Ok (record { filter = p.0; functions = (p.1).0; groups = (p.1).1 })) settled e in
    let two = beside filter (also functions groups) p.0 p.1 in
    let three = beside functions groups (p.0).1 two.1 in
    let same : record { filter = (p.0).0; functions = ((p.0).1).0; groups = ((p.0).1).1 } ≡ settled = same_ok (record { filter = (p.0).0; functions = ((p.0).1).0; groups = ((p.0).1).1 }) settled p.2 in
    groups_are select frame outer settled.functions settled.groups (three.0 ∙ ap (λ (s : Settled). Ok s.functions) same) (three.1 ∙ ap (λ (s : Settled). Ok s.groups) same)

-- ---- the typed SELECT

opened_grouping : (g : _) → out-Grouping (roll-Grouping g) ≡ g
opened_grouping g = search (rules, the_lemmas)

opened_item : (i : _) → out-Item (roll-Item i) ≡ i
opened_item i = search (rules, the_lemmas)

typed_places_are : (select : Clauses) (source : Source) (settled : Settled)
    → value_places (typed_select select source settled).query ≡ places_over (grouping_of select.groups settled.functions settled.groups.having settled.groups.key) (map typed_item settled.groups.items)
typed_places_are select source settled = rw (opened_query _, opened_select _) refl

typed_width_is : (select : Clauses) (source : Source) (settled : Settled)
    → key_width (typed_select select source settled).query ≡ width_over (grouping_of select.groups settled.functions settled.groups.having settled.groups.key)
typed_width_is select source settled = rw (opened_query _, opened_select _) refl

typed_functions_are : (select : Clauses) (source : Source) (settled : Settled)
    → functions_of (typed_select select source settled).query ≡ functions_grouped (grouping_of select.groups settled.functions settled.groups.having settled.groups.key)
typed_functions_are select source settled = rw (opened_query _, opened_select _) refl

module _ (n : ℕ) where
  abbrev item_places : ShownItem → List ℕ
  item_places item = places_in n item.expression

  items_are : (items : List ShownItem) → flat_map (λ item. places_in n (out-Item item).expression) (map typed_item items) ≡ flat_map item_places items
  items_are [] = refl
  items_are (item ∷ items) =
      ap (λ (l : Item-F Typed Expression Query SetFunction Source Grouping Item Select). places_in n l.expression ++ flat_map (λ item. places_in n (out-Item item).expression) (map typed_item items)) (opened_item (record { expression = item.expression; name = item.name }))
      ∙ ap (λ l. places_in n item.expression ++ l) (items_are items)

-- the groups and the items of a typed SELECT that has groups
grouped_places : (columns : Option (List ℕ)) (functions : List SetFunction) (having : Option Typed) (items : List ShownItem) (n : ℕ) → width columns ≡ n
    → flat_map (item_places n) items ++ places_if n having ≡ range_with_len n (length functions)
    → places_over (Some (roll-Grouping (record { columns = columns; functions = functions; having = having }))) (map typed_item items)
    ≡ range_with_len (width_over (Some (roll-Grouping (record { columns = columns; functions = functions; having = having }))))
    (length (functions_grouped (Some (roll-Grouping (record { columns = columns; functions = functions; having = having })))))
grouped_places columns functions having items n wide h =
    let typed = map typed_item items in
    let over : flat_map (λ item. places_in (width columns) (out-Item item).expression) typed ++ places_if (width columns) having ≡ range_with_len (width columns) (length functions) =
    subst (λ (m : ℕ). flat_map (λ item. places_in m (out-Item item).expression) typed ++ places_if m having ≡ range_with_len m (length functions)) (sym wide) (ap (λ l. l ++ places_if n having) (items_are n items) ∙ h) in
    subst
    (λ (g : Grouping-F Typed Expression Query SetFunction Source Grouping Item Select). flat_map (λ item. places_in (width g.columns) (out-Item item).expression) typed ++ places_if (width g.columns) g.having ≡ range_with_len (width g.columns) (length g.functions))
    (sym (opened_grouping (record { columns = columns; functions = functions; having = having }))) over

-- ---- the key

wide : (b : Bool) (groups : List Column) (scope : Scope) (key : List ℕ) → key_found b groups scope ≡ Ok (Some key) → width (grouping_columns groups key) ≡ length key
wide false groups scope key e = absurd (none_some key (same_ok None (Some key) e))
  where
    none_some : (key : List ℕ) → ◌≡◌ {A = Option (List ℕ)} None (Some key) → ⊥
    none_some key e = cc
wide true [] scope key e =
    let same : Some [] ≡ Some key = same_ok (Some []) (Some key) e in
    let empty : [] ≡ key = some_same [] key same in
    ap length empty
  where
    some_same : (xs ys : List ℕ) → ◌≡◌ {A = Option (List ℕ)} (Some xs) (Some ys) → xs ≡ ys
    some_same xs ys e = cc
wide true (column ∷ groups) scope key e = refl

one_more : {A : Type 0} (x : Finding A) (y : Finding (List A)) (n : ℕ) → ((found : List A) → y ≡ Ok found → length found ≡ n) → (found : List A) → before x y ≡ Ok found → length found ≡ suc n
one_more (Ok a) (Ok more) n h found e = sym (ap length (same_ok (a ∷ more) found e)) ∙ ap (λ m. suc m) (h more refl)
one_more (Ok a) (Err reasons) n h found e = absurd (cc)
one_more (Err reasons) y n h found e = absurd (cc)

each_length : {A : Type 0} (xs : List (Finding A)) (found : List A) → each xs ≡ Ok found → length found ≡ length xs
each_length [] found e = sym (ap length (same_ok [] found e))
each_length (x ∷ xs) found e = one_more x (each xs) (length xs) (each_length xs) found e

many : (functions : List FunctionFinding) (scope : Scope) (found : List SetFunction) → each (map (λ function. function scope) functions) ≡ Ok found → length found ≡ length functions
many functions scope found e = each_length (map (λ (function : FunctionFinding). function scope) functions) found e ∙ length-map functions (λ (function : FunctionFinding). function scope)

-- ---- the select list and HAVING

also-fits : {A B : Type 0} (of : A → List ℕ) (of_other : B → List ℕ) (x : Finding A) (y : Finding B) (places all : List ℕ) → Fits of x places → Fits of_other y all
    → Fits (λ (p : A × B). of p.0 ++ of_other p.1) (also x y) (places ++ all)
also-fits of of_other (Ok x) (Ok y) places all h k = ap (λ l. l ++ of_other y) h ∙ ap (λ l. places ++ l) k
also-fits of of_other (Ok x) (Err reasons) places all h k = tt
also-fits of of_other (Err reasons) y places all h k = tt

module _ (k : Known) (frame : Frame) (outer : Scope) (key : List ℕ) (is : frame.key ≡ Some key) where
  items_in : (items : List SelectItem) → AllByRecursion (InPlace k frame outer key is (shown_places k frame outer key is)) (map (item_part k) items)
  items_in [] = tt
  items_in (item ∷ items) = (items-stand k frame outer key is item, items_in items)

  list_in : (items : Option (List SelectItem)) → InPlace k frame outer key is (flat_map (shown_places k frame outer key is)) (select_list (option_map (map (item_part k)) items))
  list_in None = none (frame ∷ outer) (length key) (flat_map (shown_places k frame outer key is)) (λ view. limited (all_columns view.scope)) (λ first. all-fit frame outer key is)
  list_in (Some items) =
      every (frame ∷ outer) (length key) (shown_places k frame outer key is) (flat_map (shown_places k frame outer key is)) limited (map (item_part k) items) (limited-fits frame outer key is) (items_in items)

  having_in : (having : Option Condition) → InPlace k frame outer key is (places_if (length key)) (if_written (option_map (condition_part k) having))
  having_in None = λ first le. refl
  having_in (Some having) =
      written (frame ∷ outer) (length key) (places_asked (length key)) (places_if (length key)) (λ a. refl) (condition_part k having) (conditions-stand k frame outer key is having)

  shown_in : (tree : Tree) → InPlace k frame outer key is (λ (p : List ShownItem × Option Typed). flat_map (shown_places k frame outer key is) p.0 ++ places_if (length key) p.1) (shown (clauses_of k tree))
  shown_in tree =
      two (frame ∷ outer) (length key) (flat_map (shown_places k frame outer key is)) (places_if (length key)) (λ (p : List ShownItem × Option Typed). flat_map (shown_places k frame outer key is) p.0 ++ places_if (length key) p.1)
      also (select_list (option_map (map (item_part k)) (out-Tree tree).items)) (if_written (option_map (condition_part k) (out-Tree tree).having))
      (also-fits (flat_map (shown_places k frame outer key is)) (places_if (length key))) (list_in (out-Tree tree).items) (having_in (out-Tree tree).having)

as_found : {A : Type 0} (of : A → List ℕ) (x : Finding A) (a : A) (places : List ℕ) → x ≡ Ok a → Fits of x places → of a ≡ places
as_found {A = A} of x a places e h = subst (λ (f : Finding A). Fits of f places) e h

module _ (k : Known) (tree : Tree) (frame : Frame) (outer : Scope) (functions : List SetFunction) (groups : Groups) (h : IsOver (clauses_of k tree) frame outer functions groups) where
  keyed : (key : Option (List ℕ)) → groups.key ≡ key
      → places_over (grouping_of (out-Tree tree).groups functions groups.having key) (map typed_item groups.items)
      ≡ range_with_len (width_over (grouping_of (out-Tree tree).groups functions groups.having key)) (length (functions_grouped (grouping_of (out-Tree tree).groups functions groups.having key)))
  keyed None e = refl
  keyed (Some key) e =
      let inner = record frame { key = groups.key } in
      let start : width groups.key ≡ length key = ap width e in
      let placed = as_found (λ (p : List ShownItem × Option Typed). flat_map (shown_places k inner outer key e) p.0 ++ places_if (length key) p.1)
      ((shown (clauses_of k tree)).found (record { scope = inner ∷ outer; clause = Shown (length key) })) (groups.items, groups.having) (range_with_len (length key) (length (shown (clauses_of k tree)).functions))
      (subst (λ n. (shown (clauses_of k tree)).found (record { scope = inner ∷ outer; clause = Shown n }) ≡ Ok (groups.items, groups.having)) start h.seen)
      (shown_in k inner outer key e tree (length key) (omega arith)) in
      let count : length functions ≡ length (shown (clauses_of k tree)).functions = many (shown (clauses_of k tree)).functions (frame ∷ outer) functions h.functions in
      grouped_places (grouping_columns (out-Tree tree).groups key) functions groups.having groups.items (length key)
      (wide (is_grouped (clauses_of k tree)) (out-Tree tree).groups (frame ∷ outer) key (h.key ∙ ap (λ x. Ok x) e))
      (placed ∙ ap (range_with_len (length key)) (sym count))

pub selects-placed : (k : Known) (tree : Tree) (outer : Scope) (found : TypedQuery) → select_found k tree outer ≡ Ok found → IsPlaced k tree outer found
selects-placed k tree outer found e =
    let h = clauses_made (clauses_of k tree) outer found (sym (select_at k tree outer) ∙ e) in
    let s = h.settled in
    let over = settled_is (clauses_of k tree) outer h.columns s h.over in
    let made : value_places (typed_select (clauses_of k tree) h.source s).query ≡ range_with_len (key_width (typed_select (clauses_of k tree) h.source s).query) (length (functions_of (typed_select (clauses_of k tree) h.source s).query)) =
    rw (typed_places_are (clauses_of k tree) h.source s, typed_width_is (clauses_of k tree) h.source s, typed_functions_are (clauses_of k tree) h.source s)
    (keyed k tree (frame_over (clauses_of k tree).from.names h.columns) outer s.functions s.groups over s.groups.key refl) in
    subst (λ (q : TypedQuery). value_places q.query ≡ range_with_len (key_width q.query) (length (functions_of q.query))) h.made made

-- ---- inside a text

listed_length : (k : Known) (x : Node) (functions : List Primary) (found : List FunctionFinding) → all_at k (x ∷ []) ≡ found → Lists (x ∷ []) functions → length found ≡ length functions
listed_length k x functions found e l = ap length (sym e ∙ listed-are k (x ∷ []) functions l) ∙ length-map functions _

pub expressions-placed : (k : Known) (tree : Written) (frame : Frame) (outer : Scope) (key : List ℕ) (first : ℕ) (found : TypedExpression) (functions : List Primary)
    → IsExpressionPlaced k tree frame outer key first found functions
expressions-placed k tree frame outer key first found functions = λ is le e l.
    as_found (λ x. places_in (length key) x.expression) ((expression_part k tree).found (record { scope = frame ∷ outer; clause = Shown first })) found (range_with_len first (length (expression_part k tree).functions)) e
    (expressions-stand k frame outer key is tree first le)
    ∙ ap (range_with_len first) (listed_length k (node.expression tree) functions (expression_part k tree).functions (append-nil _) l)

pub conditions-placed : (k : Known) (tree : Condition) (frame : Frame) (outer : Scope) (key : List ℕ) (first : ℕ) (found : Typed) (functions : List Primary)
    → IsConditionPlaced k tree frame outer key first found functions
conditions-placed k tree frame outer key first found functions = λ is le e l.
    as_found (places_asked (length key)) ((condition_part k tree).found (record { scope = frame ∷ outer; clause = Shown first })) found (range_with_len first (length (condition_part k tree).functions)) e
    (conditions-stand k frame outer key is tree first le)
    ∙ ap (range_with_len first) (listed_length k (node.condition tree) functions (condition_part k tree).functions (append-nil _) l)
