-- The set functions of a typed SELECT are those that are listed of its text.
use Rattle.std.proofs.Common.{◌≡◌, refl, sym, ap, ◌∙◌, subst, ℕ, Bool, true, false, not, ◌&&◌, is_none, List, [], ◌∷◌, ◌++◌, map, length, Option, Some, None, Ok, Err, append-nil, arith, rules}
use Rattle.std.specs.Prelude.{◌==◌}
use Rattle.std.specs.Option.{option_map}
use Rattle.std.proofs.lemmas.Bool.{eqb-true}
use Rattle.ast.specs.declared.tree.Condition.{Condition}
use Rattle.ast.specs.declared.tree.Primary.{Primary, out-Primary}
use Rattle.ast.specs.declared.tree.Select.{Select as Tree, out-Select as out-Tree}
use Rattle.ast.specs.declared.tree.SelectItem.{SelectItem}
use Rattle.ast.specs.Parts.{selected_parts, written}
use Rattle.ast.specs.Parts as node
use Rattle.typing.specs.declared.typed.Condition.{Condition as Typed, the_lemmas}
use Rattle.typing.specs.declared.typed.Query.{Query-F, out-Query}
use Rattle.typing.specs.declared.typed.Query.TheVariants as query
use Rattle.typing.specs.declared.typed.Select.{Select, roll-Select, out-Select}
use Rattle.typing.specs.declared.typed.SetFunction.{SetFunction}
use Rattle.typing.specs.declared.typed.Source.{Source}
use Rattle.typing.specs.declared.scope.Frame.{Frame}
use Rattle.typing.specs.declared.scope.Groups.{Groups}
use Rattle.typing.specs.declared.scope.Offer.{Offer}
use Rattle.typing.specs.declared.scope.Settled.{Settled}
use Rattle.typing.specs.declared.scope.TypedQuery.{TypedQuery}
use Rattle.typing.specs.Finding.{Finding, ◌>>=◌, also, each}
use Rattle.typing.specs.From.{frame_over}
use Rattle.typing.specs.Known.{Known}
use Rattle.typing.specs.Part.{FunctionFinding, Plain, Shown, if_written}
use Rattle.typing.specs.Scope.{Scope, own_column}
use Rattle.typing.specs.Select.{Clauses, clauses_found, functions_found, grouping_of, groups_found, is_grouped, key_found, select_list, settled_over, shown, tables_found, typed_select, width}
use Rattle.typing.specs.SetFunction.{is_distinct}
use Rattle.typing.specs.Typing.{condition_part, item_part, select_found}
use Rattle.typing.proofs.Nodes.{select_at}
use Rattle.typing_laws.specs.Listed.{Lists, shown_nodes}
use Rattle.typing_laws.specs.Numbered.{IsNumbered, from_in, function_meant, functions_grouped, functions_of}
use Rattle.typing_laws.proofs.Walk.{all_at, all_append, all_mapped, listed-are}

-- ---- what is found comes of what its parts are found to be

pub same_ok : {A : Type 0} (x y : A) → ◌≡◌ {A = Finding A} (Ok x) (Ok y) → x ≡ y
same_ok x y e = cc

pub bound : {A B : Type 0} (x : Finding A) (next : A → Finding B) (y : B) → (x >>= next) ≡ Ok y → (a : A) × (x ≡ Ok a) × (next a ≡ Ok y)
bound (Ok a) next y e = (a, refl, e)
bound (Err reasons) next y e = absurd (cc)

pub beside : {A B : Type 0} (x : Finding A) (y : Finding B) (p : A × B) → also x y ≡ Ok p → (x ≡ Ok p.0) × (y ≡ Ok p.1)
beside {A} {B} (Ok x) (Ok y) p e = let same : (x, y) ≡ p = same_ok (x, y) p e in (ap (λ (q : A × B). Ok q.0) same, ap (λ (q : A × B). Ok q.1) same)
beside (Ok x) (Err reasons) p e = absurd (cc)
beside (Err reasons) y p e = absurd (cc)

-- ---- the set functions of a typed SELECT

pub opened_query : (s : Select) → out-Query (query.Select s) ≡ Query-F.Select s
opened_query s = search (rules, the_lemmas)

pub opened_select : (s : _) → out-Select (roll-Select s) ≡ s
opened_select s = search (rules, the_lemmas)

grouped_of : (select : Clauses) (source : Source) (settled : Settled)
    → functions_of (typed_select select source settled).query ≡ functions_grouped (grouping_of select.groups settled.functions settled.groups.having settled.groups.key)
grouped_of select source settled = rw (opened_query _, opened_select _) refl

no_functions : (functions : List FunctionFinding) → (length functions == 0) ≡ true → functions ≡ []
no_functions [] e = refl
no_functions (f ∷ functions) e = let none : length (f ∷ functions) ≡ 0 = eqb-true (length (f ∷ functions)) 0 e in absurd (omega (arith, none))

all_three : (a b c : Bool) → not (a && b && c) ≡ false → c ≡ true
all_three true true true e = refl
all_three true true false e = absurd (cc)
all_three true false c e = absurd (cc)
all_three false b c e = absurd (cc)

-- the groups have the set functions, and where there are no groups there are none
kept : (select : Clauses) (scope : Scope) (functions : List SetFunction) (having : Option Typed) (key : Option (List ℕ)) → functions_found select scope ≡ Ok functions
    → key_found (is_grouped select) select.groups scope ≡ Ok key → functions_grouped (grouping_of select.groups functions having key) ≡ functions
kept select scope functions having key found e = by (is_grouped select) refl e
  where
    by : (b : Bool) → is_grouped select ≡ b → key_found b select.groups scope ≡ Ok key → functions_grouped (grouping_of select.groups functions having key) ≡ functions
    by true is e =
        let places = bound (each (map (λ column. own_column column scope >>= (λ at. Ok at.place)) select.groups)) (λ places. Ok (Some places)) key e in
        let same : Some places.0 ≡ key = same_ok (Some places.0) key places.2 in
        rw (← same) refl
    by false is e =
        let same : None ≡ key = same_ok None key e in
        let none : (shown select).functions ≡ [] = no_functions (shown select).functions (all_three (length select.groups == 0) (is_none select.having) (length (shown select).functions == 0) is) in
        let empty : [] ≡ functions = same_ok [] functions (ap (λ (l : List FunctionFinding). each (map (λ function. function scope) l)) (sym none) ∙ found) in
        subst (λ (k : Option (List ℕ)). functions_grouped (grouping_of select.groups functions having k) ≡ functions) same empty

-- the key of the groups is the one that is found
key_of : (select : Clauses) (frame : Frame) (outer : Scope) (groups : Groups) → groups_found select frame outer ≡ Ok groups → key_found (is_grouped select) select.groups (frame ∷ outer) ≡ Ok groups.key
key_of select frame outer groups e =
    let keyed = bound (key_found (is_grouped select) select.groups (frame ∷ outer)) (λ key. (shown select).found (record { scope = record frame { key = key } ∷ outer; clause = Shown (width key) }) >>= (λ p.
    Ok (record { key = key; items = p.0; having = p.1 }))) groups e in
    let made = bound ((shown select).found (record { scope = record frame { key = keyed.0 } ∷ outer; clause = Shown (width keyed.0) })) (λ p. Ok (record { key = keyed.0; items = p.0; having = p.1 })) groups keyed.2 in
    let same : record { key = keyed.0; items = (made.0).0; having = (made.0).1 } ≡ groups = same_ok (record { key = keyed.0; items = (made.0).0; having = (made.0).1 }) groups made.2 in
    keyed.1 ∙ ap (λ (g : Groups). Ok g.key) same

-- what is settled of the clauses of a SELECT
record IsSettled (select : Clauses) (outer : Scope) (found : TypedQuery) : Type 0 where
  pub columns : List Offer
  pub offered : select.from.columns outer ≡ Ok columns
  pub functions : functions_found select (frame_over select.from.names columns ∷ outer) ≡ Ok (functions_of found.query)

settled_of : (select : Clauses) (outer : Scope) (columns : List Offer) (source : Source) (settled : Settled) (found : TypedQuery) → select.from.columns outer ≡ Ok columns
    → settled_over select outer columns ≡ Ok settled → typed_select select source settled ≡ found → IsSettled select outer found
settled_of select outer columns source settled found offered e is =
    let frame = frame_over select.from.names columns in
    let filter = (if_written select.filter).found (record { scope = frame ∷ outer; clause = Plain }) in
    let functions = functions_found select (frame ∷ outer) in
    let groups = groups_found select frame outer in
    let p = bound (also filter (also functions groups)) (λ p. Ok (record { filter = p.0; functions = (p.1).0; groups = (p.1).1 })) settled e in
    let two = beside filter (also functions groups) p.0 p.1 in
    let three = beside functions groups (p.0).1 two.1 in
    let same : record { filter = (p.0).0; functions = ((p.0).1).0; groups = ((p.0).1).1 } ≡ settled = same_ok (record { filter = (p.0).0; functions = ((p.0).1).0; groups = ((p.0).1).1 }) settled p.2 in
    let listed : functions ≡ Ok settled.functions = three.0 ∙ ap (λ (s : Settled). Ok s.functions) same in
    let made : groups ≡ Ok settled.groups = three.1 ∙ ap (λ (s : Settled). Ok s.groups) same in
    let whole : functions_grouped (grouping_of select.groups settled.functions settled.groups.having settled.groups.key) ≡ settled.functions =
    kept select (frame ∷ outer) settled.functions settled.groups.having settled.groups.key listed (key_of select frame outer settled.groups made) in
    record {
      columns = columns;
      offered = offered;
      functions = listed ∙ ap (λ (fs : List SetFunction). Ok fs) (sym (ap (λ (q : TypedQuery). functions_of q.query) (sym is) ∙ grouped_of select source settled ∙ whole));
    }

clauses_settled : (select : Clauses) (outer : Scope) (found : TypedQuery) → clauses_found select outer ≡ Ok found → IsSettled select outer found
clauses_settled select outer found e =
    let tables = tables_found select.from.names in
    let source = select.from.source outer in
    let settled = select.from.columns outer >>= settled_over select outer in
    let p = bound (also tables (also source settled)) (λ p. Ok (typed_select select (p.1).0 (p.1).1)) found e in
    let two = beside tables (also source settled) p.0 p.1 in
    let three = beside source settled (p.0).1 two.1 in
    let offered = bound (select.from.columns outer) (settled_over select outer) ((p.0).1).1 three.1 in
    settled_of select outer offered.0 ((p.0).1).0 ((p.0).1).1 found offered.1 offered.2 (same_ok (typed_select select ((p.0).1).0 ((p.0).1).1) found p.2)

-- ---- those of the text

module _ (k : Known) where
  abbrev pub clauses_of : Tree → Clauses
  clauses_of tree = record {
    is_distinct = is_distinct (out-Tree tree).quantifier;
    items = option_map (map (item_part k)) (out-Tree tree).items;
    from = from_in k tree;
    filter = option_map (condition_part k) (out-Tree tree).filter;
    groups = (out-Tree tree).groups;
    having = option_map (condition_part k) (out-Tree tree).having;
  }

  items_shown : (items : Option (List SelectItem)) → (select_list (option_map (map (item_part k)) items)).functions ≡ all_at k (selected_parts items)
  items_shown None = refl
  items_shown (Some items) = all_mapped k node.select_item (item_part k) (λ t. refl) items

  having_shown : (having : Option Condition) → (if_written (option_map (condition_part k) having)).functions ≡ all_at k (written node.condition having)
  having_shown None = refl
  having_shown (Some c) = sym (append-nil (condition_part k c).functions)

  all_shown : (tree : Tree) → (shown (clauses_of tree)).functions ≡ all_at k (shown_nodes tree)
  all_shown tree =
      ap (λ l. l ++ (if_written (option_map (condition_part k) (out-Tree tree).having)).functions) (items_shown (out-Tree tree).items)
      ∙ ap (λ l. all_at k (selected_parts (out-Tree tree).items) ++ l) (having_shown (out-Tree tree).having)
      ∙ sym (all_append k (selected_parts (out-Tree tree).items) (written node.condition (out-Tree tree).having))

  at_scope : (scope : Scope) (text : List Primary) → map (λ function. function scope) (map (λ (x : Primary). function_meant k (out-Primary x)) text) ≡ map (λ (x : Primary). function_meant k (out-Primary x) scope) text
  at_scope scope [] = refl
  at_scope scope (x ∷ text) = ap (λ l. function_meant k (out-Primary x) scope ∷ l) (at_scope scope text)

  pub select_numbered : (tree : Tree) (outer : Scope) (found : TypedQuery) (text : List Primary) → Lists (shown_nodes tree) text → select_found k tree outer ≡ Ok found → IsNumbered k tree outer found text
  select_numbered tree outer found text listed e =
      let h = clauses_settled (clauses_of tree) outer found (sym (select_at k tree outer) ∙ e) in
      let scope = frame_over (from_in k tree).names h.columns ∷ outer in
      let are : (shown (clauses_of tree)).functions ≡ map (λ (x : Primary). function_meant k (out-Primary x)) text = all_shown tree ∙ listed-are k (shown_nodes tree) text listed in
      record {
        columns = h.columns;
        offered = h.offered;
        functions = ap each (sym (at_scope scope text)) ∙ ap (λ (l : List FunctionFinding). each (map (λ function. function scope) l)) (sym are) ∙ h.functions;
      }

pub selects-numbered : (known : Known) (tree : Tree) (outer : Scope) (found : TypedQuery) (functions : List Primary) → Lists (shown_nodes tree) functions → select_found known tree outer ≡ Ok found
    → IsNumbered known tree outer found functions
selects-numbered known tree outer found functions listed e = select_numbered known tree outer found functions listed e
