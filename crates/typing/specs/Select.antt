-- SELECT: its select list, groups and HAVING (ISO/IEC 9075:1992, 7.7 to 7.9). A SELECT is grouped
-- where it has GROUP BY, HAVING or a set function; HAVING and the select list then see, of each
-- group, the key and the values of the set functions.
use Rattle.std.specs.Prelude.{ℕ, ◌+◌, ◌==◌, Bool, true, false, not, ◌&&◌, is_none, List, [], ◌∷◌, map, length, Option, Some, None, Ok}
use Rattle.sqlval.specs.declared.value.ValueType.{ValueType}
use Rattle.refusals.specs.declared.limit.Limit.TheVariants as limit
use Rattle.ast.specs.declared.operator.Alias.{Alias}
use Rattle.ast.specs.declared.operator.Column.{Column}
use Rattle.typing.specs.declared.typed.Condition.{Condition}
use Rattle.typing.specs.declared.typed.Expression.{Expression}
use Rattle.typing.specs.declared.typed.Grouping.{Grouping, roll-Grouping}
use Rattle.typing.specs.declared.typed.Item.{Item, roll-Item}
use Rattle.typing.specs.declared.typed.Query.TheVariants as query
use Rattle.typing.specs.declared.typed.Select.{roll-Select}
use Rattle.typing.specs.declared.typed.SetFunction.{SetFunction}
use Rattle.typing.specs.declared.typed.Source.{Source}
use Rattle.typing.specs.declared.scope.Frame.{Frame}
use Rattle.typing.specs.declared.scope.Groups.{Groups}
use Rattle.typing.specs.declared.scope.Offer.{Offer}
use Rattle.typing.specs.declared.scope.ResultColumn.{ResultColumn}
use Rattle.typing.specs.declared.scope.Settled.{Settled}
use Rattle.typing.specs.declared.scope.ShownItem.{ShownItem}
use Rattle.typing.specs.declared.scope.TypedExpression.{TypedExpression}
use Rattle.typing.specs.declared.scope.TypedQuery.{TypedQuery}
use Rattle.typing.specs.Finding.{Finding, ◌>>=◌, also, each}
use Rattle.typing.specs.Scope.{Scope, seen_in, own_column}
use Rattle.typing.specs.Part.{Shown, Plain, Part, of_none, of_one, of_two, of_all, if_written}
use Rattle.typing.specs.Table.{at_most, distinct_found}
use Rattle.typing.specs.From.{From, frame_over}

-- ---- the select list

abbrev pub shown_item : Option (List ℕ) → TypedExpression → ShownItem
shown_item name x = record { expression = x.expression; name = name; value_type = x.value_type }

-- an item has the name after AS, else that of the column that it is
abbrev pub item_name : Option Alias → Option (List ℕ) → Option (List ℕ)
item_name (Some alias) column = Some alias.name
item_name None column = column

abbrev pub named_item : Option Alias → Part TypedExpression → Part ShownItem
named_item alias value = of_one (λ found. found >>= (λ x. Ok (shown_item (item_name alias value.name) x))) value

-- `*`: all columns in order
abbrev pub columns_from : Option (List ℕ) → ℕ → List Offer → List (Finding ShownItem)
columns_from key at [] = []
columns_from key at (offer ∷ offers) =
    (seen_in key 0 (record { place = at; value_type = offer.value_type }) >>= (λ x. Ok (shown_item offer.name x))) ∷ columns_from key (at + 1) offers

abbrev pub all_columns : Scope → List (Finding ShownItem)
all_columns [] = []
all_columns (frame ∷ outer) = columns_from frame.key 0 frame.columns

-- at most 256 columns: our own choice
abbrev pub limited : List (Finding ShownItem) → Finding (List ShownItem)
limited items = also (at_most 256 limit.Columns (length items)) (each items) >>= (λ p. Ok p.1)

abbrev pub select_list : Option (List (Part ShownItem)) → Part (List ShownItem)
select_list None = of_none (λ view. limited (all_columns view.scope))
select_list (Some items) = of_all limited items

-- ---- groups

-- the grouping columns, by their places in FROM's row; none where the SELECT is not grouped
abbrev pub key_found : Bool → List Column → Scope → Finding (Option (List ℕ))
key_found false groups scope = Ok None
key_found true groups scope = each (map (λ column. own_column column scope >>= (λ found. Ok found.place)) groups) >>= (λ places. Ok (Some places))

abbrev pub width : Option (List ℕ) → ℕ
width None = 0
width (Some key) = length key

-- without GROUP BY all rows are one group
abbrev pub grouping_columns : List Column → List ℕ → Option (List ℕ)
grouping_columns [] places = None
grouping_columns (column ∷ columns) places = Some places

abbrev pub grouping_of : List Column → List SetFunction → Option Condition → Option (List ℕ) → Option Grouping
grouping_of groups functions having None = None
grouping_of groups functions having (Some key) = Some (roll-Grouping (record { columns = grouping_columns groups key; functions = functions; having = having }))

-- ---- the whole

-- the parts of a SELECT
pub record Clauses : Type 0 where
  pub is_distinct : Bool
  pub items : Option (List (Part ShownItem))
  pub from : From
  pub filter : Option (Part Condition)
  pub groups : List Column
  pub having : Option (Part Condition)

-- the select list and then HAVING
abbrev pub shown : Clauses → Part (List ShownItem × Option Condition)
shown select = of_two also (select_list select.items) (if_written select.having)

abbrev pub is_grouped : Clauses → Bool
is_grouped select = not (length select.groups == 0 && is_none select.having && length (shown select).functions == 0)

-- the groups, the select list and HAVING
abbrev pub groups_found : Clauses → Frame → Scope → Finding Groups
groups_found select frame outer =
    key_found (is_grouped select) select.groups (frame ∷ outer) >>= (λ key.
    (shown select).found (record { scope = record frame { key = key } ∷ outer; clause = Shown (width key) }) >>= (λ p.
    Ok (record { key = key; items = p.0; having = p.1 })))

abbrev pub functions_found : Clauses → Scope → Finding (List SetFunction)
functions_found select scope = each (map (λ function. function scope) (shown select).functions)

abbrev pub column_of : ShownItem → ResultColumn
column_of item = record { name = item.name; value_type = item.value_type }

abbrev pub typed_item : ShownItem → Item
typed_item item = roll-Item (record { expression = item.expression; name = item.name })

-- what depends on the columns that the FROM offers
abbrev pub settled_over : Clauses → Scope → List Offer → Finding Settled
settled_over select outer columns =
    let frame = frame_over select.from.names columns in
    also ((if_written select.filter).found (record { scope = frame ∷ outer; clause = Plain }))
    (also (functions_found select (frame ∷ outer)) (groups_found select frame outer)) >>= (λ p.
    Ok (record { filter = p.0; functions = (p.1).0; groups = (p.1).1 }))

abbrev pub typed_select : Clauses → Source → Settled → TypedQuery
typed_select select from settled = record {
  query = query.Select (roll-Select (record {
    distinct = select.is_distinct;
    items = map typed_item settled.groups.items;
    from = from;
    filter = settled.filter;
    grouping = grouping_of select.groups settled.functions settled.groups.having settled.groups.key;
  }));
  columns = map column_of settled.groups.items;
}

-- at most 8 tables in one FROM, our own choice, and no two of one name
abbrev pub tables_found : List (List ℕ) → Finding (Unit {0} × Unit {0})
tables_found names = also (at_most 8 limit.Tables (length names)) (distinct_found names)

abbrev pub clauses_found : Clauses → Scope → Finding TypedQuery
clauses_found select outer =
    also (tables_found select.from.names) (also (select.from.source outer) (select.from.columns outer >>= settled_over select outer)) >>= (λ p.
    Ok (typed_select select (p.1).0 (p.1).1))
