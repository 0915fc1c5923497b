-- What is found of the parts of SELECTs and queries, put together.
use Rattle.std.specs.Prelude.{ℕ, Bool, List, [], ◌∷◌, map, Option, Ok}
use Rattle.std.specs.Option.{option_map}
use Rattle.ast.specs.declared.operator.Column.{Column}
use Rattle.ast.specs.declared.operator.Quantifier.{Quantifier}
use Rattle.ast.specs.declared.operator.SetOperator.{SetOperator}
use Rattle.ast.specs.declared.tree.Addend.{Addend}
use Rattle.ast.specs.declared.tree.Condition.{Condition as Tree}
use Rattle.ast.specs.declared.tree.Operand.{Operand}
use Rattle.ast.specs.declared.tree.Select.{Select, out-Select}
use Rattle.ast.specs.declared.tree.SelectItem.{SelectItem}
use Rattle.ast.specs.declared.tree.TableReference.{TableReference}
use Rattle.typing.specs.declared.typed.Condition.{Condition}
use Rattle.typing.specs.declared.typed.Query.{Query}
use Rattle.typing.specs.declared.typed.SetOperation.{SetOperation}
use Rattle.typing.specs.declared.typed.Source.{Source}
use Rattle.typing.specs.declared.scope.Frame.{Frame}
use Rattle.typing.specs.declared.scope.Groups.{Groups}
use Rattle.typing.specs.declared.scope.Settled.{Settled}
use Rattle.typing.specs.declared.scope.ShownItem.{ShownItem}
use Rattle.typing.specs.declared.scope.Sides.{Sides}
use Rattle.typing.specs.declared.scope.TypedFrom.{TypedFrom}
use Rattle.typing.specs.declared.scope.TypedQuery.{TypedQuery}
use Rattle.typing.specs.Finding.{Finding, ◌>>=◌, also}
use Rattle.typing.specs.From.{From, from_of}
use Rattle.typing.specs.Known.{Known}
use Rattle.typing.specs.Part.{Part, Plain, Shown, if_written}
use Rattle.typing.specs.Scope.{Scope}
use Rattle.typing.specs.Select.{Clauses, functions_found, is_grouped, key_found, select_list, shown, tables_found, width}
use Rattle.typing.specs.SetFunction.{is_distinct}
use Rattle.typing.specs.SetOperator.{combinable, intersection, operation}
use Rattle.typing.specs.Typing.{addend_found, condition_part, item_part, operand_found, reference_part}
use Rattle.type_rules.specs.Selects.{made_select, settled}
use Rattle.type_rules.specs.declared.tables.Joined.{Joined}

-- ---- operands of set operators

abbrev pub addend_after : Known → TypedQuery → Scope → SetOperator × Addend → Finding (SetOperation × Query)
addend_after k first outer other = combinable (Ok first) (operation other.0, addend_found k other.1 outer)

abbrev pub operand_after : Known → TypedQuery → Scope → Bool × Operand → Finding (SetOperation × Query)
operand_after k first outer other = combinable (Ok first) (intersection other.0, operand_found k other.1 outer)

-- ---- FROM

abbrev pub from_in : Known → List TableReference → From
from_in k references = from_of (map (reference_part k) references)

-- a join whose sides are found, with its ON
abbrev pub join_of : (Sides → Source) → Joined → Finding Condition → Finding TypedFrom
join_of joined j found =
    found >>= (λ on. Ok (record { frame = j.frame; source = joined (record { left = j.left; right = j.right; right_width = j.right_width; on = on }) }))

-- ---- SELECT

-- the select list, and the condition of WHERE or HAVING where it is written
abbrev pub list_part : Known → Option (List SelectItem) → Part (List ShownItem)
list_part k items = select_list (option_map (map (item_part k)) items)

abbrev pub filter_part : Known → Option Tree → Part (Option Condition)
filter_part k filter = if_written (option_map (condition_part k) filter)

abbrev pub clauses_of : Known → Select → Clauses
clauses_of k tree = record {
  is_distinct = is_distinct (out-Select tree).quantifier;
  items = option_map (map (item_part k)) (out-Select tree).items;
  from = from_in k (out-Select tree).from;
  filter = option_map (condition_part k) (out-Select tree).filter;
  groups = (out-Select tree).groups;
  having = option_map (condition_part k) (out-Select tree).having;
}

-- what a FROM shows, inside what is seen around it
abbrev pub with_key : Option (List ℕ) → Frame → Scope → Scope
with_key key frame outer = record frame { key = key } ∷ outer

-- what the groups show in place of the rows
abbrev pub keyed : Option (List ℕ) → Scope → Scope
keyed key [] = []
keyed key (frame ∷ outer) = with_key key frame outer

abbrev pub groups_of : Option (List ℕ) → Finding (List ShownItem × Option Condition) → Finding Groups
groups_of key found = found >>= (λ p. Ok (record { key = key; items = p.0; having = p.1 }))

-- what depends on the columns that a FROM shows
abbrev pub settled_in : Clauses → Scope → Finding Settled
settled_in select rows =
    settled (also ((if_written select.filter).found (record { scope = rows; clause = Plain }))
    (also (functions_found select rows)
    (key_found (is_grouped select) select.groups rows >>= (λ key.
    groups_of key ((shown select).found (record { scope = keyed key rows; clause = Shown (width key) }))))))

-- a SELECT over a FROM that is found
abbrev pub select_from : Option Quantifier → List Column → Source → Finding ((Unit {0} × Unit {0}) × Settled)
    → Finding TypedQuery
select_from quantifier groups source found = found >>= (λ p. Ok (made_select quantifier groups source p.1))

abbrev pub select_over : Option Quantifier → List Column → TypedFrom → Finding Settled → Finding TypedQuery
select_over quantifier groups from found = select_from quantifier groups from.source (also (tables_found from.frame.tables) found)
