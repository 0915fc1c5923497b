-- FROMs, SELECTs and set operators find with reasons, where their parts do.
use Rattle.std.proofs.Common.{refl, ℕ, Bool, true, false, List, [], ◌∷◌, ◌++◌, map, length, Ok, Option, Some, None}
use Rattle.std.specs.Prelude.{◌==◌, ◌+◌, nat_le, ◌&&◌}
use Rattle.std.specs.Cmp.Lexicographic.{pointwise}
use Rattle.std.specs.List.{AllByRecursion}
use Rattle.sqlval.specs.declared.schema.Column.{Column as Stored}
use Rattle.sqlval.specs.declared.value.ValueType.{ValueType}
use Rattle.refusals.specs.declared.limit.Limit.TheVariants as limit
use Rattle.ast.specs.declared.operator.Alias.{Alias}
use Rattle.ast.specs.declared.operator.Column.{Column}
use Rattle.ast.specs.declared.statement.SortColumn.{SortColumn}
use Rattle.ast.specs.declared.statement.SortColumn.TheVariants as sort
use Rattle.ast.specs.declared.statement.SortKey.{SortKey}
use Rattle.typing.specs.declared.typed.Condition.{Condition}
use Rattle.typing.specs.declared.typed.Query.{Query}
use Rattle.typing.specs.declared.typed.SetOperation.{SetOperation}
use Rattle.typing.specs.declared.typed.Source.{Source}
use Rattle.typing.specs.declared.scope.Frame.{Frame}
use Rattle.typing.specs.declared.scope.Offer.{Offer}
use Rattle.typing.specs.declared.scope.ResultColumn.{ResultColumn}
use Rattle.typing.specs.declared.scope.ShownItem.{ShownItem}
use Rattle.typing.specs.declared.scope.Sides.{Sides}
use Rattle.typing.specs.declared.scope.TypedExpression.{TypedExpression}
use Rattle.typing.specs.declared.scope.TypedQuery.{TypedQuery}
use Rattle.typing.specs.Finding.{Finding, also, each}
use Rattle.typing.specs.From.{From, all_crossed, crossed, derived_table, from_of, frame_over, joined_by, joined_columns, joined_on, on_found, stored_table}
use Rattle.typing.specs.Order.{key_found as sort_key_found, named_from, only_place, sort_place}
use Rattle.typing.specs.Part.{FunctionFinding, Part, Plain, Shown, if_written}
use Rattle.typing.specs.Scope.{Scope}
use Rattle.typing.specs.Select.{Clauses, all_columns, clauses_found, columns_from, groups_found, is_grouped, item_name, key_found, limited, named_item, shown_item, select_list, settled_over, shown, width}
use Rattle.typing.specs.SetOperator.{agreeing, combinable, exists, in_query, of_one_column, only_column, same_type, scalar, set_chain, types_of}
use Rattle.typing_laws.specs.Reasons.{IsReasoned}
use Rattle.typing_laws.proofs.TypeFindings.{found, faulty, goes_on, beside, all, mapped, mapped_any, counted, distinct, either}
use Rattle.typing_laws.proofs.TypeParts.{IfWritten, IsReasonedOperand, IsSafe, IsSafeFunction, every, followed, none, two, written}
use Rattle.typing_laws.proofs.Expressions.{must, own_column-safe, seen-safe}

-- ---- FROM

-- a FROM, or a part of it, has its reasons in whatever outer queries
pub record IsSafeFrom (from : From) : Type 0 where
  pub columns : (outer : Scope) → IsReasoned (from.columns outer)
  pub source : (outer : Scope) → IsReasoned (from.source outer)

abbrev pub IsSafeQuery : (Scope → Finding TypedQuery) → Type 0
IsSafeQuery query = (scope : Scope) → IsReasoned (query scope)

pub stored-safe : (columns_of : List ℕ → Finding (List Stored)) (name shown_name : List ℕ) → IsReasoned (columns_of name) → IsSafeFrom (stored_table columns_of name shown_name)
stored-safe columns_of name shown_name h = record { columns = λ outer. goes_on h (λ c. found); source = λ outer. goes_on h (λ c. found) }

pub derived-safe : (query : Scope → Finding TypedQuery) (shown_name : List ℕ) → IsSafeQuery query → IsSafeFrom (derived_table query shown_name)
derived-safe query shown_name h = record { columns = λ outer. goes_on (h outer) (λ q. found); source = λ outer. goes_on (h outer) (λ q. found) }

joined_columns-safe : (left right : From) → IsSafeFrom left → IsSafeFrom right → (outer : Scope) → IsReasoned (joined_columns left right outer)
joined_columns-safe left right h k outer = goes_on (beside (h.columns outer) (k.columns outer)) (λ p. found)

pub crossed-safe : (left right : From) → IsSafeFrom left → IsSafeFrom right → IsSafeFrom (crossed left right)
crossed-safe left right h k = record { columns = joined_columns-safe left right h k; source = λ outer. goes_on (beside (h.source outer) (k.source outer)) (λ p. found) }

on-safe : (on : Part Condition) (left right : From) → IsSafe on → IsSafeFrom left → IsSafeFrom right → (outer : Scope) → IsReasoned (on_found on left right outer)
on-safe on left right o h k outer = goes_on (joined_columns-safe left right h k outer) (λ columns. o.found (record { scope = frame_over (left.names ++ right.names) columns ∷ outer; clause = Plain }))

pub joined-safe : (made : Sides → Source) (on : Part Condition) (left right : From) → IsSafe on → IsSafeFrom left → IsSafeFrom right → IsSafeFrom (joined_on made on left right)
joined-safe made on left right o h k = record {
  columns = joined_columns-safe left right h k;
  source = λ outer. goes_on (goes_on (beside (beside (h.source outer) (k.source outer)) (beside (k.columns outer) (on-safe on left right o h k outer))) (λ p. found)) (λ sides. found);
}

abbrev pub IsSafeJoin : (From → From) → Type 0
IsSafeJoin join = (left : From) → IsSafeFrom left → IsSafeFrom (join left)

pub joined_by-safe : (joins : List (From → From)) (from : From) → AllByRecursion IsSafeJoin joins → IsSafeFrom from → IsSafeFrom (joined_by joins from)
joined_by-safe [] from h k = k
joined_by-safe (join ∷ joins) from h k = joined_by-safe joins (join from) h.1 (h.0 from k)

all_crossed-safe : (others : List From) (from : From) → AllByRecursion IsSafeFrom others → IsSafeFrom from → IsSafeFrom (all_crossed others from)
all_crossed-safe [] from h k = k
all_crossed-safe (other ∷ others) from h k = all_crossed-safe others (crossed from other) h.1 (crossed-safe from other k h.0)

pub from-safe : (references : List From) → AllByRecursion IsSafeFrom references → IsSafeFrom (from_of references)
from-safe [] h = record { columns = λ outer. faulty; source = λ outer. faulty }
from-safe (first ∷ others) h = all_crossed-safe others first h.1 h.0

-- ---- the select list

pub item-safe : (alias : Option Alias) (value : Part TypedExpression) → IsSafe value → IsSafe (named_item alias value)
item-safe alias value h = followed (λ x. Ok (shown_item (item_name alias value.name) x)) value (λ x. found) h

columns_from-safe : (key : Option (List ℕ)) (offers : List Offer) (at : ℕ) → AllByRecursion IsReasoned (columns_from key at offers)
columns_from-safe key [] at = tt
columns_from-safe key (offer ∷ offers) at = (goes_on (seen-safe key 0 _) (λ x. found), columns_from-safe key offers (at + 1))

all_columns-safe : (scope : Scope) → AllByRecursion IsReasoned (all_columns scope)
all_columns-safe [] = tt
all_columns-safe (frame ∷ outer) = columns_from-safe frame.key frame.columns 0

limited-safe : (items : List (Finding ShownItem)) → AllByRecursion IsReasoned items → IsReasoned (limited items)
limited-safe items h = goes_on (beside (counted 256 limit.Columns refl (length items)) (all items h)) (λ p. found)

abbrev pub IfItems : Option (List (Part ShownItem)) → Type 0
IfItems None = Unit {0}
IfItems (Some items) = AllByRecursion IsSafe items

select_list-safe : (items : Option (List (Part ShownItem))) → IfItems items → IsSafe (select_list items)
select_list-safe None h = none (λ view. limited-safe (all_columns view.scope) (all_columns-safe view.scope))
select_list-safe (Some items) h = every limited limited-safe items h

-- ---- groups and the whole SELECT

key-safe : (is_grouped : Bool) (groups : List Column) (scope : Scope) → IsReasoned (key_found is_grouped groups scope)
key-safe false groups scope = found
key-safe true groups scope = goes_on (mapped_any _ (λ column. goes_on (own_column-safe column scope) (λ x. found)) groups) (λ places. found)

-- the parts of a SELECT have their reasons
pub record AreSafe (select : Clauses) : Type 0 where
  pub items : IfItems select.items
  pub from : IsSafeFrom select.from
  pub filter : IfWritten select.filter
  pub having : IfWritten select.having

shown-safe : (select : Clauses) → AreSafe select → IsSafe (shown select)
shown-safe select h = two also (select_list select.items) (if_written select.having) (λ a b k l. beside k l) (select_list-safe select.items h.items) (written select.having h.having)

functions_list-safe : (functions : List FunctionFinding) (scope : Scope) → AllByRecursion IsSafeFunction functions → IsReasoned (each (map (λ function. function scope) functions))
functions_list-safe functions scope h = mapped IsSafeFunction (λ function. function scope) (λ function k. k scope) functions h

groups-safe : (select : Clauses) (frame : Frame) (outer : Scope) → AreSafe select → IsReasoned (groups_found select frame outer)
groups-safe select frame outer h =
    goes_on (key-safe (is_grouped select) select.groups (frame ∷ outer)) (λ key.
    goes_on ((shown-safe select h).found (record { scope = record frame { key = key } ∷ outer; clause = Shown (width key) })) (λ p. found))

settled-safe : (select : Clauses) (outer : Scope) (columns : List Offer) → AreSafe select → IsReasoned (settled_over select outer columns)
settled-safe select outer columns h =
    let frame = frame_over select.from.names columns in
    goes_on (beside ((written select.filter h.filter).found (record { scope = frame ∷ outer; clause = Plain }))
    (beside (functions_list-safe (shown select).functions (frame ∷ outer) (shown-safe select h).functions) (groups-safe select frame outer h))) (λ p. found)

pub clauses-safe : (select : Clauses) → AreSafe select → IsSafeQuery (clauses_found select)
clauses-safe select h outer =
    goes_on (beside (beside (counted 8 limit.Tables refl (length select.from.names)) (distinct select.from.names))
    (beside (h.from.source outer) (goes_on (h.from.columns outer) (λ columns. settled-safe select outer columns h)))) (λ p. found)

-- ---- set operators

pub agreeing-safe : (xs ys : List ValueType) → IsReasoned (agreeing xs ys)
agreeing-safe xs ys = either (length xs == length ys) (either (pointwise same_type xs ys) found faulty) faulty

combinable-safe : (first : Finding TypedQuery) → IsReasoned first → (other : SetOperation × Finding TypedQuery) → IsReasonedOperand other → IsReasoned (combinable first other)
combinable-safe first h (o, other) k = goes_on (beside h k) (λ p. goes_on (agreeing-safe (types_of (p.0).columns) (types_of (p.1).columns)) (λ agreed. found))

pub set_chain-safe : (first : Finding TypedQuery) (others : List (SetOperation × Finding TypedQuery)) → IsReasoned first → AllByRecursion IsReasonedOperand others → IsReasoned (set_chain first others)
set_chain-safe first [] h k = h
set_chain-safe first (other ∷ others) h k = goes_on (beside h (mapped IsReasonedOperand (combinable first) (combinable-safe first h) (other ∷ others) k)) (λ p. found)

-- ---- queries inside

only_column-safe : (q : Query) (columns : List ResultColumn) → IsReasoned (only_column q columns)
only_column-safe q [] = faulty
only_column-safe q (column ∷ []) = found
only_column-safe q (column ∷ other ∷ others) = faulty

pub of_one_column-safe : (x : Finding TypedQuery) → IsReasoned x → IsReasoned (of_one_column x)
of_one_column-safe x h = goes_on h (λ q. only_column-safe q.query q.columns)

pub scalar-safe : (x : Finding TypedQuery) → IsReasoned x → IsReasoned (scalar x)
scalar-safe x h = goes_on (of_one_column-safe x h) (λ q. found)

pub in_query-safe : (n : Bool) (x : Finding TypedExpression) (y : Finding (Query × ValueType)) → IsReasoned x → IsReasoned y → IsReasoned (in_query n x y)
in_query-safe n x y h k = goes_on (beside h k) (λ p. goes_on (must _ p.0) (λ e. found))

pub exists-safe : (x : Finding TypedQuery) → IsReasoned x → IsReasoned (exists x)
exists-safe x h = goes_on h (λ q. found)

-- ---- ORDER BY

only_place-safe : (places : List ℕ) → IsReasoned (only_place places)
only_place-safe [] = faulty
only_place-safe (place ∷ []) = found
only_place-safe (place ∷ other ∷ others) = faulty

sort_place-safe : (columns : List ResultColumn) (column : SortColumn) → IsReasoned (sort_place columns column)
sort_place-safe columns (sort.Named name) = only_place-safe (named_from 0 name columns)
sort_place-safe columns (sort.Position n) = either (nat_le 1 n && nat_le n (length columns)) found faulty

pub sort_key-safe : (columns : List ResultColumn) (key : SortKey) → IsReasoned (sort_key_found columns key)
sort_key-safe columns key = goes_on (sort_place-safe columns key.column) (λ place. found)
