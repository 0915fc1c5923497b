-- Where the values of a SELECT's set functions stand in its select list and in HAVING (ISO/IEC
-- 9075:1992, 6.5, 7.8 and 7.9). Both see, of each group, a row that begins with the group's key: a
-- column of this row past the key is the value of a set function.
use Rattle.std.specs.Prelude.{◌≡◌, ℕ, zero, suc, nat_lt, ◌≤◌, ◌++◌, List, [], ◌∷◌, map, flat_map, length, Option, Some, None, Ok, if◌then◌else◌, Contains}
use Rattle.std.specs.List.{range_with_len}
use Rattle.ast.specs.declared.tree.Condition.{Condition as WrittenCondition}
use Rattle.ast.specs.declared.tree.Expression.{Expression as Written}
use Rattle.ast.specs.declared.tree.Primary.{Primary}
use Rattle.ast.specs.declared.tree.Select.{Select as Tree}
use Rattle.ast.specs.Parts.{Node}
use Rattle.ast.specs.Parts as node
use Rattle.sqlval.specs.Value.{Row}
use Rattle.typing.specs.declared.typed.Condition.{Condition, Condition-F, fold-Condition}
use Rattle.typing.specs.declared.typed.Expression.{Expression, Expression-F, fold-Expression}
use Rattle.typing.specs.declared.typed.Grouping.{Grouping, Grouping-F, out-Grouping}
use Rattle.typing.specs.declared.typed.Item.{Item, Item-F, out-Item}
use Rattle.typing.specs.declared.typed.Query.{Query, Query-F, out-Query}
use Rattle.typing.specs.declared.typed.Select.{Select, Select-F, out-Select}
use Rattle.typing.specs.declared.typed.SetFunction.{SetFunction, SetFunction-F}
use Rattle.typing.specs.declared.typed.Source.{Source, Source-F}
use Rattle.typing.specs.declared.scope.Frame.{Frame}
use Rattle.typing.specs.declared.scope.TypedExpression.{TypedExpression}
use Rattle.typing.specs.declared.scope.TypedQuery.{TypedQuery}
use Rattle.typing.specs.Known.{Known}
use Rattle.typing.specs.Part.{Shown}
use Rattle.typing.specs.Scope.{Scope}
use Rattle.typing.specs.Select.{width}
use Rattle.typing.specs.Typing.{condition_part, expression_part}
use Rattle.denote.specs.Evaluation.{Env}
use Rattle.denote.specs.Expression.{column}
use Rattle.denote.specs.Group.{group_row, keys_of, members}
use Rattle.denote.specs.Meaning.{Tables, function_value}
use Rattle.typing_laws.specs.Listed.{Lists}
use Rattle.typing_laws.specs.Numbered.{functions_of}

-- ---- the columns past the key, from left to right; those of queries inside are left out

-- a node whose parts stand as their places
abbrev pub Layer : ((A B C D E F G H : Type 0) → Type 0) → Type 0
Layer T = T (List ℕ) (List ℕ) (List ℕ) (List ℕ) (List ℕ) (List ℕ) (List ℕ) (List ℕ)

abbrev pub all_of : List (List ℕ) → List ℕ
all_of parts = flat_map (λ part. part) parts

abbrev pub condition_step : Layer Condition-F → List ℕ
condition_step (Condition-F.Or operands) = all_of operands
condition_step (Condition-F.And operands) = all_of operands
condition_step (Condition-F.Not operand) = operand
condition_step (Condition-F.IsTruth operand truth) = operand
condition_step (Condition-F.Compare op a b) = a ++ b
condition_step (Condition-F.Between operand low high) = operand ++ low ++ high
condition_step (Condition-F.InList operand values) = operand
condition_step (Condition-F.InQuery operand query) = operand
condition_step (Condition-F.Like operand pattern) = operand ++ pattern
condition_step (Condition-F.IsNull operand) = operand
condition_step (Condition-F.Exists query) = []

abbrev pub query_step : Layer Query-F → List ℕ
query_step query = []

abbrev pub function_step : Layer SetFunction-F → List ℕ
function_step function = []

abbrev pub source_step : Layer Source-F → List ℕ
source_step source = []

abbrev pub grouping_step : Layer Grouping-F → List ℕ
grouping_step grouping = []

abbrev pub item_step : Layer Item-F → List ℕ
item_step item = []

abbrev pub select_step : Layer Select-F → List ℕ
select_step select = []

-- over a key of so many columns
module _ (key : ℕ) where
  -- a column of the row of the group, or of a SELECT further outwards
  abbrev pub past_key : ℕ → ℕ → List ℕ
  past_key zero place = if nat_lt place key then [] else place ∷ []
  past_key (suc depth) place = []

  abbrev pub expression_step : Layer Expression-F → List ℕ
  expression_step (Expression-F.Constant x) = []
  expression_step (Expression-F.Column depth place) = past_key depth place
  expression_step (Expression-F.Calculation first others) = first ++ flat_map (λ other. other.1) others
  expression_step (Expression-F.Concatenation first others) = first ++ all_of others
  expression_step (Expression-F.Negation operand) = operand
  expression_step (Expression-F.Scalar query) = []

  unfoldable pub places_in : Expression → List ℕ
  places_in = fold-Expression _ _ _ _ _ _ _ _ condition_step expression_step query_step function_step source_step grouping_step item_step select_step

  unfoldable pub places_asked : Condition → List ℕ
  places_asked = fold-Condition _ _ _ _ _ _ _ _ condition_step expression_step query_step function_step source_step grouping_step item_step select_step

  abbrev pub places_if : Option Condition → List ℕ
  places_if None = []
  places_if (Some condition) = places_asked condition

-- of a select list and then HAVING; none where there are no groups
abbrev pub places_over : Option Grouping → List Item → List ℕ
places_over None items = []
places_over (Some grouping) items =
    flat_map (λ item. places_in (width (out-Grouping grouping).columns) (out-Item item).expression) items
    ++ places_if (width (out-Grouping grouping).columns) (out-Grouping grouping).having

abbrev pub places_selected : Query-F Condition Expression Query SetFunction Source Grouping Item Select → List ℕ
places_selected (Query-F.Select select) = places_over (out-Select select).grouping (out-Select select).items
places_selected (Query-F.Combined first others) = []

abbrev pub value_places : Query → List ℕ
value_places query = places_selected (out-Query query)

-- ---- how many columns the key has

abbrev pub width_over : Option Grouping → ℕ
width_over None = 0
width_over (Some grouping) = width (out-Grouping grouping).columns

abbrev pub width_selected : Query-F Condition Expression Query SetFunction Source Grouping Item Select → ℕ
width_selected (Query-F.Select select) = width_over (out-Select select).grouping
width_selected (Query-F.Combined first others) = 0

abbrev pub key_width : Query → ℕ
key_width query = width_selected (out-Query query)

-- ---- laws

-- In a select list and HAVING the places past the key stand in order, as many as there are set
-- functions, each once.
abbrev pub IsPlaced : Known → Tree → Scope → TypedQuery → Type 0
IsPlaced known tree outer found = value_places found.query ≡ range_with_len (key_width found.query) (length (functions_of found.query))

-- An expression of the text that stands where the values go on from a place has those of the set
-- functions that are written in it, and no others.
abbrev pub IsExpressionPlaced : Known → Written → Frame → Scope → List ℕ → ℕ → TypedExpression → List Primary → Type 0
IsExpressionPlaced known tree frame outer key first found functions =
    frame.key ≡ Some key → length key ≤ first
    → (expression_part known tree).found (record { scope = frame ∷ outer; clause = Shown first }) ≡ Ok found
    → Lists (node.expression tree ∷ []) functions
    → places_in (length key) found.expression ≡ range_with_len first (length functions)

-- likewise a condition
abbrev pub IsConditionPlaced : Known → WrittenCondition → Frame → Scope → List ℕ → ℕ → Condition → List Primary → Type 0
IsConditionPlaced known tree frame outer key first found functions =
    frame.key ≡ Some key → length key ≤ first
    → (condition_part known tree).found (record { scope = frame ∷ outer; clause = Shown first }) ≡ Ok found
    → Lists (node.condition tree ∷ []) functions
    → places_asked (length key) found ≡ range_with_len first (length functions)

-- The row of a group has at these places the values of the set functions over the rows of the
-- group, in their order.
abbrev pub IsValued : Tables → Grouping → Env → List Row → Row → Row → Type 0
IsValued tables grouping env rows key row =
    let columns = (out-Grouping grouping).columns in
    let functions = (out-Grouping grouping).functions in
    Contains (keys_of columns rows) key
    → group_row columns (map (function_value tables) functions) env rows key ≡ Ok (row ∷ [])
    → map (λ place. Ok (column (row ∷ env) 0 place)) (range_with_len (width columns) (length functions))
    ≡ map (λ function. function_value tables function env (members columns key rows)) functions
