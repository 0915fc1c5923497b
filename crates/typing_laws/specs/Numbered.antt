-- The set functions of a typed SELECT, one for each of the text.
use Rattle.std.specs.Prelude.{◌≡◌, List, [], ◌∷◌, map, Option, Some, None, Ok}
use Rattle.refusals.specs.declared.reason.Reason.TheVariants.{Grouping as NotGrouped}
use Rattle.ast.specs.declared.tree.Primary.{Primary, Primary-F, out-Primary}
use Rattle.ast.specs.declared.tree.Select.{Select as Tree, out-Select as out-Tree}
use Rattle.ast.specs.Layers.{PrimaryLayer}
use Rattle.typing.specs.declared.typed.Condition.{Condition}
use Rattle.typing.specs.declared.typed.Expression.{Expression}
use Rattle.typing.specs.declared.typed.Grouping.{Grouping, out-Grouping}
use Rattle.typing.specs.declared.typed.Item.{Item}
use Rattle.typing.specs.declared.typed.Query.{Query, Query-F, out-Query}
use Rattle.typing.specs.declared.typed.Select.{Select, out-Select}
use Rattle.typing.specs.declared.typed.SetFunction.{SetFunction}
use Rattle.typing.specs.declared.typed.Source.{Source}
use Rattle.typing.specs.declared.scope.Offer.{Offer}
use Rattle.typing.specs.declared.scope.TypedQuery.{TypedQuery}
use Rattle.typing.specs.Finding.{Finding, ◌>>=◌, each, invalid}
use Rattle.typing.specs.From.{From, frame_over, from_of}
use Rattle.typing.specs.Known.{Known}
use Rattle.typing.specs.Scope.{Scope}
use Rattle.typing.specs.SetFunction.{aggregate_found, count_rows}
use Rattle.typing.specs.Typing.{expression_part, reference_part}

-- what a set function of the text is found to be, in the FROMs that its SELECT sees; nothing else
-- is one
abbrev pub function_meant : Known → PrimaryLayer → Scope → Finding SetFunction
function_meant known Primary-F.CountRows scope = count_rows scope >>= (λ found. Ok found.0)
function_meant known (Primary-F.Aggregate function quantifier argument) scope = aggregate_found function quantifier (expression_part known argument) scope >>= (λ found. Ok found.0)
function_meant known _ scope = invalid NotGrouped

-- the set functions of a typed SELECT, none where it makes no groups
abbrev pub functions_grouped : Option Grouping → List SetFunction
functions_grouped None = []
functions_grouped (Some grouping) = (out-Grouping grouping).functions

abbrev pub functions_selected : Query-F Condition Expression Query SetFunction Source Grouping Item Select
    → List SetFunction
functions_selected (Query-F.Select select) = functions_grouped (out-Select select).grouping
functions_selected (Query-F.Combined first others) = []

abbrev pub functions_of : Query → List SetFunction
functions_of query = functions_selected (out-Query query)

-- the FROM of a SELECT
abbrev pub from_in : Known → Tree → From
from_in known tree = from_of (map (reference_part known) (out-Tree tree).from)

-- The set functions of a typed SELECT are those of its text, each as it is found over the rows of
-- FROM: as many, in the same order.
pub record IsNumbered (known : Known) (tree : Tree) (outer : Scope) (found : TypedQuery) (text : List Primary) : Type 0 where
  pub columns : List Offer
  pub offered : (from_in known tree).columns outer ≡ Ok columns
  pub functions : each (map (λ x. function_meant known (out-Primary x) (frame_over (from_in known tree).names columns ∷ outer)) text) ≡ Ok (functions_of found.query)
