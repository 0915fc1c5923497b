-- Items and SELECTs, once their parts are found.
use Rattle.std.specs.Prelude.{ℕ, List, map, Option, Ok}
use Rattle.ast.specs.declared.operator.Column.{Column}
use Rattle.ast.specs.declared.operator.Quantifier.{Quantifier}
use Rattle.typing.specs.declared.typed.Condition.{Condition}
use Rattle.typing.specs.declared.typed.Query.TheVariants as query
use Rattle.typing.specs.declared.typed.Select.{roll-Select}
use Rattle.typing.specs.declared.typed.SetFunction.{SetFunction}
use Rattle.typing.specs.declared.typed.Source.{Source}
use Rattle.typing.specs.declared.scope.Groups.{Groups}
use Rattle.typing.specs.declared.scope.Offer.{Offer}
use Rattle.typing.specs.declared.scope.Settled.{Settled}
use Rattle.typing.specs.declared.scope.ShownItem.{ShownItem}
use Rattle.typing.specs.declared.scope.TypedExpression.{TypedExpression}
use Rattle.typing.specs.declared.scope.TypedQuery.{TypedQuery}
use Rattle.typing.specs.Finding.{Finding, ◌>>=◌}
use Rattle.typing.specs.Scope.{Scope, own_column, seen_in}
use Rattle.typing.specs.Select.{column_of, grouping_of, shown_item, typed_item}
use Rattle.typing.specs.SetFunction.{is_distinct}

abbrev pub named : Option (List ℕ) → Finding TypedExpression → Finding ShownItem
named name found = found >>= (λ x. Ok (shown_item name x))

-- a column of `*`, by its place
abbrev pub shown_column : Option (List ℕ) → ℕ → Offer → Finding ShownItem
shown_column key place offer = seen_in key 0 (record { place = place; value_type = offer.value_type }) >>= (λ x. Ok (shown_item offer.name x))

abbrev pub own_place : Scope → Column → Finding ℕ
own_place scope column = own_column column scope >>= (λ found. Ok found.place)

abbrev pub settled : Finding (Option Condition × (List SetFunction × Groups)) → Finding Settled
settled found = found >>= (λ p. Ok (record { filter = p.0; functions = (p.1).0; groups = (p.1).1 }))

-- a SELECT whose parts are settled
abbrev pub made_select : Option Quantifier → List Column → Source → Settled → TypedQuery
made_select quantifier groups from settled = record {
  query = query.Select (roll-Select (record {
    distinct = is_distinct quantifier;
    items = map typed_item settled.groups.items;
    from = from;
    filter = settled.filter;
    grouping = grouping_of groups settled.functions settled.groups.having settled.groups.key;
  }));
  columns = map column_of settled.groups.items;
}
