-- ORDER BY, once the query is found.
use Rattle.std.specs.Prelude.{ℕ, List, map, Option, Ok}
use Rattle.ast.specs.declared.operator.Direction.{Direction}
use Rattle.ast.specs.declared.statement.SortKey.{SortKey}
use Rattle.typing.specs.declared.typed.OrderKey.{OrderKey}
use Rattle.typing.specs.declared.typed.OrderedQuery.{OrderedQuery}
use Rattle.typing.specs.declared.typed.Query.{Query}
use Rattle.typing.specs.declared.scope.TypedQuery.{TypedQuery}
use Rattle.typing.specs.Finding.{Finding, ◌>>=◌, each}
use Rattle.typing.specs.Order.{is_descending, key_found}

abbrev pub key_at : Option Direction → Finding ℕ → Finding OrderKey
key_at direction found = found >>= (λ place. Ok (record { place = place; descending = is_descending direction }))

abbrev pub keys_with : Query → Finding (List OrderKey) → Finding OrderedQuery
keys_with query found = found >>= (λ keys. Ok (record { query = query; keys = keys }))

abbrev pub ordered_by : List SortKey → Finding TypedQuery → Finding OrderedQuery
ordered_by order found = found >>= (λ q. keys_with q.query (each (map (key_found q.columns) order)))
