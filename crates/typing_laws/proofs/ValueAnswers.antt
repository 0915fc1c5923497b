-- The types of the rows of an answer.
use Rattle.std.proofs.Common.{◌≡◌, sym, ap, ◌∙◌, List, [], map, Ok, Err}
use Rattle.ast.specs.declared.statement.OrderedQuery.{OrderedQuery as OrderedTree}
use Rattle.sqlval.specs.declared.value.ValueType.{ValueType}
use Rattle.sqlval.specs.Value.{Row}
use Rattle.typing.specs.declared.scope.TypedQuery.{TypedQuery}
use Rattle.typing.specs.declared.typed.OrderedQuery.{OrderedQuery}
use Rattle.typing.specs.declared.typed.OrderKey.{OrderKey}
use Rattle.typing.specs.declared.typed.Query.{Query}
use Rattle.typing.specs.Finding.{Finding, ◌>>=◌, each}
use Rattle.typing.specs.Known.{Known}
use Rattle.typing.specs.Order.{key_found, ordered_found}
use Rattle.typing.specs.Typing.{query_found}
use Rattle.denote.specs.Answer.{Answers}
use Rattle.denote.specs.Database.{Database, rows_in}
use Rattle.denote.specs.Meaning.{query_outcome}
use Rattle.denote.specs.Query.{denotes}
use Rattle.typing_laws.specs.WellTyped.{HasResult}
use Rattle.typing_laws.specs.Types.{AreRows, HasTypes, HoldsTypes}
use Rattle.typing_laws.proofs.Lists.{All-permutes}
use Rattle.typing_laws.proofs.ValueTrees.{query-typed}

pub answer-typed : (known : Known) (db : Database) (q : OrderedQuery) (types : List ValueType) (answer : List Row) → HoldsTypes known (rows_in db) → HasResult known [] q.query types
    → Answers (Ok answer) (denotes db q) → AreRows types answer
answer-typed known db q types answer holds h (whole, permuted, sorted) =
    All-permutes (HasTypes types) (query_outcome (rows_in db) q.query []).rows answer permuted (query-typed known (rows_in db) holds h [] tt)

-- the query of a text with ORDER BY is the one without it
same_query : (q : Query) (keys : Finding (List OrderKey)) (x : OrderedQuery) → (keys >>= (λ ks. Ok (record { query = q; keys = ks }))) ≡ Ok x → q ≡ x.query
same_query q (Ok ks) x e = cc
same_query q (Err reasons) x e = absurd (cc)

pub query_is : (known : Known) (tree : OrderedTree) (found : TypedQuery) (x : OrderedQuery) → query_found known tree.query [] ≡ Ok found → ordered_found known tree ≡ Ok x → found.query ≡ x.query
query_is known tree found x is e =
    same_query found.query (each (map (key_found found.columns) tree.order)) x
    (sym (ap (λ (f : Finding TypedQuery). f >>= (λ q. each (map (key_found q.columns) tree.order) >>= (λ keys. Ok (record { query = q.query; keys = keys })))) is) ∙ e)
