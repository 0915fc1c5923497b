use Rattle.std.proofs.Common.{[], subst}
use Rattle.typing.specs.declared.typed.Query.{Query}
use Rattle.typing.specs.SetOperator.{types_of}
use Rattle.typing_laws.specs.WellTyped.{HasResult}
use Rattle.typing_laws.proofs.ValueAnswers.{answer-typed, query_is}
use Rattle.typing_laws.proofs.ValueTrees.{query-typed, source-typed}
use Rattle.typing_laws.proofs.value_laws.queries_have_rows_of_their_types.Goals as goal

pub returns-clause-queries : goal.returns-clause-queries
returns-clause-queries c known tables rows env query types holds sees h = query-typed known tables holds h env sees

pub returns-clause-sources : goal.returns-clause-sources
returns-clause-sources c known tables rows env source types holds sees h = source-typed known tables holds h env sees

pub returns-clause-answers : goal.returns-clause-answers
returns-clause-answers c known db query answer holds well answers = answer-typed known db query well.types answer holds well.result answers

pub returns-clause-found : goal.returns-clause-found
returns-clause-found c known db tree found query answer holds is ordered answers =
    answer-typed known db query (types_of found.columns) answer holds
    (subst (λ (q : Query). HasResult known [] q (types_of found.columns)) (query_is known tree found query is ordered)
    (c.typed_queries_are_well_typed.ensures.queries known tree.query [] [] found tt is)) answers
