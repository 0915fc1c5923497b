use Rattle.std.proofs.Common.{sym, subst, ◌∙◌}
use Rattle.algebra.specs.Described.{described_in}
use Rattle.algebra.specs.Translated.{tree_of_ordered}
use Rattle.typing.specs.declared.typed.OrderedQuery as typed
use Rattle.query_answers.specs.Explanation.{ShowsPlan}
use Rattle.sessions.proofs.ExplainSteps.{one_query}
use Rattle.sessions.proofs.explaining.lines_of.Goals as goal

pub returns-in-Ok-clause-explained : goal.returns-in-Ok-clause-explained
returns-in-Ok-clause-explained c = λ query is.
    subst (λ (q : typed.OrderedQuery). ShowsPlan (tree_of_ordered (described_in c.args.schema.now) q) c.in-Ok.lines)
    (one_query c.in-Explain.query query (sym c.in-Explain.is ∙ is)) c.in-Ok.ensures.shows

pub returns-in-Ok-clause-refused : goal.returns-in-Ok-clause-refused
returns-in-Ok-clause-refused c = tt

pub returns-in-Ok-clause-device : goal.returns-in-Ok-clause-device
returns-in-Ok-clause-device c = tt

pub returns-in-Ok-clause-limits : goal.returns-in-Ok-clause-limits
returns-in-Ok-clause-limits c = tt
