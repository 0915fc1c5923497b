use Rattle.typing.specs.Typing.{negation_part}
use Rattle.scopes.proofs.Counted.{past-ok}
use Rattle.scopes.proofs.view.after_negation.Goals as goal

pub returns-clause-ok : goal.returns-clause-ok
returns-clause-ok c = λ k. past-ok c.past.result (negation_part k c.args.tree.now) _ c.args.view.now c.past.ensures.ok (c.count_in_negation.ensures k)
