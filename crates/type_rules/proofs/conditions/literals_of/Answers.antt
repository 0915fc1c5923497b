use Rattle.std.proofs.Common.{◌∙◌}
use Rattle.std.proofs.lemmas.Result.{err_from_is_err_and}
use Rattle.typing.specs.Condition.{literal_of}
use Rattle.type_rules.proofs.FindsLemmas.{Finds-each_item, each-finds, each-next}
use Rattle.type_rules.proofs.conditions.literals_of.Goals as goal

pub returns-in_err-literal_of : goal.returns-in_err-literal_of
returns-in_err-literal_of c =
    let p = err_from_is_err_and c.from_residual.result c.from_residual.ensures.1 in
    rw (p.1, p.2) (Finds-each_item _ (literal_of c.args.wanted) c.args.literals.now c.loop-literal.literal-index c.literal-item.result c.loop-literal-test.true c.literal-item.is c.in_err-literal_of.ensures)

pub loop-literal-preserved : goal.loop-literal-preserved
loop-literal-preserved c =
    rw c.in_ok-push.ensures.ok
    (each-next (literal_of c.args.wanted) c.args.literals.now c.loop-literal.literal-index c.literal-item.result c.loop-literal.values c.in_ok-literal_of.field-0 c.loop-literal-test.true c.literal-item.is c.in_ok-literal_of.ensures.ok ∙ c.loop-literal.invariant)

pub returns : goal.returns
returns c = each-finds (literal_of c.args.wanted) c.args.literals.now c.loop-literal.literal-index c.loop-literal.values c.loop-literal-test.false c.loop-literal.invariant
