use Rattle.std.proofs.Common.{◌∙◌}
use Rattle.std.proofs.lemmas.Result.{err_from_is_err_and}
use Rattle.type_rules.proofs.FindsLemmas.{Finds-each_item, each-finds, each-next}
use Rattle.typing.specs.Known.{known}
use Rattle.table_types.specs.Checks.{without_key}
use Rattle.table_types.specs.ForeignKeys.{referencing_of}
use Rattle.table_types.specs.Tables.{column_rule_of}
use Rattle.table_types.proofs.rules.column_rules.Goals as goal

pub returns-in_err-column_rule : goal.returns-in_err-column_rule
returns-in_err-column_rule c =
    let p = err_from_is_err_and c.from_residual.result c.from_residual.ensures.1 in
    rw (p.1, p.2) (Finds-each_item _ (λ k. column_rule_of (without_key c.args.frame.now) (referencing_of (known c.args.schema.now) c.args.tree.now c.args.definitions.now) c.args.place k.rule) c.args.constraints.now c.loop-constraint.constraint-index c.constraint-item.result c.loop-constraint-test.true c.constraint-item.is c.in_err-column_rule.ensures)

pub loop-constraint-preserved : goal.loop-constraint-preserved
loop-constraint-preserved c =
    rw c.in_ok-push.ensures.ok
    (each-next (λ k. column_rule_of (without_key c.args.frame.now) (referencing_of (known c.args.schema.now) c.args.tree.now c.args.definitions.now) c.args.place k.rule) c.args.constraints.now c.loop-constraint.constraint-index c.constraint-item.result c.loop-constraint.rules c.in_ok-column_rule.field-0 c.loop-constraint-test.true c.constraint-item.is c.in_ok-column_rule.ensures.ok ∙ c.loop-constraint.invariant)

pub returns : goal.returns
returns c = each-finds (λ k. column_rule_of (without_key c.args.frame.now) (referencing_of (known c.args.schema.now) c.args.tree.now c.args.definitions.now) c.args.place k.rule) c.args.constraints.now c.loop-constraint.constraint-index c.loop-constraint.rules c.loop-constraint-test.false c.loop-constraint.invariant
