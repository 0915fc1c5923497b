use Rattle.std.proofs.Common.{sym, ◌∙◌}
use Rattle.rule_laws.proofs.theorems.rules_agree.Goals as goal

pub returns-clause-statements : goal.returns-clause-statements
returns-clause-statements c rules others schema x are also = are.statements schema x ∙ sym (also.statements schema x)

pub returns-clause-checks : goal.returns-clause-checks
returns-clause-checks c rules others name columns text condition are also reads =
    are.checks name columns text condition reads ∙ sym (also.checks name columns text condition reads)
