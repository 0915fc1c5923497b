use Rattle.kernels.proofs.GroupLaw.{group-law}
use Rattle.kernels.proofs.grouped.group_rows.Goals as goal

pub returns : goal.returns
returns c = λ functions env kinds evaluated.
    group-law c.args.columns.now functions env c.args.aggregates.now c.args.rows.now c.args.arguments.now c.in_ok-groups.groups c.rows_of_groups.result kinds evaluated c.in_ok-groups.ensures c.rows_of_groups.ensures
