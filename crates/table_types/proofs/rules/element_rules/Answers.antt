use Rattle.table_types.proofs.RuleLists.{alone-is}
use Rattle.table_types.proofs.rules.element_rules.Goals as goal

pub returns-in-Column : goal.returns-in-Column
returns-in-Column c = rw c.in-Column.is (rw c.as_slice-constraints.ensures at c.column_rules.ensures)

pub returns-in-Constraint : goal.returns-in-Constraint
returns-in-Constraint c = rw (c.in-Constraint.is, alone-is) (c.alone.ensures _ c.table_rule.ensures)
