use Rattle.table_types.proofs.rules.column_rule.Goals as goal

pub returns-in-Check : goal.returns-in-Check
returns-in-Check c = rw c.in-Check.is c.check_rule.ensures

pub returns-in-References : goal.returns-in-References
returns-in-References c = rw c.in-References.is (c.reference_rule.ensures _ c.lone-own.ensures)
