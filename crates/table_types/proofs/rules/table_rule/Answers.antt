use Rattle.table_types.proofs.rules.table_rule.Goals as goal

pub returns-in-PrimaryKey : goal.returns-in-PrimaryKey
returns-in-PrimaryKey c = rw c.in-PrimaryKey.is (c.primary_key.ensures _ (rw c.as_slice.ensures at c.key_of.ensures))

pub returns-in-Unique : goal.returns-in-Unique
returns-in-Unique c = rw c.in-Unique.is (c.unique.ensures _ (rw c.as_slice-in-Unique.ensures at c.key_of-in-Unique.ensures))

pub returns-in-Check : goal.returns-in-Check
returns-in-Check c = rw c.in-Check.is c.check_rule.ensures

pub returns-in-ForeignKey : goal.returns-in-ForeignKey
returns-in-ForeignKey c = rw c.in-ForeignKey.is (c.reference_rule.ensures _ (rw c.as_slice-in-ForeignKey.ensures at c.key_of-own.ensures))
