use Rattle.operator_laws.proofs.LawLemmas.{and-table, or-table, not-table}
use Rattle.operator_laws.proofs.operators.connectives_are_the_tables.Goals as goal

pub returns : goal.returns
returns c = record { and = and-table; or = or-table; not = not-table }
