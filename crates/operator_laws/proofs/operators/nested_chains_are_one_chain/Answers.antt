use Rattle.operator_laws.proofs.LawLemmas.{and-nested, or-nested}
use Rattle.operator_laws.proofs.operators.nested_chains_are_one_chain.Goals as goal

pub returns : goal.returns
returns c = record { and = and-nested; or = or-nested }
