use Rattle.syntax_laws.proofs.OneTree.{one_statement, one_condition}
use Rattle.syntax_laws.proofs.tree_laws.tokens_have_at_most_one_tree.Goals as goal

pub returns-clause-statement : goal.returns-clause-statement
returns-clause-statement c limit tokens x y first second = one_statement limit tokens x y first second

pub returns-clause-condition : goal.returns-clause-condition
returns-clause-condition c limit tokens x y first second = one_condition limit tokens x y first second
