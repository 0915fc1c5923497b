use Rattle.syntax_laws.proofs.OneTree.{one_of_a_text}
use Rattle.syntax_laws.proofs.tree_laws.texts_have_at_most_one_tree.Goals as goal

pub returns : goal.returns
returns c limit text tokens others x y are also first second = one_of_a_text limit text tokens others x y are also first second
