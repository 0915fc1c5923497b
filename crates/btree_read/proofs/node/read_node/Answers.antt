use Rattle.std.proofs.Common.{◌≡◌, length, rules}
use Rattle.btree_read.proofs.NodeLemmas.{fits_of, empty_node}
use Rattle.btree_read.proofs.node.read_node.Goals as goal

pub returns-then-is_empty-clause-refusal : goal.returns-then-is_empty-clause-refusal
returns-then-is_empty-clause-refusal g c =
    let none : length c.in-Some.node.cells ≡ 0 = search rules in
    λ node. empty_node _ _ _ _ node c.in_ok-known.ensures.bytes c.in-Some.ensures.view.1 none

pub returns-clause-fits : goal.returns-clause-fits
returns-clause-fits g c = fits_of _ _ _ c.in-Some.ensures.sound c.in-Some.ensures.view.1
